-- The listing of a job by its parts: its lines by the kind of file, and how many lines of each kind there are.
use mathlib.Core.Path.{◌≡◌, refl, ap, ◌∙◌}
use mathlib.Core.List.{List, [], ◌∷◌, ◌++◌, map, flat_map}
use Prim.Native.Nat.{ℕ, zero, suc, ◌+◌, ◌-◌, ◌*◌}
use native.Mathlib.Omega.{arith}
use lib.IntN.{ℤ}
use lib.ListN.{length, length-map, length-append}
use Rattle.lists.specs.Numbers.{numbers}
use Rattle.lists.proofs.Numbers.{length-numbers, length_map_numbers}
use Rattle.matrix_form.specs.NodeRows.{row_of}
use Rattle.file_form.specs.Job.{Job}
use Rattle.file_form.specs.declared.header.Kind.TheVariants.{Wagner, Own}
use Rattle.difference_form.specs.Rows.{Measure, node_difference}
use Rattle.prim_form.proofs.Placing.{network-length}
use Rattle.tree_form.specs.Ancestors.{tree_with}
use Rattle.tree_form.specs.Nodes.{other_nodes, htus}
use Rattle.tree_form.specs.declared.order.Order.{Order}
use Rattle.wagner_form.specs.Build.{wagner, build, build_on}
use Rattle.listing_form.specs.Kinds.{total_line, prim_line, wagner_line}
use Rattle.listing_form.specs.Meant.{order_meant, links_meant, built_meant, tree_for}
use Rattle.listing_form.specs.Blocks.{PrintedTree, network_lines, build_lines, fitted_line, fitted_lines, node_lines, state_lines, lines_of_build, lines_of_tree}
use Rattle.listing_form.specs.Listing.{build_numbers, tree_numbers, lines_before, listing}

-- so many items, each with as many texts
length-each : {A B : Type 0} (f : A → List B) (size : ℕ) (xs : List A) → ((x : A) → length (f x) ≡ size) → length (flat_map f xs) ≡ length xs * size
unfolding flat_map
length-each f size [] h = omega arith
length-each f size (x ∷ xs) h = omega (arith, length-append (f x) (flat_map f xs), h x, length-each f size xs h)

-- a build of so many placements records as many
build-count : (d : List ℤ → List ℤ → ℕ) (next : ℕ → List ℕ → List (List ℤ) → ℕ) (n count : ℕ) (tree : List ℕ) (rows : List (List ℤ))
    → length (build_on d next n count tree rows).placements ≡ count
unfolding build_on
build-count d next n zero tree rows = refl
build-count d next n (suc count) tree rows = ap suc (build-count d next n count _ _)

-- the Wagner tree of n taxa has n-1 placements
pub wagner-count : (d : List ℤ → List ℤ → ℕ) (order : Order) (n : ℕ) (rows : List (List ℤ))
    → length (wagner d order n rows).placements ≡ n - 1
unfolding wagner build
wagner-count d order n rows = build-count d _ n (n - 1) _ rows

module _ (measure : Measure) (job : Job) where
  -- the lines of a tree of the job
  abbrev pub tree_lines : List ℕ → List (List ℕ)
  tree_lines tree = lines_of_tree job.n job.names job.m (tree_numbers measure job tree)

  -- the listing of a `W` file: the lines of network and build, and those of the tree built
  pub built-listing : job.kind ≡ Wagner
      → listing measure job ≡ lines_of_build job.n job.names (build_numbers measure job) ++ tree_lines (built_meant measure job).tree
  unfolding listing lines_before tree_for
  built-listing kind = ap (λ k. lines_before k measure job ++ tree_lines (tree_for k measure job)) kind

  -- that of an `F` file: the lines of its own branching
  pub own-listing : job.kind ≡ Own → listing measure job ≡ tree_lines (tree_with job.ancestors)
  unfolding listing lines_before tree_for
  own-listing kind = ap (λ k. lines_before k measure job ++ tree_lines (tree_for k measure job)) kind

  -- n-1 `P` lines, and `p`
  pub prim_count : (p : ℕ) → length (network_lines job.n job.names (links_meant measure job) p) ≡ job.n - 1 + 1
  unfolding network_lines
  prim_count p =
      omega (
        arith,
        length-append (map (prim_line job.n job.names) (links_meant measure job)) (total_line "p" p ∷ []),
        length-map (links_meant measure job) (prim_line job.n job.names),
        network-length (node_difference measure.rows (row_of job.rows)) job.n,
      )

  -- n-1 `W` lines, and `w`
  pub build_count : (w : ℕ) → length (build_lines job.n job.names (built_meant measure job).placements w) ≡ job.n - 1 + 1
  unfolding build_lines
  build_count w =
      omega (
        arith,
        length-append (map (wagner_line job.n job.names) (built_meant measure job).placements) (total_line "w" w ∷ []),
        length-map (built_meant measure job).placements (wagner_line job.n job.names),
        wagner-count measure.rows (order_meant job.order) job.n job.rows,
      )

-- 2n-3 `T` lines, and `t`
pub fitted_count : (n : ℕ) (names : List (List ℕ)) (x : PrintedTree) → length (fitted_lines n names x.tree x.lengths x.marks x.t) ≡ 2 * n - 3 + 1
unfolding fitted_lines other_nodes
fitted_count n names x =
    let text : ℕ → List ℕ = fitted_line n names x.tree x.lengths x.marks in
    omega (arith, length-append (map text (numbers 2 (2 * n - 3))) (total_line "t" x.t ∷ []), length_map_numbers text 2 (2 * n - 3))

-- (n-2)m `H` lines
pub state_count : (n m : ℕ) (names : List (List ℕ)) (low high chosen : ℕ → ℕ → ℤ)
    → length (state_lines n names low high chosen m) ≡ (n - 2) * m
unfolding state_lines node_lines
state_count n m names low high chosen =
    length-each (node_lines n names low high chosen m) m (htus n) (λ v. length_map_numbers _ 1 m)
    ∙ ap (λ (count : ℕ). count * m) (length-numbers (n + 1) (n - 2))

-- two taxa: one `P`, one `W` and one `T` line, each with the line of its total, and no `H`, whatever the tree
pub record OneOfEach (measure : Measure) (job : Job) : Type 0 where
  pub p : (p : ℕ) → length (network_lines job.n job.names (links_meant measure job) p) ≡ 2
  pub w : (w : ℕ) → length (build_lines job.n job.names (built_meant measure job).placements w) ≡ 2
  pub t : (x : PrintedTree) → length (fitted_lines job.n job.names x.tree x.lengths x.marks x.t) ≡ 2
  pub h : (x : PrintedTree) → state_lines job.n job.names x.low x.high x.chosen job.m ≡ []

-- a list of no entries
no_lines : {A : Type 0} (xs : List A) → length xs ≡ 0 → xs ≡ []
no_lines [] e = refl
no_lines (x ∷ xs) e = absurd (omega arith)

-- every job of two taxa has these
pub two_taxa : (measure : Measure) (job : Job) → job.n ≡ 2 → OneOfEach measure job
two_taxa measure job e = record {
  p = λ p. omega (arith, prim_count measure job p);
  w = λ w. omega (arith, build_count measure job w);
  t = λ x. omega (arith, fitted_count job.n job.names x);
  h = λ x. no_lines _ (state_count job.n job.m job.names x.low x.high x.chosen ∙ ap (λ (n : ℕ). (n - 2) * job.m) e ∙ omega arith);
}
