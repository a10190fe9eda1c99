-- What is printed, said of every file: without weights, for one taxon and for two, of an `F` file, and that something is.
use mathlib.Core.Path.{◌≡◌, refl, ap, ap₂, ◌∙◌}
use mathlib.Core.Bool.{false}
use mathlib.Core.List.{List, [], ◌∷◌, ◌++◌, map, flat_map}
use Prim.Native.Nat.{ℕ, ◌≤◌}
use Prim.Native.String.{String}
use native.Mathlib.Omega.{arith}
use lib.ListN.{length, length-append}
use Rattle.lists.proofs.Filled.{get_d_replicate}
use Rattle.matrix_form.specs.Shape.{weight_at}
use Rattle.matrix_form.specs.Outcomes.{Outcome, value, refused}
use Rattle.text_form.specs.Decimal.{digits_of}
use Rattle.text_form.specs.Text.{bytes}
use Rattle.file_form.specs.Job.{Job}
use Rattle.file_form.specs.declared.header.Kind.{Kind}
use Rattle.file_form.specs.declared.header.Kind.TheVariants.{Wagner, Own}
use Rattle.file_form.specs.Reading.{read_answer}
use Rattle.file_form.proofs.File.FileOfRead.{file_of_read}
use Rattle.difference_form.specs.Rows.{Measure, plain}
use Rattle.difference_form.proofs.Laws.Measure.{measure_alike}
use Rattle.tree_form.specs.Ancestors.{tree_with}
use Rattle.tree_form.specs.Nodes.{other_nodes}
use Rattle.listing_form.specs.Lines.{joined}
use Rattle.listing_form.specs.Kinds.{total_line, index_line, refusal_line}
use Rattle.std.specs.Prelude.{None}
use Rattle.listing_form.specs.Meant.{measure_meant, tree_meant}
use Rattle.listing_form.specs.Blocks.{PrintedTree, fitted_lines, lines_of_tree}
use Rattle.listing_form.specs.Listing.{tree_numbers, lines_before, listing, printed, output}
use Rattle.listing_form.proofs.Joined.{flat_map-append, joined-one, joined-block}
use Rattle.listing_form.proofs.LineSizes.{sizes, line-size}
use Rattle.listing_form.proofs.OneTaxon.{one-taxon, own-taxon, with_taxa}
use Rattle.listing_form.proofs.Parts.{own-listing, OneOfEach, two_taxa}
use Rattle.listing_form.proofs.Printed.{output-printed}

module _ (file : List ℕ) (job : Job) (read : read_answer file ≡ value job) where
  -- an accepted file's output is its job's listing
  accepted_output : output file ≡ joined (listing (measure_meant job) job)
  unfolding printed
  accepted_output = output-printed file (value job) read

  -- where every character weighs 1 it is the listing by document 01's measure
  pub alike-output : ((i : ℕ) → weight_at job.weights i ≡ 1) → output file ≡ joined (listing plain job)
  alike-output alike = accepted_output ∙ ap (λ (measure : Measure). joined (listing measure job)) (measure_alike job.weights alike)

  -- and so without a `V` line
  pub unweighed_output : job.weighed ≡ false → output file ≡ joined (listing plain job)
  unfolding weight_at
  unweighed_output none =
      alike-output (λ i.
      ap (λ (weights : List ℕ). weight_at weights i) ((file_of_read file job read).0.weights_unsaid none)
      ∙ get_d_replicate 1 job.m i)

  -- the same of a job with this kind and number of taxa
  known-output : (kind : Kind) (n : ℕ) → job.kind ≡ kind → job.n ≡ n
      → output file ≡ joined (listing (measure_meant job) (with_taxa kind n job))
  known-output kind n k e = accepted_output ∙ ap₂ (λ (x : Kind) (y : ℕ). joined (listing (measure_meant job) (with_taxa x y job))) k e

  -- of one taxon: `p 0`, `w 0`, `t 0`, `c` with two hyphens, whatever its name, its codes and their number
  pub one_taxon-file : job.kind ≡ Wagner → job.n ≡ 1
      → output file ≡ joined (total_line "p" 0 ∷ total_line "w" 0 ∷ total_line "t" 0 ∷ index_line None ∷ [])
  one_taxon-file k e =
      known-output Wagner 1 k e ∙ ap joined (one-taxon (measure_meant job) job)

  -- of one taxon in an `F` file: `t 0`, and this `c`
  pub own_taxon_file : job.kind ≡ Own → job.n ≡ 1 → output file ≡ joined (total_line "t" 0 ∷ index_line None ∷ [])
  own_taxon_file k e =
      known-output Own 1 k e ∙ ap joined (own-taxon (measure_meant job) job)

  -- of two taxa: one `P`, one `W` and one `T` line, and no `H`; in an `F` file one `T` line and no `H`
  pub two_taxa_file : job.n ≡ 2 → (output file ≡ joined (listing (measure_meant job) job)) × OneOfEach (measure_meant job) job
  two_taxa_file e = (accepted_output, two_taxa (measure_meant job) job e)

  -- the lines of an `F` file are those of its own branching: `T` lines, `t`, `c` and `H` lines, and no other
  pub own-file : job.kind ≡ Own
      → output file ≡ joined (lines_of_tree job.n job.names job.m (tree_numbers (measure_meant job) job (tree_with job.ancestors)))
  own-file k = accepted_output ∙ ap joined (own-listing (measure_meant job) job k)

-- the line of a total has some
total-some : (letter : String) (total : ℕ) → 1 ≤ length (total_line letter total)
unfolding total_line sizes
total-some letter total = omega (arith, line-size (bytes letter) (digits_of total ∷ []))

-- so lines that end in the line of a total have some, whatever stands behind them
block_some : {A : Type 0} (f : A → List ℕ) (xs : List A) (letter : String) (total : ℕ) (rest : List (List ℕ))
    → 1 ≤ length (joined ((map f xs ++ (total_line letter total ∷ [])) ++ rest))
block_some f xs letter total rest =
    rw (flat_map-append (λ line. line) (map f xs ++ (total_line letter total ∷ [])) rest, joined-block f xs (total_line letter total))
    (omega (
      arith,
      length-append (flat_map f xs ++ total_line letter total) (joined rest),
      length-append (flat_map f xs) (total_line letter total),
      total-some letter total,
    ))

-- some byte is printed of the lines of a tree
tree_some : (job : Job) (x : PrintedTree) → 1 ≤ length (joined (lines_of_tree job.n job.names job.m x))
unfolding lines_of_tree fitted_lines
tree_some job x = block_some _ (other_nodes job.n) "t" x.t _

-- some byte is printed of a listing
listing-some : (job : Job) → 1 ≤ length (joined (listing (measure_meant job) job))
unfolding listing
listing-some job =
    let before = lines_before job.kind (measure_meant job) job in
    let numbers = tree_numbers (measure_meant job) job (tree_meant (measure_meant job) job) in
    rw (flat_map-append (λ line. line) before (lines_of_tree job.n job.names job.m numbers))
    (omega (arith, length-append (joined before) (joined (lines_of_tree job.n job.names job.m numbers)), tree_some job numbers))

-- and of a refusal
refusal_some : (number line : ℕ) → 1 ≤ length (joined (refusal_line number line ∷ []))
unfolding refusal_line sizes
refusal_some number line =
    omega (arith, ap length (joined-one (refusal_line number line)), line-size (bytes "R") (digits_of number ∷ digits_of line ∷ []))

-- so of every file
pub output-some : (file : List ℕ) → 1 ≤ length (output file)
unfolding printed
output-some file = by (read_answer file) refl
  where
    by : (answer : Outcome Job) → read_answer file ≡ answer → 1 ≤ length (output file)
    by (value job) e = rw (output-printed file (value job) e) (listing-some job)
    by (refused number line) e = rw (output-printed file (refused number line) e) (refusal_some number line)
