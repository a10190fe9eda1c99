-- The room that a listing takes: what its lines have by their kinds, summed by the kind of file, is at most 315,057 bytes.
use mathlib.Core.Path.{◌≡◌, refl, ap}
use mathlib.Core.Bool.{true}
use mathlib.Core.List.{List, [], ◌∷◌, ◌++◌, map, flat_map, Memᴰ}
use Prim.Native.Nat.{ℕ, ◌+◌, ◌-◌, ◌*◌, ◌≤◌, ◌<◌}
use native.Mathlib.Omega.{arith}
use Rattle.std.proofs.Math.Nat.{mul-le-mul_right}
use lib.ListN.{length, length-append}
use Rattle.lists.specs.Numbers.{numbers}
use Rattle.lists.proofs.Numbers.{numbers-within, length-numbers}
use Rattle.lists.proofs.Sums.{sum_most}
use Rattle.matrix_form.specs.NodeRows.{row_of}
use Rattle.file_form.specs.Job.{Job, JobWithinLimits}
use Rattle.text_form.specs.Text.{bytes}
use Rattle.file_form.specs.Branches.{branched}
use Rattle.file_form.specs.declared.header.Kind.{Kind}
use Rattle.file_form.specs.declared.header.Kind.TheVariants.{Wagner, Own}
use Rattle.difference_form.specs.Rows.{most_difference, node_difference}
use Rattle.prim_form.specs.Network.{network_length}
use Rattle.prim_form.proofs.Connected.{network_total_le}
use Rattle.prim_form.proofs.Placing.{network-length}
use Rattle.tree_form.specs.declared.placement.Placement.{Placement}
use Rattle.tree_form.specs.Ancestors.{tree_with}
use Rattle.tree_form.specs.Facts.{Branching}
use Rattle.tree_form.specs.Growing.{branching}
use Rattle.tree_form.proofs.Test.{branching_iff}
use Rattle.tree_form.specs.Nodes.{other_nodes, htus}
use Rattle.wagner_form.specs.Build.{wagner_length}
use Rattle.wagner_form.proofs.Whole.{wagner-branching}
use Rattle.fit_form.specs.Fit.{fitted_length, fitted_total}
use Rattle.listing_form.specs.Lines.{joined}
use Rattle.listing_form.specs.Kinds.{total_line, index_line, prim_line, wagner_line}
use Rattle.listing_form.specs.Meant.{order_meant, measure_meant, links_meant, built_meant, states_meant}
use Rattle.listing_form.specs.Blocks.{
  PrintedTree,
  fitted_line,
  state_line_of,
  network_lines,
  build_lines,
  fitted_lines,
  node_lines,
  state_lines,
  lines_of_build,
  lines_of_tree,
}
use Rattle.listing_form.specs.Listing.{build_numbers, tree_numbers, listing}
use Rattle.listing_form.specs.Calls.{output_size}
use Rattle.listing_form.proofs.Joined.{flat_map-append, joined-map, joined-block, joined-behind, joined-each, texts_room}
use Rattle.listing_form.proofs.Parts.{built-listing, own-listing, wagner-count}
use Rattle.listing_form.proofs.Totals.{Limits, limits, wagner-total, tree-total}
use Rattle.listing_form.proofs.Bounds.Rows.{near_job, node_apart}
use Rattle.listing.proofs.Bounds.Fit.{fitted-apart, floor-below}
use Rattle.listing.proofs.Bounds.LineRooms.{
  most_total_line,
  most_prim_line,
  most_wagner_line,
  most_branch_line,
  most_index_line,
  most_state_line,
  index-size,
  total_size,
  small,
  prim_size,
  wagner-size,
  branch-size,
  state-size,
}

-- the lines of a tree of 64 taxa and 128 characters: 125 `T` lines, `t`, `c`, and the `H` lines of 62 HTUs
abbrev pub most_tree : ℕ
most_tree = 125 * most_branch_line + most_total_line + most_index_line + 62 * (128 * most_state_line)

-- a listing, by the kind of file: in a `W` file 63 `P` lines and `p`, 63 `W` lines and `w`, and the lines of the tree; in an `F` file these
unfoldable pub most_listing : Kind → ℕ
most_listing Wagner = 63 * most_prim_line + most_total_line + (63 * most_wagner_line + most_total_line) + most_tree
most_listing Own = most_tree

-- so many of the bytes that are lent no listing takes
abbrev pub room_left : ℕ
room_left = 733519

-- with them they are all that are lent: for a `W` file exactly
pub most_and_left : (most_listing Wagner + room_left ≡ output_size) × (most_listing Own + room_left ≤ output_size)
unfolding most_listing
most_and_left = (refl, omega arith)

-- a line for each item of at most so many bytes, and one behind them
block_room : {A : Type 0} (f : A → List ℕ) (xs : List A) (x : List ℕ) (most count last : ℕ) → ((y : A) → Memᴰ y xs → length (f y) ≤ most)
    → length xs ≤ count → length x ≤ last → length (joined (map f xs ++ (x ∷ []))) ≤ count * most + last
block_room f xs x most count last each few one =
    let more : length xs * most ≤ count * most = mul-le-mul_right most few in
    omega (
      arith,
      ap length (joined-block f xs x),
      length-append (flat_map f xs) x,
      texts_room f most xs each,
    )

module _ (job : Job) (within : JobWithinLimits job) where
  -- n and m are within their limits
  abbrev known : Limits job.n job.m
  known = limits job.n job.m within.limits

  -- the difference of the job's taxa
  abbrev d : ℕ → ℕ → ℕ
  d = node_difference (measure_meant job).rows (row_of job.rows)

  -- `p`
  prim_total_size : length (total_line "p" (network_length (links_meant (measure_meant job) job))) ≤ most_total_line
  unfolding bytes
  prim_total_size =
      let most = network_total_le d job.n most_difference (λ x y p q. node_apart job.weights within.weights_known job.rows (near_job job within) x y) in
      let below : network_length (links_meant (measure_meant job) job) < 1000000000 = omega (arith, most, known.taxa) in
      total_size "p" (network_length (links_meant (measure_meant job) job)) refl below

  -- `w`
  wagner_total_size : length (total_line "w" (wagner_length (measure_meant job).rows job.n (built_meant (measure_meant job) job))) ≤ most_total_line
  unfolding bytes
  wagner_total_size =
      let total = wagner_length (measure_meant job).rows job.n (built_meant (measure_meant job) job) in
      let most = sum_most (λ (p : Placement). p.added) most_difference (built_meant (measure_meant job) job).placements (λ p m. ((small job within).placements p m).added) in
      let below : total < 1000000000 =
      omega (arith, wagner-total job within, most, wagner-count (measure_meant job).rows (order_meant job.order) job.n job.rows, known.taxa) in
      total_size "w" total refl below

  -- the lines of network and build
  build_room : length (joined (lines_of_build job.n job.names (build_numbers (measure_meant job) job)))
      ≤ 63 * most_prim_line + most_total_line + (63 * most_wagner_line + most_total_line)
  unfolding lines_of_build network_lines build_lines
  build_room =
      let links = links_meant (measure_meant job) job in
      let placements = (built_meant (measure_meant job) job).placements in
      let p = total_line "p" (network_length links) in
      let w = total_line "w" (wagner_length (measure_meant job).rows job.n (built_meant (measure_meant job) job)) in
      let network : List (List ℕ) = map (prim_line job.n job.names) links ++ (p ∷ []) in
      let build : List (List ℕ) = map (wagner_line job.n job.names) placements ++ (w ∷ []) in
      omega (
        arith,
        ap length (flat_map-append (λ line. line) network build),
        length-append (joined network) (joined build),
        block_room (prim_line job.n job.names) links p most_prim_line 63 most_total_line (prim_size job within)
            (omega (arith, network-length d job.n, known.taxa)) prim_total_size,
        block_room (wagner_line job.n job.names) placements w most_wagner_line 63 most_total_line (wagner-size job within)
            (omega (arith, wagner-count (measure_meant job).rows (order_meant job.order) job.n job.rows, known.taxa)) wagner_total_size,
      )

  -- a branching of its taxa
  module _ (tree : List ℕ) (whole : Branching job.n tree) where
    -- the numbers printed of it
    abbrev x : PrintedTree
    x = tree_numbers (measure_meant job) job tree

    -- the fitted total
    abbrev total : ℕ
    total = fitted_total (measure_meant job).step tree (states_meant job) job.n job.m

    -- is small
    tree_total_small : total < 1000000000
    unfolding other_nodes
    tree_total_small =
        let most = sum_most (fitted_length (measure_meant job).step tree (states_meant job) job.n job.m) most_difference (numbers 2 (2 * job.n - 3)) (λ v m.
        let at = numbers-within 2 (2 * job.n - 3) v m in
        fitted-apart job within tree whole (omega arith) v (omega arith) (omega arith)) in
        omega (arith, tree-total (measure_meant job) job tree, most, length-numbers 2 (2 * job.n - 3), known.taxa)

    -- the `T` lines and `t`
    branch_room : length (joined (fitted_lines job.n job.names x.tree x.lengths x.marks x.t)) ≤ 125 * most_branch_line + most_total_line
    unfolding fitted_lines other_nodes bytes
    branch_room =
        block_room (fitted_line job.n job.names tree x.lengths x.marks) (numbers 2 (2 * job.n - 3)) (total_line "t" x.t)
        most_branch_line 125 most_total_line
        (λ v m.
        let at = numbers-within 2 (2 * job.n - 3) v m in
        branch-size job within tree whole v (omega arith) (omega arith))
        (omega (arith, length-numbers 2 (2 * job.n - 3), known.taxa))
        (total_size "t" x.t refl tree_total_small)

    -- the `H` lines of a node
    node_room : (v : ℕ) → job.n < v → v ≤ 2 * job.n - 2
        → length (joined (node_lines job.n job.names x.low x.high x.chosen job.m v)) ≤ 128 * most_state_line
    unfolding node_lines
    node_room v first last =
        let text = state_line_of job.n job.names x.low x.high x.chosen v in
        omega (
          arith,
          ap length (joined-map text (numbers 1 job.m)),
          texts_room text most_state_line (numbers 1 job.m) (λ j m.
              let at = numbers-within 1 job.m j m in
              state-size job within tree whole v j first last (omega arith)),
          length-numbers 1 job.m,
          known.characters,
        )

    -- the `H` lines together
    state_room : length (joined (state_lines job.n job.names x.low x.high x.chosen job.m)) ≤ 62 * (128 * most_state_line)
    unfolding state_lines
    state_room =
        let lines : ℕ → List (List ℕ) = node_lines job.n job.names x.low x.high x.chosen job.m in
        omega (
          arith,
          ap length (joined-each lines (htus job.n)),
          texts_room (λ v. joined (lines v)) (128 * most_state_line) (htus job.n) (λ v m.
              let at = numbers-within (job.n + 1) (job.n - 2) v m in
              node_room v (omega arith) (omega arith)),
          length-numbers (job.n + 1) (job.n - 2),
          known.taxa,
        )

    -- all lines of the tree
    tree_room : length (joined (lines_of_tree job.n job.names job.m x)) ≤ most_tree
    unfolding lines_of_tree
    tree_room =
        let branches = fitted_lines job.n job.names x.tree x.lengths x.marks x.t in
        let states = state_lines job.n job.names x.low x.high x.chosen job.m in
        omega (
          arith,
          ap length (joined-behind branches (index_line x.c) states),
          length-append (joined branches) (index_line x.c ++ joined states),
          length-append (index_line x.c) (joined states),
          branch_room,
          index-size _ x.t (floor-below job within tree whole) tree_total_small,
          state_room,
        )

  -- the whole listing of a job within the limits
  pub job_room : length (joined (listing (measure_meant job) job)) ≤ most_listing job.kind
  job_room = by job.kind refl within.branching_said
    where
      own : branching job.n (tree_with job.ancestors) ≡ true → Branching job.n (tree_with job.ancestors)
      own = (branching_iff (tree_with job.ancestors) job.n known.taxon).0

      built : Branching job.n (built_meant (measure_meant job) job).tree
      built = wagner-branching (measure_meant job).rows (order_meant job.order) job.n known.taxon known.taxa job.rows

      by : (kind : Kind) → job.kind ≡ kind → branched kind job.n job.ancestors ≡ true
          → length (joined (listing (measure_meant job) job)) ≤ most_listing kind
      by Wagner kind e = unfold most_listing in
          let before = lines_of_build job.n job.names (build_numbers (measure_meant job) job) in
          let tree = (built_meant (measure_meant job) job).tree in
          let lines = lines_of_tree job.n job.names job.m (tree_numbers (measure_meant job) job tree) in
          omega (
            arith,
            ap (λ (all : List (List ℕ)). length (joined all)) (built-listing (measure_meant job) job kind),
            ap length (flat_map-append (λ line. line) before lines),
            length-append (joined before) (joined lines),
            build_room,
            tree_room tree built,
          )
      by Own kind e = unfold most_listing in
          omega (
            arith,
            ap (λ (all : List (List ℕ)). length (joined all)) (own-listing (measure_meant job) job kind),
            tree_room (tree_with job.ancestors) (own e),
          )
