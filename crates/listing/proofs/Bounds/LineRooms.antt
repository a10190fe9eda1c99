-- How many bytes a line of each kind has at most, by its fields: a letter and a mark have one, a node has 16, a length 7 digits, a total
-- and a remainder 9, a quotient 4, a character 3 and a code 4; and behind each field stands one byte.
use mathlib.Core.Path.{◌≡◌}
use mathlib.Core.List.{List, [], ◌∷◌, Memᴰ}
use Prim.Native.Nat.{ℕ, zero, suc, ◌-◌, ◌*◌, ◌/◌, ◌%◌, ◌≤◌, ◌<◌}
use Prim.Native.String.{String}
use native.Mathlib.Nat.{mod-lt, zero-lt-suc}
use native.Mathlib.Omega.{arith}
use lib.ListN.{length}
use Rattle.matrix_form.specs.NodeRows.{row_of}
use Rattle.text_form.specs.Decimal.{digits_of, decimal}
use Rattle.file_form.specs.Job.{Job, JobWithinLimits}
use Rattle.text_form.specs.Text.{bytes}
use Rattle.difference_form.specs.Rows.{most_difference, node_difference}
use Rattle.prim_form.specs.Network.{Link}
use Rattle.prim_form.proofs.Connected.{network-between}
use Rattle.prim_form.proofs.Placing.{network-link}
use Rattle.tree_form.specs.declared.placement.Placement.{Placement}
use Rattle.tree_form.specs.Ancestors.{ancestor}
use Rattle.tree_form.specs.Facts.{Branching}
use Rattle.tree_form.proofs.Whole.{growing_ancestor_le}
use Rattle.consistency_form.specs.Index.{thousand, index}
use Rattle.consistency_form.proofs.Division.{thousandths_most}
use Rattle.listing_form.specs.Lines.{hyphen, node_name}
use Rattle.listing_form.specs.Kinds.{mark, total_line, index_line, prim_line, wagner_line, branch_line, state_line}
use Rattle.listing_form.specs.Meant.{order_meant, measure_meant, links_meant, built_meant}
use Rattle.listing_form.specs.Blocks.{PrintedTree, fitted_line, state_line_of}
use Rattle.listing_form.specs.Listing.{tree_numbers}
use Rattle.listing_form.proofs.LineSizes.{sizes, line-size}
use Rattle.listing_form.proofs.Totals.{Limits, limits}
use Rattle.listing_form.proofs.Bounds.Rows.{near_job, node_apart}
use Rattle.listing_form.proofs.Bounds.Build.{SmallBuilt, wagner-small}
use Rattle.listing.proofs.Bounds.Fields.{number_size, length_size, quotient_size, short_size, code-size, mark-size, hyphen-size, node_size}
use Rattle.listing.proofs.Bounds.Fit.{state_near, range_near, fitted-apart}

-- `p`, `w`, `t`: a letter and a total, 1 + 9, and 2 bytes behind them
abbrev pub most_total_line : ℕ
most_total_line = 12

-- `P`: a letter, two nodes and a length, 1 + 2 * 16 + 7, and 4
abbrev pub most_prim_line : ℕ
most_prim_line = 44

-- `W`: a letter, four nodes and a length, 1 + 4 * 16 + 7, and 6
abbrev pub most_wagner_line : ℕ
most_wagner_line = 78

-- `T`: a letter, two nodes, a length and a mark, 1 + 2 * 16 + 7 + 1, and 5
abbrev pub most_branch_line : ℕ
most_branch_line = 46

-- `c`: a letter, a quotient and a remainder, 1 + 4 + 9, and 3
abbrev pub most_index_line : ℕ
most_index_line = 17

-- `H`: a letter, a node, a character and three codes, 1 + 16 + 3 + 3 * 4, and 6
abbrev pub most_state_line : ℕ
most_state_line = 38

-- the line of an index whose floor is no higher than its total
pub index-size : (floor total : ℕ) → floor ≤ total → total < 1000000000 → length (index_line (index floor total)) ≤ most_index_line
unfolding index index_line sizes bytes
index-size floor zero below small = omega (arith, line-size (bytes "c") (hyphen ∷ hyphen ∷ []), hyphen-size)
index-size floor (suc less) below small =
    let quotient = thousand * floor / suc less in
    let remainder = thousand * floor % suc less in
    let most : quotient ≤ thousand = thousandths_most floor (suc less) below (omega arith) in
    let over : remainder < suc less = mod-lt (thousand * floor) (zero-lt-suc less) in
    omega (
      arith,
      line-size (bytes "c") (digits_of quotient ∷ digits_of remainder ∷ []),
      quotient_size quotient (omega arith),
      number_size remainder (omega arith),
    )

-- the line of a total
pub total_size : (letter : String) (total : ℕ) → length (bytes letter) ≡ 1 → total < 1000000000 → length (total_line letter total) ≤ most_total_line
unfolding total_line sizes
total_size letter total one small = omega (arith, line-size (bytes letter) (digits_of total ∷ []), number_size total small)

module _ (job : Job) (within : JobWithinLimits job) where
  -- n and m are within their limits
  abbrev known : Limits job.n job.m
  known = limits job.n job.m within.limits

  -- a node as it is printed
  abbrev name : ℕ → List ℕ
  name v = node_name job.n job.names v

  -- the difference of the job's taxa
  abbrev d : ℕ → ℕ → ℕ
  d = node_difference (measure_meant job).rows (row_of job.rows)

  -- its placements and ancestors are within bounds
  pub small : SmallBuilt job.weights within.weights_known job.n known.taxon (built_meant (measure_meant job) job)
  small = wagner-small job.weights within.weights_known job.n known.taxon (order_meant job.order) job.rows (near_job job within)

  -- a `P` line
  pub prim_size : (l : Link) → Memᴰ l (links_meant (measure_meant job) job) → length (prim_line job.n job.names l) ≤ most_prim_line
  unfolding prim_line sizes bytes
  prim_size l m =
      let ends = network-between d job.n l m in
      let apart : l.length ≤ most_difference = rw (network-link d job.n l m) (node_apart job.weights within.weights_known job.rows (near_job job within) l.taxon l.joined) in
      omega (
        arith,
        line-size (bytes "P") (name l.taxon ∷ name l.joined ∷ digits_of l.length ∷ []),
        node_size job within l.taxon (omega arith),
        node_size job within l.joined (omega arith),
        length_size l.length apart,
      )

  -- a `W` line
  pub wagner-size : (p : Placement) → Memᴰ p (built_meant (measure_meant job) job).placements → length (wagner_line job.n job.names p) ≤ most_wagner_line
  unfolding wagner_line sizes bytes
  wagner-size p m =
      let bounds = small.placements p m in
      omega (
        arith,
        line-size (bytes "W") (name p.taxon ∷ name p.lower ∷ name p.upper ∷ name p.htu ∷ digits_of p.added ∷ []),
        node_size job within p.taxon bounds.taxon,
        node_size job within p.lower bounds.lower,
        node_size job within p.upper bounds.upper,
        node_size job within p.htu bounds.htu,
        length_size p.added bounds.added,
      )

  -- a branching of its taxa
  module _ (tree : List ℕ) (whole : Branching job.n tree) where
    -- the numbers printed of it
    abbrev x : PrintedTree
    x = tree_numbers (measure_meant job) job tree

    -- a `T` line
    pub branch-size : (v : ℕ) → 2 ≤ v → v ≤ 2 * job.n - 2
        → length (fitted_line job.n job.names tree x.lengths x.marks v) ≤ most_branch_line
    unfolding fitted_line branch_line sizes bytes
    branch-size v first last =
        let size = x.lengths v in
        let sign = mark (x.marks v) in
        let apart : size ≤ most_difference = fitted-apart job within tree whole (omega arith) v first last in
        omega (
          arith,
          line-size (bytes "T") (name v ∷ name (ancestor tree v) ∷ digits_of size ∷ sign ∷ []),
          node_size job within v (omega arith),
          node_size job within (ancestor tree v) (omega (arith, growing_ancestor_le job.n tree whole v)),
          length_size size apart,
          mark-size (x.marks v),
        )

    -- an `H` line
    pub state-size : (v j : ℕ) → job.n < v → v ≤ 2 * job.n - 2 → j ≤ job.m
        → length (state_line_of job.n job.names x.low x.high x.chosen v j) ≤ most_state_line
    unfolding state_line_of state_line sizes bytes
    state-size v j first last character =
        let two : 2 ≤ job.n = omega arith in
        let near = range_near job within tree whole two v j (omega arith) last in
        let few : j < 1000 = omega (arith, known.characters) in
        omega (
          arith,
          line-size (bytes "H") (name v ∷ digits_of j ∷ decimal (x.low v j) ∷ decimal (x.high v j) ∷ decimal (x.chosen v j) ∷ []),
          node_size job within v (omega arith),
          short_size j few,
          code-size (x.low v j) near.at_low,
          code-size (x.high v j) near.at_high,
          code-size (x.chosen v j) (state_near job within tree whole two v j (omega arith) last),
        )
