-- The claim: for an accepted matrix, no connected network of the taxa, no hanging of a taxon and no choice of inner states does better.
use Rattle.std.specs.Prelude.{◌≡◌, true, List, [], ◌∷◌, ◌++◌, ℕ, ◌+◌, ◌≤◌, ℤ, length}
use Rattle.matrix_form.specs.NodeRows.{row_of}
use Rattle.difference_form.specs.Rows.{Measure, node_difference}
use Rattle.prim_form.specs.Rival.{Shortest}
use Rattle.tree_form.specs.declared.placement.Placement.{Placement}
use Rattle.tree_form.specs.declared.branch.Branch.{Branch}
use Rattle.tree_form.specs.Ancestors.{ancestor}
use Rattle.tree_form.specs.Growing.{branching}
use Rattle.tree_form.specs.Nodes.{Unplaced}
use Rattle.tree_form.specs.Hanging.{only_row_one, linked}
use Rattle.tree_form.specs.Branches.{lent_branching, ancestors_of}
use Rattle.tree_form.specs.RowLengths.{length_under}
use Rattle.tree_form.specs.Placing.{AfterPlacing, link_first, place}
use Rattle.tree_form.specs.declared.order.Order.{Order}
use Rattle.tree_form.specs.declared.order.Order.TheVariants.{Closest}
use Rattle.wagner_form.specs.Build.{Built, wagner}
use Rattle.tree_form.specs.Rival.{hung_length, PlacementIsLeast}
use Rattle.matrix_form.specs.Spans.{singles}
use Rattle.fit_form.specs.Rival.{FitIsLeast}
use Rattle.rivals.specs.Accepted.{HandedIn}

-- what came out of a placement on a tree with rows of m codes, beside the hangings of every taxon that is not placed, on any interval and
-- through an HTU with any codes: none adds less
pub record NoTaxonAddsLess (d : List ℤ → List ℤ → ℕ) (n m : ℕ) (tree : List ℕ) (rows : List (List ℤ)) (placed : AfterPlacing) : Type 0 where
  pub least : (b : ℕ) → Unplaced n tree b → (c : ℕ) → 1 ≤ ancestor tree c → (r : List ℤ) → length r ≡ m
      → length_under d n tree rows + placed.placement.added ≤ hung_length d n tree rows b c r

-- placements in turn, in an order of placing and by a difference d of rows, from a tree with its rows to another with its rows: no other
-- hanging of the taxon adds less than its placement and, in the order `closest`, no hanging of any taxon that is not placed
pub data EachIsLeast (order : Order) (d : List ℤ → List ℤ → ℕ) (n m : ℕ)
    : List ℕ → List (List ℤ) → List Placement → List ℕ → List (List ℤ) → Type 0 where
  done : {tree : List ℕ} {rows : List (List ℤ)} → EachIsLeast order d n m tree rows [] tree rows
  more : {tree last : List ℕ} {rows last_rows : List (List ℤ)} {placements : List Placement} (b : ℕ) (placed : AfterPlacing)
      → Unplaced n tree b → PlacementIsLeast d n m tree rows b placed
      → (order ≡ Closest → NoTaxonAddsLess d n m tree rows placed)
      → EachIsLeast order d n m placed.tree (rows ++ placed.made) placements last last_rows
      → EachIsLeast order d n m tree rows (placed.placement ∷ placements) last last_rows

-- taxon b, the first to be linked to row 1, beside every other taxon: none is nearer to row 1
pub record NoTaxonNearer (d : List ℤ → List ℤ → ℕ) (n : ℕ) (rows : List (List ℤ)) (b : ℕ) : Type 0 where
  pub nearest : (v : ℕ) → Unplaced n only_row_one v → node_difference d (row_of rows) b 1 ≤ node_difference d (row_of rows) v 1

-- a build from row 1 alone: no placement for n = 1; else, in either order of placing, a taxon is linked to row 1 than which none that is
-- not placed is nearer, and each placement after it is least
pub data BuildIsLeast (order : Order) (d : List ℤ → List ℤ → ℕ) (n m : ℕ) (rows : List (List ℤ)) : Built → Type 0 where
  one_taxon : n ≡ 1 → BuildIsLeast order d n m rows (record { tree = only_row_one; rows = rows; placements = [] })
  several_taxa : {last : List ℕ} {last_rows : List (List ℤ)} {placements : List Placement} (b : ℕ) → Unplaced n only_row_one b
      → NoTaxonNearer d n rows b
      → EachIsLeast order d n m (linked only_row_one b) rows placements last last_rows
      → BuildIsLeast order d n m rows
      (record { tree = last; rows = last_rows; placements = (link_first d (row_of rows) only_row_one b).placement ∷ placements })

-- ours against the three rivals, as change is measured, for a matrix of n taxa and m characters with these rows
pub record NoRivalDoesBetter (measure : Measure) (n m : ℕ) (rows : List (List ℤ)) : Type 0 where
  -- our network is a connected one, of length `p`, and no connected network of the taxa is shorter
  pub network : Shortest (node_difference measure.rows (row_of rows)) n
  -- our placement of a taxon on a tree handed in is a hanging on one of its intervals, adds its interval difference, and none adds less
  pub placement : (tree : List ℕ) (htus : List (List ℤ)) → HandedIn n m tree htus → (b : ℕ) → Unplaced n tree b
      → PlacementIsLeast measure.rows n m tree (rows ++ htus) b (place measure.rows (row_of (rows ++ htus)) n tree b)
  -- so is each placement of our Wagner tree after the first, in either order of placing, and in the order `closest` no hanging of any taxon
  -- that is not placed adds less; the first links to row 1 a taxon than which none is nearer; the tree is a branching of all n taxa
  pub build : (order : Order) → BuildIsLeast order measure.rows n m rows (wagner measure.rows order n rows)
  pub whole : (order : Order) → branching n (wagner measure.rows order n rows).tree ≡ true
  -- on any branching our chosen states have the least total, a range has exactly the states of assignments of least length, and a mark
  -- means what a mark says
  pub fit : (tree : List ℕ) → branching n tree ≡ true → FitIsLeast measure.step tree (singles rows) n m
  -- a branching may be lent as branch records
  pub lent_fit : (records : List Branch) → lent_branching n records ≡ true → FitIsLeast measure.step (ancestors_of n records) (singles rows) n m
