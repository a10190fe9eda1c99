-- A build taken apart, in document 01's words: its first link, and each placement after it. Each theorem uses the claim, so that a weaker
-- claim would not prove it.
use mathlib.Core.Path.{◌≡◌, refl, sym, ap}
use mathlib.Core.Bool.{false}
use mathlib.Core.List.{List, [], ◌∷◌, ◌++◌}
use Prim.Native.Nat.{ℕ, ◌+◌, ◌≤◌}
use native.Mathlib.Omega.{arith}
use lib.IntN.{ℤ}
use lib.ListN.{length}
use Rattle.matrix_form.specs.NodeRows.{row_of}
use Rattle.difference_form.specs.Rows.{node_difference}
use Rattle.tree_form.specs.declared.placement.Placement.{Placement}
use Rattle.tree_form.specs.Ancestors.{ancestor}
use Rattle.tree_form.specs.Nodes.{in_tree, Unplaced}
use Rattle.tree_form.specs.Hanging.{only_row_one, linked, hung, next_htu}
use Rattle.tree_form.specs.RowLengths.{length_under}
use Rattle.tree_form.specs.Placing.{median_row, from_interval, link_first}
use Rattle.tree_form.specs.Rival.{hung_length}
use Rattle.tree_form.proofs.Nodes.{only_row_one-none, false-in_tree}
use Rattle.tree_form.specs.declared.order.Order.{Order}
use Rattle.wagner_form.specs.Build.{Built}
use Rattle.rivals.specs.Demand.{EachIsLeast, done, more, BuildIsLeast, one_taxon, several_taxa}

-- a build
module _ {order : Order} {d : List ℤ → List ℤ → ℕ} {n m : ℕ} {rows : List (List ℤ)} where
  -- that places nothing is of one taxon, and the tree is row 1 alone
  pub nothing_placed : {built : Built} → BuildIsLeast order d n m rows built → built.placements ≡ []
      → (n ≡ 1) × (built.tree ≡ only_row_one) × (built.rows ≡ rows)
  nothing_placed (one_taxon one) e = (one, refl, refl)
  nothing_placed (several_taxa b chosen nearest each) e = absurd (omega (arith, ap length e))

  -- the first placement links to row 1 a taxon that is not row 1, without an HTU, and adds their difference; no taxon is nearer to row 1
  pub first_link : {built : Built} → BuildIsLeast order d n m rows built → (first : Placement) (others : List Placement)
      → built.placements ≡ first ∷ others
      → (2 ≤ first.taxon) × (first.taxon ≤ n) × (first.lower ≡ 0) × (first.upper ≡ 1) × (first.htu ≡ 0)
      × (first.added ≡ node_difference d (row_of rows) first.taxon 1)
      × ((v : ℕ) → 2 ≤ v → v ≤ n → first.added ≤ node_difference d (row_of rows) v 1)
  unfolding link_first
  first_link (one_taxon one) first others e = absurd (omega (arith, ap length e))
  first_link (several_taxa b chosen nearest each) first others e =
      let same : first ≡ (link_first d (row_of rows) only_row_one b).placement = cc in
      rw same (
        chosen.other,
        chosen.taxon,
        refl,
        refl,
        refl,
        refl,
        λ v low high. nearest.nearest v (record { other = low; taxon = high; free = only_row_one-none v }),
      )

  -- the others are made in turn, from the tree with that taxon linked to row 1 to the tree and the rows that the build hands back
  pub later_placements : {built : Built} → BuildIsLeast order d n m rows built → (first : Placement) (others : List Placement)
      → built.placements ≡ first ∷ others
      → EachIsLeast order d n m (linked only_row_one first.taxon) rows others built.tree built.rows
  unfolding link_first
  later_placements (one_taxon one) first others e = absurd (omega (arith, ap length e))
  later_placements (several_taxa {placements = placements} b chosen nearest each) first others e =
      let same : first ≡ (link_first d (row_of rows) only_row_one b).placement = cc in
      let rest : others ≡ placements = cc in
      rw (same, rest) each

-- placements in turn
module _ {order : Order} {d : List ℤ → List ℤ → ℕ} {n m : ℕ} where
  -- with none left, that tree and these rows are handed back
  pub none_left : {tree last : List ℕ} {rows last_rows : List (List ℤ)}
      → EachIsLeast order d n m tree rows [] last last_rows → (last ≡ tree) × (last_rows ≡ rows)
  none_left done = (refl, refl)

  -- the taxon placed next was not placed
  pub next_unplaced : {tree last : List ℕ} {rows last_rows : List (List ℤ)} {next : Placement} {others : List Placement}
      → EachIsLeast order d n m tree rows (next ∷ others) last last_rows → Unplaced n tree next.taxon
  next_unplaced (more b placed chosen least closest rest) = rw least.taxon chosen

  -- so it is a taxon other than row 1 and is not in the tree
  pub next_outside : {tree last : List ℕ} {rows last_rows : List (List ℤ)} {next : Placement} {others : List Placement}
      → EachIsLeast order d n m tree rows (next ∷ others) last last_rows
      → (2 ≤ next.taxon) × (next.taxon ≤ n) × (in_tree tree next.taxon ≡ false)
  next_outside {tree = tree} {next = next} each =
      let u = next_unplaced each in
      (u.other, u.taxon, false-in_tree tree next.taxon u.other u.free)

  -- it is hung on an interval of the tree, between a node and its immediate ancestor, through the next HTU
  pub next_hangs : {tree last : List ℕ} {rows last_rows : List (List ℤ)} {next : Placement} {others : List Placement}
      → EachIsLeast order d n m tree rows (next ∷ others) last last_rows
      → (1 ≤ ancestor tree next.lower) × (next.upper ≡ ancestor tree next.lower) × (next.htu ≡ next_htu n tree)
  next_hangs (more b placed chosen least closest rest) = (least.inside, least.upper, least.htu)

  -- that HTU takes m median codes, and the placement adds the interval difference
  pub next_adds : {tree last : List ℕ} {rows last_rows : List (List ℤ)} {next : Placement} {others : List Placement}
      → EachIsLeast order d n m tree rows (next ∷ others) last last_rows
      → (length (median_row (row_of rows) next.taxon next.lower next.upper) ≡ m)
      × (next.added ≡ from_interval d (row_of rows) tree next.taxon next.lower)
  next_adds (more b placed chosen least closest rest) = rw (least.taxon, least.upper) (least.own, least.interval)

  -- by which the tree becomes longer
  pub next_lengthens : {tree last : List ℕ} {rows last_rows : List (List ℤ)} {next : Placement} {others : List Placement}
      → EachIsLeast order d n m tree rows (next ∷ others) last last_rows
      → hung_length d n tree rows next.taxon next.lower (median_row (row_of rows) next.taxon next.lower next.upper)
      ≡ length_under d n tree rows + next.added
  unfolding hung_length
  next_lengthens (more b placed chosen least closest rest) =
      rw (least.taxon, least.upper) (rw (least.hangs, least.row) at least.adds)

  -- no hanging of it, on any interval and through an HTU with any m whole numbers, adds less, in either order of placing
  pub next_least : {tree last : List ℕ} {rows last_rows : List (List ℤ)} {next : Placement} {others : List Placement}
      → EachIsLeast order d n m tree rows (next ∷ others) last last_rows
      → (c : ℕ) → 1 ≤ ancestor tree c → (r : List ℤ) → length r ≡ m
      → length_under d n tree rows + next.added ≤ hung_length d n tree rows next.taxon c r
  next_least (more b placed chosen least closest rest) c inside r long = rw least.taxon (least.least c inside r long)

  -- the next step starts from the tree and the rows that so came out
  pub goes_on : {tree last : List ℕ} {rows last_rows : List (List ℤ)} {next : Placement} {others : List Placement}
      → EachIsLeast order d n m tree rows (next ∷ others) last last_rows
      → EachIsLeast order d n m (hung tree next.taxon next.lower (next_htu n tree))
      (rows ++ (median_row (row_of rows) next.taxon next.lower next.upper ∷ [])) others last last_rows
  goes_on (more b placed chosen least closest rest) = rw (least.taxon, least.upper) (rw (sym least.hangs, sym least.row) rest)
