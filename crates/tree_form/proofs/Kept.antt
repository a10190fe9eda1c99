-- A placement joins three nodes, and changes no other branch and no other code (document 01, "The Wagner tree" and "The three rivals").
use mathlib.Core.Path.{◌≡◌, refl, sym, ap, ◌∙◌}
use mathlib.Core.Logic.{◌≢◌}
use mathlib.Core.List.{List, [], ◌∷◌, ◌++◌}
use Prim.Native.Nat.{ℕ, zero, suc, ◌+◌, ◌-◌, ◌*◌, ◌/◌, ◌≤◌, ◌<◌}
use native.Mathlib.Omega.{arith}
use lib.IntN.{ℤ, pos}
use lib.ListN.{length, get_or}
use Rattle.lists.specs.Over.{stripes}
use Rattle.matrix_form.specs.Shape.{row_start}
use Rattle.matrix_form.specs.NodeRows.{row_of, with_row, with_rows}
use Rattle.matrix_form.proofs.NodeRows.{with_row-else}
use Rattle.difference_form.specs.Rows.{interval_by}
use Rattle.tree_form.specs.Ancestors.{ancestor}
use Rattle.tree_form.specs.Nodes.{Unplaced}
use Rattle.tree_form.specs.Facts.{Grown}
use Rattle.tree_form.specs.Hanging.{linked, hung, next_htu}
use Rattle.tree_form.specs.Placing.{AfterPlacing, median_row, from_interval, nearest_interval, link_first, hang, place_on, place}
use Rattle.tree_form.specs.Rival.{PlacementIsLeast}
use Rattle.tree_form.proofs.BranchSums.{ancestor_set_other, hung_else, Joint, hung-taxon, hung-lower, hung-htu}
use Rattle.tree_form.proofs.Hanging.{hung_joint}
use Rattle.tree_form.proofs.RowLengths.{row_of_old}

module _ (d : List ℤ → List ℤ → ℕ) (row_at : ℕ → List ℤ) (n : ℕ) (tree : List ℕ) (b : ℕ) where
  -- a taxon placed on an interval, or linked to row 1: every node but the taxon, the lower end and the HTU keeps its immediate ancestor
  others_on : (c v : ℕ) → v ≢ (place_on d row_at n tree b c).placement.taxon → v ≢ (place_on d row_at n tree b c).placement.lower
      → v ≢ (place_on d row_at n tree b c).placement.htu → ancestor (place_on d row_at n tree b c).tree v ≡ ancestor tree v
  unfolding place_on link_first linked hang
  others_on zero v nb nc ny = ancestor_set_other tree b 1 v nb
  others_on (suc c) v nb nc ny = hung_else tree b (suc c) (next_htu n tree) v nb nc ny

  -- so with the interval that is nearest
  pub others_stay : (v : ℕ) → v ≢ (place d row_at n tree b).placement.taxon → v ≢ (place d row_at n tree b).placement.lower
      → v ≢ (place d row_at n tree b).placement.htu → ancestor (place d row_at n tree b).tree v ≡ ancestor tree v
  unfolding place
  others_stay v = others_on (nearest_interval d row_at n tree b) v

-- a single row written for a node is written over its row
single_row : (codes : List ℤ) (v : ℕ) (r : List ℤ) → with_rows codes v (r ∷ []) ≡ with_row codes v r
unfolding with_rows with_row stripes
single_row codes v r = refl

-- a placement that is least among all hangings
module _ (d : List ℤ → List ℤ → ℕ) (n m : ℕ) (tree : List ℕ) (rows : List (List ℤ)) (b : ℕ) (placed : AfterPlacing)
    (least : PlacementIsLeast d n m tree rows b placed) where
  -- no other branch changes: every node but the taxon, the lower end and the HTU keeps its immediate ancestor
  pub other_branches : (v : ℕ) → v ≢ placed.placement.taxon → v ≢ placed.placement.lower → v ≢ placed.placement.htu
      → ancestor placed.tree v ≡ ancestor tree v
  other_branches v nb nc ny =
      ap (λ (after : List ℕ). ancestor after v) least.hangs
      ∙ hung_else tree b placed.placement.lower (next_htu n tree) v (λ e. nb (e ∙ sym least.taxon)) nc (λ e. ny (e ∙ sym least.htu))

  -- no other code changes: the rows of all nodes before stay
  pub other_rows : (v : ℕ) → 1 ≤ v → v ≤ length rows → row_of (rows ++ placed.made) v ≡ row_of rows v
  other_rows v first last =
      ap (λ (made : List (List ℤ)). row_of (rows ++ made) v) least.row
      ∙ row_of_old rows (median_row (row_of rows) b placed.placement.lower (ancestor tree placed.placement.lower)) v first last

  -- and of a lent matrix every code but the first m of the HTU's row
  pub other_codes : (codes : List ℤ) (index : ℕ)
      → (row_start placed.placement.htu ≤ index → index < row_start placed.placement.htu + m → ⊥)
      → get_or (with_rows codes placed.placement.htu placed.made) index (pos 0) ≡ get_or codes index (pos 0)
  other_codes codes index outside =
      let y = placed.placement.htu in
      let made = median_row (row_of rows) b placed.placement.lower (ancestor tree placed.placement.lower) in
      ap (λ (new : List (List ℤ)). get_or (with_rows codes y new) index (pos 0)) least.row
      ∙ ap (λ (new : List ℤ). get_or new index (pos 0)) (single_row codes y made)
      ∙ with_row-else codes y made index (λ from upto. outside from (omega (arith, least.own)))

  -- the length added is the interval difference: half of what the taxon's differences from both ends are more than that of the ends
  pub added_said : placed.placement.added
      ≡ (d (row_of rows b) (row_of rows placed.placement.lower)
      + d (row_of rows b) (row_of rows placed.placement.upper)
      - d (row_of rows placed.placement.lower) (row_of rows placed.placement.upper))
      / 2
  unfolding from_interval interval_by
  added_said = rw least.upper least.interval

  -- on a growing tree of several taxa, with a place for every node, the three nodes that do change are joined as a `W` line says
  module _ (k : ℕ) (g : Grown n k tree) (room : 2 * n - 2 < length tree) (u : Unplaced n tree b) where
    -- taxon, lower end and HTU are three nodes
    joint : Joint n tree b placed.placement.lower (n + k - 1)
    joint = hung_joint n k tree g room b placed.placement.lower u least.inside

    -- the number of the HTU
    htu_number : placed.placement.htu ≡ n + k - 1
    unfolding next_htu
    htu_number = least.htu ∙ ap (λ (count : ℕ). n + count - 1) g.placed

    -- the tree
    tree_made : placed.tree ≡ hung tree b placed.placement.lower (n + k - 1)
    unfolding next_htu
    tree_made = least.hangs ∙ ap (λ (count : ℕ). hung tree b placed.placement.lower (n + count - 1)) g.placed

    -- the HTU has the lower end's old ancestor, which is the upper end
    pub htu_joined : ancestor placed.tree placed.placement.htu ≡ placed.placement.upper
    htu_joined = rw (tree_made, htu_number) (hung-htu n tree b placed.placement.lower (n + k - 1) joint ∙ sym least.upper)

    -- the lower end has the HTU
    pub lower_joined : ancestor placed.tree placed.placement.lower ≡ placed.placement.htu
    lower_joined = rw (tree_made, htu_number) (hung-lower n tree b placed.placement.lower (n + k - 1) joint)

    -- and so has the taxon
    pub taxon_joined : ancestor placed.tree placed.placement.taxon ≡ placed.placement.htu
    taxon_joined = rw (tree_made, htu_number, least.taxon) (hung-taxon n tree b placed.placement.lower (n + k - 1) joint)
