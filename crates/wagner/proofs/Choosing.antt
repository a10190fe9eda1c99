-- The choice of the taxon to place next, by the keys that are kept.
use Rattle.tree_form.specs.Placing.{AfterPlacing, from_interval, nearest_interval, link_first, place_on, place}
use mathlib.Core.Path.{◌≡◌, refl, sym, ap, ap₂, ◌∙◌}
use mathlib.Core.List.{List}
use Prim.Native.Nat.{ℕ, ◌≤◌}
use native.Mathlib.Omega.{arith}
use lib.IntN.{ℤ}
use Rattle.lists.specs.Least.{least_of}
use Rattle.lists.specs.Numbers.{numbers}
use Rattle.lists.proofs.Least.{least_of_congr, least_of-none}
use Rattle.matrix_form.specs.Shape.{row, MatrixLists}
use Rattle.matrix_form.specs.NodeRows.{row_of, rows_of}
use Rattle.matrix_form.proofs.NodeRows.{row_of-rows_of}
use Rattle.difference_form.specs.Rows.{difference, node_difference}
use Rattle.tree_form.specs.Nodes.{nodes_in, nodes_out, other_nodes, Unplaced, last_row}
use Rattle.tree_form.specs.Hanging.{only_row_one}
use Rattle.tree_form.proofs.Nodes.{node_nodes_in, only_row_one-none}
use Rattle.branching.specs.Calls.{place_in}
use Rattle.tree_form.proofs.Counts.{unplaced-taxon}
use Rattle.tree_form.proofs.InMatrix.{by_list}
use Rattle.branching.proofs.Standing.{Standing, last_is}
use Rattle.tree_form.specs.declared.order.Order.{Order}
use Rattle.tree_form.specs.declared.order.Order.TheVariants.{Advance, Closest}
use Rattle.wagner_form.specs.Next.{advancement, by_advancement, next_by}
use Rattle.wagner.specs.Order.{key_of, key_by, KeysRight}
use Rattle.wagner_form.proofs.Closest.{adds, closeness_least}

-- before the first link there is no interval, and in both orders the key of a taxon is its advancement
pub alone-key : (order : Order) (lists : MatrixLists) (n m v : ℕ)
    → node_difference (difference lists.weights) (row lists.codes m) v 1 ≡ key_by order lists n m only_row_one v
unfolding key_by place_in place nearest_interval place_on link_first node_difference
alone-key Advance lists n m v = refl
alone-key Closest lists n m v =
    ap (λ (c : ℕ). (place_on (difference lists.weights) (row lists.codes m) n only_row_one v c).placement.added)
    (sym (least_of-none (from_interval (difference lists.weights) (row lists.codes m) only_row_one v) (nodes_in only_row_one
    (other_nodes n))
    (λ e mem. omega (arith, node_nodes_in only_row_one n e mem, only_row_one-none e))))

-- a growing tree that stands in a matrix
module _ (lists : MatrixLists) (n m placed : ℕ) (tree : List ℕ) (stands : Standing lists n m placed tree) where
  -- the rows of its nodes
  abbrev rows : List (List ℤ)
  rows = rows_of lists.codes m (last_row n tree)

  -- the row of a taxon
  taxon-row : (v : ℕ) → 1 ≤ v → v ≤ n → row lists.codes m v ≡ row_of rows v
  taxon-row v low high = sym (row_of-rows_of lists.codes m (last_row n tree) v low (omega (arith, last_is lists n m placed tree stands)))

  -- the key of a taxon that is not placed, by the rows: its advancement
  advance_key : (v : ℕ) → Unplaced n tree v → key_by Advance lists n m tree v ≡ advancement (difference lists.weights) rows v
  unfolding key_by advancement node_difference
  advance_key v u =
      ap₂ (difference lists.weights) (taxon-row v (omega (arith, u.other)) u.taxon)
      (taxon-row 1 (omega arith) (omega (arith, u.other, u.taxon)))

  -- or the length that its placement adds
  closest_key : (v : ℕ) → Unplaced n tree v → key_by Closest lists n m tree v ≡ adds (difference lists.weights) n tree rows v
  unfolding key_by place_in
  closest_key v u = ap (λ (after : AfterPlacing). after.placement.added)
      (by_list (difference lists.weights) lists.codes n m tree v stands.growing u)

  -- by what is kept of the taxa, the taxon to place next is that of the order of placing
  pub next_right : (order : Order) (keys : List ℕ) → KeysRight order lists n m tree keys
      → least_of (key_of keys) (nodes_out tree (numbers 1 n)) ≡ next_by (difference lists.weights) order n tree rows
  unfolding next_by by_advancement key_of
  next_right Advance keys known =
      least_of_congr (key_of keys) (advancement (difference lists.weights) rows) (nodes_out tree (numbers 1 n)) λ v mem.
      let u = unplaced-taxon n tree v mem in
      known.each v u ∙ advance_key v u
  next_right Closest keys known =
      least_of_congr (key_of keys) (adds (difference lists.weights) n tree rows) (nodes_out tree (numbers 1 n)) (λ v mem.
      let u = unplaced-taxon n tree v mem in
      known.each v u ∙ closest_key v u)
      ∙ sym (closeness_least (difference lists.weights) n tree rows)
