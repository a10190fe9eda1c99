-- The first link of a build: in either order of placing it goes to the taxon of least advancement, so that no taxon is nearer to row 1.
use mathlib.Core.Path.{◌≡◌, refl, ap, ◌∙◌}
use mathlib.Core.List.{List}
use Prim.Native.Nat.{ℕ, ◌≤◌}
use lib.IntN.{ℤ}
use Rattle.lists.specs.Least.{least_of}
use Rattle.lists.specs.Numbers.{numbers}
use Rattle.lists.proofs.Least.{least_of_le, least_of_congr}
use Rattle.matrix_form.specs.NodeRows.{row_of}
use Rattle.difference_form.specs.Rows.{node_difference}
use Rattle.tree_form.specs.Nodes.{nodes_out, Unplaced}
use Rattle.tree_form.specs.Hanging.{only_row_one}
use Rattle.tree_form.specs.Placing.{AfterPlacing, link_first}
use Rattle.tree_form.proofs.Nodes.{only_row_one-none}
use Rattle.tree_form.proofs.Counts.{taxon-unplaced}
use Rattle.tree_form.proofs.Placing.{place-first}
use Rattle.tree_form.specs.declared.order.Order.{Order}
use Rattle.tree_form.specs.declared.order.Order.TheVariants.{Advance, Closest}
use Rattle.wagner_form.specs.Next.{advancement, by_advancement, next_by}
use Rattle.wagner_form.proofs.Closest.{adds, closeness_least}

module _ (d : List ℤ → List ℤ → ℕ) (n : ℕ) (rows : List (List ℤ)) where
  -- what the first link adds is the advancement of its taxon
  first_adds : (b : ℕ) → adds d n only_row_one rows b ≡ advancement d rows b
  unfolding link_first advancement
  first_adds b = ap (λ (placed : AfterPlacing). placed.placement.added) (place-first d n only_row_one (row_of rows) b only_row_one-none)

  -- in either order the first taxon is, of those that are not placed, by rising row, the first of least advancement
  pub first_taxon : (order : Order)
      → next_by d order n only_row_one rows ≡ least_of (advancement d rows) (nodes_out only_row_one (numbers 1 n))
  unfolding next_by by_advancement
  first_taxon Advance = refl
  first_taxon Closest =
      closeness_least d n only_row_one rows
      ∙ least_of_congr (adds d n only_row_one rows) (advancement d rows) (nodes_out only_row_one (numbers 1 n)) (λ b _. first_adds b)

  -- so no taxon that is not placed is nearer to row 1
  pub first_nearest : (order : Order) (v : ℕ) → Unplaced n only_row_one v
      → node_difference d (row_of rows) (next_by d order n only_row_one rows) 1 ≤ node_difference d (row_of rows) v 1
  unfolding advancement
  first_nearest order v u =
      rw (first_taxon order)
      (least_of_le (advancement d rows) (nodes_out only_row_one (numbers 1 n)) v (taxon-unplaced n only_row_one v u))
