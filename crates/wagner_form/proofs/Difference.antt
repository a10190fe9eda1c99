-- The laws of medians hold of the difference of rows, so all that is proved from them holds of the Wagner tree.
use mathlib.Core.Path.{◌≡◌}
use mathlib.Core.List.{List}
use Prim.Native.Nat.{ℕ, ◌≤◌}
use lib.IntN.{ℤ}
use lib.ListN.{length}
use Rattle.difference_form.specs.Rows.{difference}
use Rattle.tree_form.specs.Hanging.{only_row_one}
use Rattle.tree_form.specs.declared.order.Order.{Order}
use Rattle.wagner_form.specs.Next.{next_by}
use Rattle.wagner_form.specs.Build.{added_length, wagner, wagner_length}
use Rattle.wagner_form.proofs.Whole.{order_chooses}
use Rattle.tree_form.proofs.RowLengths.{OfLength}
use Rattle.tree_form.proofs.Rival.{difference_laws}
use Rattle.wagner_form.proofs.BuildLength.{Sound, build_sound, build-length}

-- n rows of m codes, n from 1 to 64
module _ (order : Order) (weights : List ℕ) (n m : ℕ) (taxa : 1 ≤ n) (most : n ≤ 64) (rows : List (List ℤ)) (all : length rows ≡ n)
    (each : OfLength m rows) where
  -- the Wagner tree: its tree, its rows and its length
  pub wagner_sound : Sound (difference weights) n m n only_row_one rows (wagner (difference weights) order n rows)
  unfolding wagner
  wagner_sound =
      build_sound (difference weights) (next_by (difference weights) order) n m taxa (order_chooses (difference weights) order n)
      (difference_laws weights m) most rows all each

  -- its length is the sum of the lengths added
  pub wagner-length : wagner_length (difference weights) n (wagner (difference weights) order n rows)
      ≡ added_length (wagner (difference weights) order n rows).placements
  unfolding wagner wagner_length
  wagner-length =
      build-length (difference weights) (next_by (difference weights) order) n m taxa (order_chooses (difference weights) order n)
      (difference_laws weights m) most rows all each
