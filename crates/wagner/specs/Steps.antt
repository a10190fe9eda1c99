-- How a build goes on, placement by placement, for the proofs of the private functions; and the length of a branch, which the contract of
-- `records::branches` cites.
use Rattle.std.specs.Prelude.{◌≡◌, ◌+◌, ◌^◌, List, ℕ, ◌<◌, length, get_or, take}
use Rattle.filled.specs.Filling.{Pushed}
use Rattle.branching.specs.declared.placement.Placed.{Placed}
use Rattle.wagner.specs.declared.answer.WagnerTree.{WagnerTree}
use Rattle.matrix_form.specs.Shape.{row, columns, MatrixLists}
use Rattle.difference_form.specs.Rows.{difference, node_difference}
use Rattle.tree_form.specs.Ancestors.{tree_size, ancestor}

-- a build with one placement more; its length is the sum if that fits 64 bits
pub record OneMore (before : WagnerTree) (done : Placed) (r : WagnerTree) : Type 0 where
  pub tree : r.tree ≡ done.tree
  pub placements : Pushed before.placements done.placement r.placements
  pub more : before.length + done.placement.added < 2 ^ 64 → r.length ≡ before.length + done.placement.added

-- the difference of two nodes by their rows in the matrix and the weights, over the first 128 characters
unfoldable pub length_in : MatrixLists → ℕ → ℕ → ℕ → ℕ
length_in lists m = node_difference (difference lists.weights) (λ v. take columns (row lists.codes m v))

-- the lengths of the branches by node number: that of node v stands at index v
pub record LengthsOf (lists : MatrixLists) (m : ℕ) (tree lengths : List ℕ) : Type 0 where
  pub size : length lengths ≡ tree_size
  pub each : (v : ℕ) → v < tree_size → get_or lengths v 0 ≡ length_in lists m v (ancestor tree v)
