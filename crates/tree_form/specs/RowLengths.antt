-- The length of a tree, by the rows of its nodes. The rows stand by node number from 1: those of the taxa, and behind them those of the
-- HTUs made. It is said over any difference d of two rows.
use Rattle.std.specs.Prelude.{List, ℕ, ℤ}
use Rattle.matrix_form.specs.NodeRows.{row_of}
use Rattle.difference_form.specs.Rows.{node_difference}
use Rattle.tree_form.specs.Branches.{tree_length}

module _ (d : List ℤ → List ℤ → ℕ) where
  -- the length of a tree of n taxa under the rows of its nodes: the sum of differences over all branches
  unfoldable pub length_under : ℕ → List ℕ → List (List ℤ) → ℕ
  length_under n tree rows = tree_length (node_difference d (row_of rows)) n tree
