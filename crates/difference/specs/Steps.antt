-- The nodes of a lent matrix: their differences.
use Rattle.std.specs.Prelude.{ℕ, ◌≡◌, List, ◌*◌, ◌≤◌, ◌^◌, ℤ, take}
use Rattle.matrix_form.specs.Shape.{row, most_characters}
use Rattle.difference_form.specs.Rows.{difference, node_difference}
use Rattle.difference.specs.declared.nodes.Nodes.{Nodes}

-- the difference of two nodes, by the weights of the characters
abbrev pub between : Nodes → ℕ → ℕ → ℕ
between nodes = node_difference (difference nodes.lent.weights.now) (row nodes.lent.matrix.now nodes.lent.m)

-- r is the difference of two rows of 32-bit codes by weights of 8 bits, over their first 128 characters, each of which adds at most
-- 2 ^ 8 times 2 ^ 32
pub record DifferenceOf (weights : List ℕ) (xs ys : List ℤ) (r : ℕ) : Type 0 where
  pub is : r ≡ difference weights (take most_characters xs) (take most_characters ys)
  pub most : r ≤ most_characters * 2 ^ 40
