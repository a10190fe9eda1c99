-- Lengths by node number, as they are handed in with a tree.
use Rattle.std.specs.Prelude.{List, ℕ, get_or}

-- the difference that a list of lengths by node number gives: that of node v stands at index v
unfoldable pub lengths_by : List ℕ → ℕ → ℕ → ℕ
lengths_by lengths v above = get_or lengths v 0
