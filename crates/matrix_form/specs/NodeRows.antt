-- The rows of the nodes, by node number, and a matrix with rows written into it.
use Rattle.std.specs.Prelude.{◌≡◌, List, [], map, ℕ, ◌-◌, ◌≤◌, ◌<◌, ℤ, get_or, length}
use Rattle.lists.specs.Numbers.{numbers}
use Rattle.lists.specs.Over.{over, stripes}
use Rattle.matrix_form.specs.Shape.{columns, row_start, row, last_node, state_at}

-- the row of node v
unfoldable pub row_of : List (List ℤ) → ℕ → List ℤ
row_of rows v = get_or rows (v - 1) []

-- the rows of nodes 1 to `count`, of m characters
unfoldable pub rows_of : List ℤ → ℕ → ℕ → List (List ℤ)
rows_of codes m count = map (row codes m) (numbers 1 count)

-- the matrix with a row written over the first codes of the row of node v
unfoldable pub with_row : List ℤ → ℕ → List ℤ → List ℤ
with_row codes v r = over (row_start v) r codes

-- the matrix with rows written so for nodes v, v+1, ..
unfoldable pub with_rows : List ℤ → ℕ → List (List ℤ) → List ℤ
with_rows codes v rows = stripes columns (row_start v) rows codes

-- in a list of the matrix's shape at most the states of the HTUs of n taxa in characters 1 to m are written over: it keeps its length and
-- every other state
pub record HtusWritten (n m : ℕ) (old new : List ℤ) : Type 0 where
  pub size : length new ≡ length old
  pub others : (v j : ℕ) → 1 ≤ v → 1 ≤ j → j ≤ columns → (n < v → v ≤ last_node n → j ≤ m → ⊥) → state_at new v j ≡ state_at old v j
