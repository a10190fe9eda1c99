-- What the layers `floor_of` and `index_of` promise at every input; and for the private functions alone, the states of a column of a lent
-- matrix, and what is found of them.
use Rattle.std.specs.Prelude.{◌≡◌, List, map, ℕ, ◌^◌, ◌≤◌, ℤ, Option, None, ◌<◌, false, length}
use Rattle.lists.specs.Numbers.{numbers}
use Rattle.lists.specs.Sums.{sum_over}
use Rattle.matrix_form.specs.Shape.{weight_of, state_at, MatrixLists}
use Rattle.difference_form.specs.Rows.{lower, higher, part, most_difference}
use Rattle.matrix_form.specs.Spans.{only}
use Rattle.matrix_form.specs.declared.spans.Span.{Span}
use Rattle.consistency_form.specs.Floor.{greatest_low, least_high, character_floor, floor}
use Rattle.consistency_form.specs.Index.{index}
use Rattle.consistency_form.specs.declared.index.Index.{Index}
use Rattle.matrix_form.specs.Questions.{LentMatrix, matrix_shaped}
use Rattle.consistency_form.specs.Calls.{lent_floor}

-- the states in column j of the rows of nodes v, v+1, ..: of each its code alone
unfoldable pub column : List ℤ → ℕ → ℕ → ℕ → List Span
column matrix j v count = map (λ u. only (state_at matrix u j)) (numbers v count)

-- the greatest low and the least high end of some states, with those of one taxon more
abbrev pub narrowed : Span → Span → Span
narrowed own ends = record { low = higher own.low ends.low; high = lower own.high ends.high }

-- the greatest low and the least high end of some states
abbrev pub ends_of : List Span → Span
ends_of spans = record { low = greatest_low spans; high = least_high spans }

-- r are the greatest low and the least high end of the states of n taxa in column j
pub record EndsOf (matrix : List ℤ) (n j : ℕ) (r : Span) : Type 0 where
  pub are : r ≡ ends_of (column matrix j 1 n)

-- r is the floor of the states of n taxa in column j, by a weight
pub record FloorIn (weight : ℕ) (matrix : List ℤ) (n j r : ℕ) : Type 0 where
  pub is : r ≡ character_floor (part weight) (column matrix j 1 n)
  pub most : r ≤ 2 ^ 40

-- the sum of the floors of the states of n taxa in columns 1 to m
unfoldable pub column_floors : MatrixLists → ℕ → ℕ → ℕ
column_floors lists n m = sum_over (λ j. character_floor (part (weight_of lists.weights j)) (column lists.codes j 1 n)) (numbers 1 m)

-- the highest floor that a matrix can have: as much as two rows can differ
abbrev pub most_floor : ℕ
most_floor = most_difference

-- r is the index of a floor and a total; for a floor that no matrix has there is none
pub record IndexOf (floor total : ℕ) (r : Option Index) : Type 0 where
  pub is : floor ≤ most_floor → r ≡ index floor total
  pub above : most_floor < floor → r ≡ None

-- r is the floor of a lent matrix, and 0 where the matrix has not its shape
pub record FloorOf (lists : MatrixLists) (n m r : ℕ) : Type 0 where
  pub is : LentMatrix lists.codes n m → r ≡ lent_floor lists n m
  pub unshaped : matrix_shaped (length lists.codes) n m ≡ false → r ≡ 0
