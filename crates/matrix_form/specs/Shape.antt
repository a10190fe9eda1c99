-- The shape of the lent matrix and the index of a code in it (document 01, "The matrix file").
-- A matrix has 126 rows of 128 codes in one list, row after row. Node v stands in row v: taxa are nodes 1 to n, HTUs follow.
use Rattle.std.specs.Prelude.{List, Bool, ◌&&◌, ℕ, ◌+◌, ◌*◌, ◌-◌, max, leb, ℤ, pos, nat_abs, take, drop, get_or, slice_index_or}

-- a matrix has at most 64 taxa
abbrev pub most_taxa : ℕ
most_taxa = 64

-- and at most 128 characters
abbrev pub most_characters : ℕ
most_characters = 128

-- a row has 128 codes
abbrev pub columns : ℕ
columns = 128

-- 126 rows of 128 codes
abbrev pub matrix_size : ℕ
matrix_size = 16128

-- the lists lent with a matrix: its codes, row after row, and the weights of its characters
pub record MatrixLists : Type 0 where
  pub codes : List ℤ
  pub weights : List ℕ

-- these lists, lent together
abbrev pub matrix_of : List ℤ → List ℕ → MatrixLists
matrix_of codes weights = record { codes = codes; weights = weights }

-- the lists with other codes, as a call leaves them
abbrev pub with_codes : MatrixLists → List ℤ → MatrixLists
with_codes lists codes = record { codes = codes; weights = lists.weights }

-- where the row of node v begins
abbrev pub row_start : ℕ → ℕ
row_start v = (v - 1) * columns

-- the row of node v: its codes for characters 1 to m
unfoldable pub row : List ℤ → ℕ → ℕ → List ℤ
row codes m v = take m (drop (row_start v) codes)

-- the state of node v in character j in a list of the matrix's shape; in the matrix itself that is its code
abbrev pub state_at : List ℤ → ℕ → ℕ → ℤ
state_at list v j = slice_index_or list (row_start v + (j - 1)) (pos 0)

-- the highest code; the lowest is as far below 0
abbrev pub highest_code : ℕ
highest_code = 999

-- a code is from -999 to 999
unfoldable pub in_range : ℤ → Bool
in_range code = leb (nat_abs code) highest_code

-- the number of the last node: 2n-2, and for n = 1 node 1
unfoldable pub last_node : ℕ → ℕ
last_node n = max 1 (2 * n - 2)

-- a weight is at most 9
abbrev pub heaviest : ℕ
heaviest = 9

-- a weight is from 1 to 9 (document 02, M-101)
unfoldable pub is_weight : ℕ → Bool
is_weight weight = leb 1 weight && leb weight heaviest

-- the weight at an index, counted from 0; a character without one has weight 1
unfoldable pub weight_at : List ℕ → ℕ → ℕ
weight_at weights index = get_or weights index 1

-- the weight of character j, counted from 1
unfoldable pub weight_of : List ℕ → ℕ → ℕ
weight_of weights j = weight_at weights (j - 1)
