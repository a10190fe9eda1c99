-- The questions put to a lent matrix, in document 01's order: a "no" ends them with its refusal.
use Rattle.std.specs.Prelude.{List, Bool, true, ◌&&◌, ◌≡◌, ℕ, ◌≤◌, leb, eqb, ℤ, length, take, Ok}
use Rattle.lists.specs.Numbers.{numbers}
use Rattle.lists.specs.Tests.{every}
use Rattle.matrix_form.specs.Outcomes.{Asked, ask, and_then, unless, ask_each}
use Rattle.matrix_form.specs.Shape.{most_taxa, most_characters, columns, matrix_size, row, in_range, is_weight, last_node, MatrixLists}
use Rattle.matrix_form.specs.declared.refusal.Refusal.TheVariants.{BeyondLimits, CodeRange, ListSize, NotThere, WeightForm}

-- an item, counted from 1, is one of `last`
unfoldable pub one_to : ℕ → ℕ → Bool
one_to last item = leb 1 item && leb item last

-- n is 1 to 64 and m is 1 to 128
unfoldable pub within_limits : ℕ → ℕ → Bool
within_limits n m = one_to most_taxa n && one_to most_characters m

-- a matrix has its shape: n and m are within their limits, and its length is that of 126 rows of 128 codes
unfoldable pub matrix_shaped : ℕ → ℕ → ℕ → Bool
matrix_shaped size n m = within_limits n m && eqb size matrix_size

-- all codes of a row are from -999 to 999
unfoldable pub all_in_range : List ℤ → Bool
all_in_range codes = every in_range codes

-- the question put to one code: is it from -999 to 999?
unfoldable pub ask_code : ℤ → Asked
ask_code code = ask (in_range code) CodeRange (Ok tt)

-- those put to the row of node v, code by code
unfoldable pub ask_row_of : MatrixLists → ℕ → ℕ → Asked
ask_row_of lists m v = ask_each ask_code (row lists.codes m v)

-- those put to the rows of some nodes, row by row
unfoldable pub ask_rows_of : MatrixLists → ℕ → List ℕ → Asked
ask_rows_of lists m nodes = ask_each (ask_row_of lists m) nodes

-- the first m of the lent weights are from 1 to 9
unfoldable pub are_weights : List ℕ → ℕ → Bool
are_weights weights m = every is_weight (take m weights)

-- the questions on a lent matrix and its weights alone: full sizes, limits, weights, codes of the taxa
unfoldable pub ask_matrix : MatrixLists → ℕ → ℕ → Asked
ask_matrix lists n m =
    ask (eqb (length lists.codes) matrix_size) ListSize
    (ask (eqb (length lists.weights) columns) ListSize
    (ask (within_limits n m) BeyondLimits
    (ask (are_weights lists.weights m) WeightForm (ask_rows_of lists m (numbers 1 n)))))

-- a lent matrix of n taxa and m characters: what the questions above let pass
pub record LentMatrix (codes : List ℤ) (n m : ℕ) : Type 0 where
  pub full : length codes ≡ matrix_size
  pub taxon : 1 ≤ n
  pub taxa : n ≤ most_taxa
  pub character : 1 ≤ m
  pub characters : m ≤ most_characters
  pub known : (v : ℕ) → 1 ≤ v → v ≤ n → all_in_range (row codes m v) ≡ true

-- lent weights of m characters: what the questions above let pass
pub record LentWeights (weights : List ℕ) (m : ℕ) : Type 0 where
  pub full : length weights ≡ columns
  pub known : are_weights weights m ≡ true

-- the lists lent with a matrix of n taxa and m characters: all that the questions above let pass
abbrev pub MatrixLent : MatrixLists → ℕ → ℕ → Type 0
MatrixLent lists n m = LentMatrix lists.codes n m × LentWeights lists.weights m

-- every node of a list is one of 1 to the last node
unfoldable pub nodes_exist : ℕ → List ℕ → Bool
nodes_exist n nodes = every (one_to (last_node n)) nodes

-- the questions put to the row of node v, if it is an HTU
unfoldable pub ask_htu : MatrixLists → ℕ → ℕ → ℕ → Asked
ask_htu lists n m v = unless (leb v n) (ask_row_of lists m v)

-- the questions of a call that names some nodes: those on the matrix, then whether the nodes exist, then the rows of the HTUs among them
unfoldable pub ask_nodes : MatrixLists → ℕ → ℕ → List ℕ → Asked
ask_nodes lists n m nodes =
    and_then (ask_matrix lists n m)
    (ask (nodes_exist n nodes) NotThere (ask_each (ask_htu lists n m) nodes))
