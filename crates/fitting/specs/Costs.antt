-- What a character costs, and the fitted total of a branching.
use Rattle.std.specs.Prelude.{◌≡◌, ℕ, ◌*◌, ◌^◌, ◌≤◌, true, false, List, length}
use Rattle.matrix_form.specs.Shape.{weight_of, MatrixLists}
use Rattle.matrix_form.specs.Spans.{spans_of}
use Rattle.matrix_form.specs.Questions.{LentMatrix, LentWeights, matrix_shaped}
use Rattle.difference_form.specs.Rows.{weighing}
use Rattle.tree_form.specs.Within.{branching_within}
use Rattle.fit_form.specs.Fit.{fitted_total}
use Rattle.fit_passes.specs.Steps.{character_length}

-- r is a length that counts as often as a weight says, if the length is at most 2 ^ 32
pub record WeighedOf (weight length r : ℕ) : Type 0 where
  pub is : length ≤ 2 ^ 32 → r ≡ weight * length

-- r is the cost of character j: its length under the chosen states, as often as its weight says
pub record CostOf (lists : MatrixLists) (n m : ℕ) (tree : List ℕ) (j r : ℕ) : Type 0 where
  pub is : branching_within n tree ≡ true → LentMatrix lists.codes n m → LentWeights lists.weights m
      → r ≡ weight_of lists.weights j * character_length tree (spans_of lists m n) n j

-- r is the sum of the costs of all characters: of a branching with a lent matrix of n taxa and m characters the fitted total, by its weights
pub record CostsOf (lists : MatrixLists) (n m : ℕ) (tree : List ℕ) (r : ℕ) : Type 0 where
  pub is : branching_within n tree ≡ true → LentMatrix lists.codes n m → LentWeights lists.weights m
      → r ≡ fitted_total (weighing lists.weights).step tree (spans_of lists m n) n m

-- r is that sum where the matrix has its shape, and 0 elsewhere
pub record TotalOf (lists : MatrixLists) (n m : ℕ) (tree : List ℕ) (r : ℕ) : Type 0 where
  pub costs : CostsOf lists n m tree r
  pub unshaped : matrix_shaped (length lists.codes) n m ≡ false → r ≡ 0
