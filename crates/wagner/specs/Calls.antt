-- What the call for the Wagner tree of a lent matrix answers.
use Rattle.std.specs.Prelude.{◌≡◌, false, List, ℕ, ℤ, length, Result, Ok, Err, MatchResult}
use Rattle.lists.specs.Filled.{filled}
use Rattle.matrix_form.specs.Questions.{LentMatrix, LentWeights, ask_matrix, matrix_shaped}
use Rattle.matrix_form.specs.declared.refusal.Refusal.{Refusal}
use Rattle.difference_form.specs.Rows.{difference}
use Rattle.branching.specs.Views.{ancestors}
use Rattle.filled.specs.Filling.{NoneFilled}
use Rattle.tree_form.specs.Hanging.{only_row_one}
use Rattle.tree_form.specs.Placing.{no_placement}
use Rattle.wagner.specs.declared.answer.WagnerTree.{WagnerTree}
use Rattle.tree_form.specs.declared.order.Order.{Order}
use Rattle.wagner_form.specs.Build.{wagner_length}
use Rattle.wagner_form.specs.Matrix.{wagner_in, matrix_after}
use Rattle.matrix_form.specs.Shape.{MatrixLists}
use Rattle.matrix_form.specs.NodeRows.{HtusWritten}

-- at most 63 taxa are placed
abbrev pub most_placements : ℕ
most_placements = 63

-- the answer of a build that no question refuses, for a lent matrix of n taxa and m characters, by its weights and in an order of placing:
-- the Wagner tree; the placements, with zeros behind them, and their number; the matrix with the rows of the HTUs; the length under the
-- median codes
pub record BuiltFrom (order : Order) (lists : MatrixLists) (new : List ℤ) (n m : ℕ) (r : WagnerTree) : Type 0 where
  pub passed : ask_matrix lists n m ≡ Ok tt
  pub tree : ancestors r.tree ≡ (wagner_in order lists n m).tree
  pub placements : r.placements.items ≡ filled most_placements no_placement (wagner_in order lists n m).placements
  pub count : r.placements.count ≡ length (wagner_in order lists n m).placements
  pub matrix : new ≡ matrix_after lists.codes n (wagner_in order lists n m)
  pub whole : r.length ≡ wagner_length (difference lists.weights) n (wagner_in order lists n m)

-- row 1 alone, before the first placement
pub record RowOne (r : WagnerTree) : Type 0 where
  pub tree : ancestors r.tree ≡ only_row_one
  pub placements : NoneFilled no_placement r.placements
  pub none : r.length ≡ 0

-- r is the build of a lent matrix of n taxa and m characters with its weights; of every matrix at most states of HTUs are written over; where
-- it has not its shape none is, and r is row 1 alone
pub record TreeBuilt (order : Order) (lists : MatrixLists) (new : List ℤ) (n m : ℕ) (r : WagnerTree) : Type 0 where
  pub is : LentMatrix lists.codes n m → LentWeights lists.weights m → BuiltFrom order lists new n m r
  pub only : HtusWritten n m lists.codes new
  pub unshaped : matrix_shaped (length lists.codes) n m ≡ false → (new ≡ lists.codes) × RowOne r

-- a build that is refused: what the questions on the matrix say, and the matrix as before
pub record NotBuilt (lists : MatrixLists) (new : List ℤ) (n m : ℕ) (refusal : Refusal) : Type 0 where
  pub refused : ask_matrix lists n m ≡ Err refusal
  pub matrix : new ≡ lists.codes

-- the answer of a build
abbrev pub BuildDone : Order → MatrixLists → List ℤ → ℕ → ℕ → Result WagnerTree Refusal → Type 0
BuildDone order lists new n m r =
    MatchResult r (λ built. BuiltFrom order lists new n m built) (λ refusal. NotBuilt lists new n m refusal)
