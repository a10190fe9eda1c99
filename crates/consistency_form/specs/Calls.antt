-- What the call for the floor of a lent matrix and the one for the index of a lent branching answer: the questions of document 01 in their
-- order, then the definition.
use Rattle.std.specs.Prelude.{Option, List, ℕ}
use Rattle.matrix_form.specs.Spans.{spans_of}
use Rattle.matrix_form.specs.Outcomes.{Outcome, answered}
use Rattle.matrix_form.specs.Questions.{ask_matrix}
use Rattle.difference_form.specs.Rows.{weighing}
use Rattle.tree_form.specs.declared.branch.Branch.{Branch}
use Rattle.tree_form.specs.Branches.{ancestors_of}
use Rattle.tree_form.specs.Asking.{ask_branching}
use Rattle.fit_form.specs.Fit.{fitted_total}
use Rattle.consistency_form.specs.Floor.{floor}
use Rattle.consistency_form.specs.Index.{index}
use Rattle.consistency_form.specs.declared.index.Index.{Index}
use Rattle.matrix_form.specs.Shape.{MatrixLists}

-- the floor of a lent matrix of n taxa and m characters, by its weights
abbrev pub lent_floor : MatrixLists → ℕ → ℕ → ℕ
lent_floor lists n m = floor (weighing lists.weights).step (spans_of lists m n) n m

-- the floor of a lent matrix, once its questions are answered
unfoldable pub floor_answer : MatrixLists → ℕ → ℕ → Outcome ℕ
floor_answer lists n m = answered (ask_matrix lists n m) (lent_floor lists n m)

-- the index of a lent branching, by the floor of its matrix and its fitted total, once its questions are answered
unfoldable pub index_answer : MatrixLists → ℕ → ℕ → List Branch → Outcome (Option Index)
index_answer lists n m records =
    answered (ask_branching lists n m records)
    (index (lent_floor lists n m) (fitted_total (weighing lists.weights).step (ancestors_of n records) (spans_of lists m n) n m))
