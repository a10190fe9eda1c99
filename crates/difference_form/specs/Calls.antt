-- What the calls on a lent matrix answer: the questions of document 01 in their order, then the definition.
use Rattle.std.specs.Prelude.{◌≡◌, List, [], ◌∷◌, ℕ, eqb, ℤ, length}
use Rattle.lists.specs.Over.{over}
use Rattle.matrix_form.specs.Shape.{columns, row, MatrixLists}
use Rattle.matrix_form.specs.Outcomes.{Asked, Outcome, answered, asked_says, ask, afterwards}
use Rattle.matrix_form.specs.Questions.{ask_nodes}
use Rattle.matrix_form.specs.declared.refusal.Refusal.TheVariants.{ListSize}
use Rattle.difference_form.specs.Rows.{difference, medians, interval_difference}

-- the difference of nodes a and b
unfoldable pub difference_answer : MatrixLists → ℕ → ℕ → ℕ → ℕ → Outcome ℕ
difference_answer lists n m a b =
    answered (ask_nodes lists n m (a ∷ b ∷ [])) (difference lists.weights (row lists.codes m a) (row lists.codes m b))

-- the interval difference of node b from the interval between nodes c and d
unfoldable pub interval_answer : MatrixLists → ℕ → ℕ → ℕ → ℕ → ℕ → Outcome ℕ
interval_answer lists n m b c d =
    answered (ask_nodes lists n m (b ∷ c ∷ d ∷ []))
    (interval_difference lists.weights (row lists.codes m b) (row lists.codes m c) (row lists.codes m d))

-- the questions of the call for medians: the lent row has 128 codes, then those on the matrix and the three nodes
unfoldable pub ask_medians : MatrixLists → ℕ → ℕ → ℕ → ℕ → ℕ → List ℤ → Asked
ask_medians lists n m a b c out = ask (eqb (length out) columns) ListSize (ask_nodes lists n m (a ∷ b ∷ c ∷ []))

-- the call for medians answers its questions; the lent row then has the medians over its first m codes, or is as before
pub record MediansAnswer (lists : MatrixLists) (n m a b c : ℕ) (old new : List ℤ) (r : Asked) : Type 0 where
  pub says : r ≡ ask_medians lists n m a b c old
  pub lent : new
      ≡ afterwards (asked_says (ask_medians lists n m a b c old))
      (over 0 (medians (row lists.codes m a) (row lists.codes m b) (row lists.codes m c)) old) old
