-- What holds of what the calls hand back: of a difference its largest value, of an interval difference that it is the difference from the
-- medians; and what the call for medians leaves, where its questions pass and where one refuses.
use Rattle.std.specs.Prelude.{Ok, Err}
use mathlib.Core.Path.{◌≡◌, refl, ◌∙◌}
use mathlib.Core.List.Memᴰ
use mathlib.Core.List.{List, [], ◌∷◌}
use Prim.Native.Nat.{ℕ, ◌≤◌}
use native.Mathlib.Omega.{arith}
use lib.IntN.{ℤ}
use lib.ListN.{length}
use Rattle.lists.specs.Over.{over}
use Rattle.matrix_form.specs.Shape.{row, MatrixLists}
use Rattle.matrix_form.specs.Outcomes.{Asked, value}
use Rattle.matrix_form.specs.declared.refusal.Refusal.{Refusal}
use Rattle.matrix_form.specs.Questions.{ask_nodes}
use Rattle.matrix_form.proofs.Passing.{nodes_passed, node_passed}
use Rattle.difference_form.specs.Rows.{difference, most_difference, medians}
use Rattle.difference_form.specs.Calls.{difference_answer, interval_answer, ask_medians, MediansAnswer}
use Rattle.difference_form.proofs.Laws.Rows.{difference_limit, interval-median}

-- a difference that is handed back is at most 2,301,696
pub call_most : (lists : MatrixLists) (n m a b : ℕ) → ask_nodes lists n m (a ∷ b ∷ []) ≡ Ok tt
    → difference lists.weights (row lists.codes m a) (row lists.codes m b) ≤ most_difference
call_most lists n m a b e =
    let passed = nodes_passed lists n m (a ∷ b ∷ []) e in
    let at_a = node_passed lists n m (a ∷ b ∷ []) passed a (Memᴰ.head refl) in
    let at_b = node_passed lists n m (a ∷ b ∷ []) passed b (Memᴰ.tail (Memᴰ.head refl)) in
    difference_limit lists.weights (row lists.codes m a) (row lists.codes m b) (rw at_a.0 passed.weighted.known) at_a.1 at_b.1
    (omega (arith, at_a.0, passed.matrix.characters))

-- and it is what the call answers
pub call_difference : (lists : MatrixLists) (n m a b : ℕ) → ask_nodes lists n m (a ∷ b ∷ []) ≡ Ok tt
    → difference_answer lists n m a b ≡ value (difference lists.weights (row lists.codes m a) (row lists.codes m b))
unfolding difference_answer
call_difference lists n m a b e = rw e

-- an interval difference that is handed back is the difference from the medians
pub call_interval : (lists : MatrixLists) (n m b c d : ℕ) → ask_nodes lists n m (b ∷ c ∷ d ∷ []) ≡ Ok tt
    → interval_answer lists n m b c d
    ≡ value (difference lists.weights (row lists.codes m b) (medians (row lists.codes m b) (row lists.codes m c) (row lists.codes m d)))
unfolding interval_answer
call_interval lists n m b c d e =
    let nodes = b ∷ c ∷ d ∷ [] in
    let passed = nodes_passed lists n m nodes e in
    let at_b = node_passed lists n m nodes passed b (Memᴰ.head refl) in
    let at_c = node_passed lists n m nodes passed c (Memᴰ.tail (Memᴰ.head refl)) in
    let at-d = node_passed lists n m nodes passed d (Memᴰ.tail (Memᴰ.tail (Memᴰ.head refl))) in
    let bc : length (row lists.codes m b) ≡ length (row lists.codes m c) = omega (arith, at_b.0, at_c.0) in
    let cd : length (row lists.codes m c) ≡ length (row lists.codes m d) = omega (arith, at_c.0, at-d.0) in
    rw (e, interval-median lists.weights (row lists.codes m b) (row lists.codes m c) (row lists.codes m d) bc cd)

module _ (lists : MatrixLists) (n m a b c : ℕ) (old new : List ℤ) (r : Asked) (answer : MediansAnswer lists n m a b c old new r) where
  -- a call for medians whose questions pass refuses nothing; the lent row then has the medians over its first codes, and all else as before
  pub medians_passed : ask_medians lists n m a b c old ≡ Ok tt
      → (r ≡ Ok tt) × (new ≡ over 0 (medians (row lists.codes m a) (row lists.codes m b) (row lists.codes m c)) old)
  medians_passed e = (answer.says ∙ e, rw e at answer.lent)

  -- one that is refused says the refusal, and the lent row is as before
  pub medians-refused : (refusal : Refusal) → ask_medians lists n m a b c old ≡ Err refusal → (r ≡ Err refusal) × (new ≡ old)
  medians-refused refusal e = (answer.says ∙ e, rw e at answer.lent)
