-- What a call that puts questions first hands back, from what its questions answer.
use mathlib.Core.Path.{◌≡◌}
use Rattle.std.specs.Prelude.{Result, Ok, Err, IsOkAnd}
use Rattle.matrix_form.specs.Outcomes.{Asked, Answers}
use Rattle.matrix_form.specs.declared.refusal.Refusal.{Refusal}

module _ {A : Type 0} (asked : Asked) (P : A → Type 0) where
  -- a value, where they pass, of which P holds
  pub answers-passed : (r : Result A Refusal) → Answers asked P r → asked ≡ Ok tt → IsOkAnd r P
  answers-passed (Ok a) h e = h.1
  answers-passed (Err refusal) h e = cc

  -- the refusal, where they refuse
  pub answers_refused : (r : Result A Refusal) (refusal : Refusal) → Answers asked P r → asked ≡ Err refusal → r ≡ Err refusal
  answers_refused (Ok a) refusal h e = cc
  answers_refused (Err other) refusal h e = cc
