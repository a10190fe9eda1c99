-- What `map_err` hands on, read back: the value of an `Ok`, and of an `Err` the error that it was made from.
use mathlib.Core.Path.{◌≡◌, refl, subst}
use Rattle.std.specs.Prelude.{Result, Ok, Err, MatchResult}
use Rattle.std.specs.Result.{IsErrAnd}

module _ {T E F : Type 0} (made : E → F → Type 0) where
  -- a value is the value of the answer
  pub mapped_ok : (answer : Result T E) (mapped : Result T F) → MatchResult answer (λ x. mapped ≡ Ok x) (λ e. IsErrAnd mapped (made e))
      → (x : T) → mapped ≡ Ok x → answer ≡ Ok x
  mapped_ok (Ok y) mapped cases x is = cc
  mapped_ok (Err e) (Ok y) cases x is = absurd cases
  mapped_ok (Err e) (Err f) cases x is = cc

  -- an error was made from an error of the answer
  pub mapped_err : (answer : Result T E) (mapped : Result T F) → MatchResult answer (λ x. mapped ≡ Ok x) (λ e. IsErrAnd mapped (made e))
      → (f : F) → mapped ≡ Err f → (e : E) × (answer ≡ Err e) × made e f
  mapped_err (Ok y) mapped cases f is = cc
  mapped_err (Err e) (Ok y) cases f is = absurd cases
  mapped_err (Err e) (Err g) cases f is = let same : g ≡ f = cc in (e, refl, subst (made e) same cases)
