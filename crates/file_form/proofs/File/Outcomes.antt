-- Outcomes that hold a value: every question on the way to it was answered "yes".
use mathlib.Core.Path.{◌≡◌, refl}
use Prim.Native.Nat.{ℕ}
use native.Mathlib.Omega.{arith}
use Rattle.matrix_form.specs.Outcomes.{Outcome, value, refused, on_line, then_with}
use Rattle.matrix_form.specs.Outcomes.{Asked}
use Rattle.std.specs.Prelude.{Ok, Err}

module _ {A : Type 0} where
  -- a refusal holds no value
  pub not-refused : (number line : ℕ) (a : A) → refused number line ≡ value a → ⊥
  not-refused number line a e = let never : ◌≡◌ {A = ℕ} 0 1 = cc in omega arith

  -- the questions put to a line passed, and what follows them holds the value
  pub line_passed : (line : ℕ) (asked : Asked) (rest : Outcome A) (a : A) → on_line line asked rest ≡ value a
      → (asked ≡ Ok tt) × (rest ≡ value a)
  line_passed line (Ok _) rest a e = (refl, e)
  line_passed line (Err refusal) rest a e = absurd (not-refused _ line a e)

  -- an outcome holds a value, and what follows it holds the other
  pub then_passed : {B : Type 0} (outcome : Outcome A) (follow : A → Outcome B) (b : B) → then_with outcome follow ≡ value b
      → (a : A) × (outcome ≡ value a) × (follow a ≡ value b)
  then_passed (value a) follow b e = (a, refl, e)
  then_passed (refused number line) follow b e = let never : ◌≡◌ {A = ℕ} 0 1 = cc in absurd (omega arith)

-- an outcome whose value is only changed: it refuses where the other does
pub then_refused : {A B : Type 0} (outcome : Outcome A) (change : A → B) (number line : ℕ)
    → then_with outcome (λ a. value (change a)) ≡ refused number line → outcome ≡ refused number line
then_refused (value a) change number line e = let never : ◌≡◌ {A = ℕ} 0 1 = cc in absurd (omega arith)
then_refused (refused other place) change number line e = cc
