-- Cases on the order of two numbers.
use Rattle.std.proofs.Common.{ℕ, ◌<◌, ◌≤◌, min, max, subst, le_of_lt, arith}
use mathlib.Core.Logic.{by_cases}
use native.Mathlib.Nat.{min-eq_left, min-eq_right, max-eq_left, max-eq_right}
use native.Mathlib.Decide.{dec_le}

-- of two numbers one is at most the other
pub either : (a b : ℕ) {P : Type 0} → (a ≤ b → P) → (b < a → P) → P
either a b f g = by_cases (dec_le a b) f (λ no. g (omega arith))

-- what holds of two numbers, each where it is the lower one, holds of the lower one
pub min_cases : (P : ℕ → Type 0) (a b : ℕ) → (a ≤ b → P a) → (b < a → P b) → P (min a b)
min_cases P a b f g = either a b (λ h. subst P (omega arith) (f h)) (λ h. subst P (omega arith) (g h))

-- what holds of two numbers, each where it is the higher one, holds of the higher one
pub max_cases : (P : ℕ → Type 0) (a b : ℕ) → (a ≤ b → P b) → (b < a → P a) → P (max a b)
max_cases P a b f g = either a b (λ h. subst P (omega arith) (f h)) (λ h. subst P (omega arith) (g h))

-- a number between two others, by their order
pub between : (s x y : ℕ) {P : Type 0} → (x ≤ y → x ≤ s → s ≤ y → P) → (y < x → y ≤ s → s ≤ x → P) → min x y ≤ s → s ≤ max x y → P
between s x y f g p q = either x y
    (λ h. f h (rw (min-eq_left h) at p) (rw (max-eq_right h) at q))
    (λ h. g h (rw (min-eq_right (le_of_lt h)) at p) (rw (max-eq_left (le_of_lt h)) at q))
