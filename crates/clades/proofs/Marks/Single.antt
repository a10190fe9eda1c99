-- Single codes of an unordered character: row 1 or a taxon whose own set is one state alone takes that state, and that is its range.
use mathlib.Core.Path.{◌≡◌, refl, sym, ◌∙◌, ap, subst}
use mathlib.Core.Logic.{◌⊎◌, inl, inr, ⊎_elim, ◌↔◌, by_cases}
use Prim.Native.Nat.{ℕ, zero, suc, ◌/◌, ◌%◌, ◌^◌, ◌<◌}
use native.Mathlib.Nat.{pow-suc, zero-div}
use native.Mathlib.Omega.{arith}
use native.Mathlib.Decide.{dec_le}
use lib.IntN.{ℤ, pos, negsuc}
use lib.Bits.{bit_and, bit_or, and_step, and_zero_l, and_self, or_zero_r}
use lib.Pow.{pow_pos, pow-lt}
use Rattle.clades.specs.Kinds.{among}
use Rattle.clades.specs.Marks.{mark, ProperMarks, only_mark, lowest_state, nearest_state, middle_marks, unordered}
use Rattle.clades.proofs.Marks.Bits.{digit, digit_zero, digit_suc, lowest_state_in}
use Rattle.clades.proofs.Marks.Distance.{nearest_state_in}
use Rattle.clades.proofs.Marks.IsKind.{or_else_cases}

-- half of the next power of 2 is the power
half_power : (k : ℕ) → 2 ^ suc k / 2 ≡ 2 ^ k
half_power k = omega (arith, pow-suc 2 k)

-- all digits of 0 are 0
digit_empty : (i : ℕ) → digit i 0 ≡ 0
digit_empty i = ap (λ n. n % 2) (zero-div (2 ^ i))

-- a power of 2 has no digit 1 but the one in the place of its exponent
digit_power : (i k : ℕ) → digit i (2 ^ k) ≡ 1 → i ≡ k
digit_power zero zero e = refl
digit_power zero (suc k) e = absurd (omega (arith, digit_zero (2 ^ suc k), pow-suc 2 k))
digit_power (suc i) zero e = absurd (omega (arith, digit_suc i 1 ∙ digit_empty i, e))
digit_power (suc i) (suc k) e = ap suc (digit_power i k (sym (digit_suc i (2 ^ suc k) ∙ ap (digit i) (half_power k)) ∙ e))

-- and it has that digit
power_digit : (k : ℕ) → digit k (2 ^ k) ≡ 1
power_digit zero = refl
power_digit (suc k) = digit_suc k (2 ^ suc k) ∙ ap (digit k) (half_power k) ∙ power_digit k

-- a state has its mark in a single code's set exactly if it is the code
pub only_mark_iff : (k : ℕ) (s : ℤ) → (mark s (only_mark (pos k)) ≡ 1) ↔ (s ≡ pos k)
unfolding mark only_mark
only_mark_iff k (pos i) = (λ e. ap pos (digit_power i k e), λ e. subst (λ (z : ℤ). mark z (2 ^ k) ≡ 1) (sym e) (power_digit k))
only_mark_iff k (negsuc i) = (λ e. absurd (omega arith), λ e. absurd (let z : ◌≡◌ {A = ℕ} 0 1 = cc in omega arith))

-- the set of a single code from 0 to 31 can be the set of a node
pub only_mark_proper : (k : ℕ) → k < 32 → ProperMarks (only_mark (pos k))
unfolding only_mark
only_mark_proper k h = record { some = pow_pos k; fits = pow-lt h }

-- whatever state is above, the member nearest to it is the code
pub nearest-only_mark : (s : ℤ) (k : ℕ) → k < 32 → nearest_state s (only_mark (pos k)) ≡ pos k
nearest-only_mark s k h =
    (only_mark_iff k (nearest_state s (only_mark (pos k)))).0 (nearest_state_in s (only_mark (pos k)) (only_mark_proper k h))

-- the lowest state is the code
pub lowest-only_mark : (k : ℕ) → k < 32 → lowest_state (only_mark (pos k)) ≡ pos k
lowest-only_mark k h = (only_mark_iff k (lowest_state (only_mark (pos k)))).0 (lowest_state_in (only_mark (pos k)) (only_mark_proper k h))

-- the intersection of a single state's set with another set is empty or the former
and_power : (k b : ℕ) → (bit_and (2 ^ k) b ≡ 0) ⊎ (bit_and (2 ^ k) b ≡ 2 ^ k)
and_power zero b =
    by_cases
    (dec_le 1 (b % 2))
    (λ h. inr (omega (arith, and_step 1 b, and_zero_l (b / 2))))
    (λ h. inl (omega (arith, and_step 1 b, and_zero_l (b / 2))))
and_power (suc k) b = ⊎_elim
    (λ e. inl (omega (arith, and_step (2 ^ suc k) b, half, e, pow-suc 2 k)))
    (λ e. inr (omega (arith, and_step (2 ^ suc k) b, half, e, pow-suc 2 k)))
    (and_power k (b / 2))
  where
    half : bit_and (2 ^ suc k / 2) (b / 2) ≡ bit_and (2 ^ k) (b / 2)
    half = ap (λ a. bit_and a (b / 2)) (half_power k)

-- the members of a single code's set that are nearest to another set are the code alone
pub among-only_mark : (k b : ℕ) → among unordered (only_mark (pos k)) b ≡ only_mark (pos k)
unfolding middle_marks only_mark
among-only_mark k b =
    let x = 2 ^ k in
    or_else_cases (λ j. j ≡ x) (bit_and (bit_and x x) b) _
    (λ h.
    let same : bit_and (bit_and x x) b ≡ bit_and x b = ap (λ a. bit_and a b) (and_self x) in
    ⊎_elim (λ e. absurd (omega arith)) (λ e. same ∙ e) (and_power k b))
    (λ none.
    let e : bit_and x b ≡ 0 = sym (ap (λ a. bit_and a b) (and_self x)) ∙ none in
    let two : bit_or (bit_or (bit_and x x) (bit_and x b)) (bit_and x b) ≡ x =
    ap (λ c. bit_or (bit_or (bit_and x x) c) c) e ∙ or_zero_r (bit_or (bit_and x x) 0) ∙ or_zero_r (bit_and x x) ∙ and_self x in
    or_else_cases (λ j. j ≡ x) (bit_or (bit_or (bit_and x x) (bit_and x b)) (bit_and x b)) _
    (λ h. two)
    (λ empty. absurd (omega (arith, two, pow_pos k))))
