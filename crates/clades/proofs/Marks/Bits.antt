-- The marks of a set: those of an intersection and of a union, and the lowest one.
use mathlib.Core.Path.{◌≡◌, refl, sym, ◌∙◌, ap}
use Prim.Native.Nat.{ℕ, zero, suc, ◌/◌, ◌%◌, ◌^◌, ◌≤◌, ◌<◌, min, max}
use native.Mathlib.Nat.{div-one, zero-div, pow-suc}
use native.Mathlib.Omega.{arith}
use lib.IntN.{ℤ, pos, negsuc}
use lib.Signed.{◌≤ℤ◌, le_z_yes}
use lib.Dec.{le→leb}
use lib.Bits.{bit_and, bit_or, and_shr, or_shr, and_step, or_step}
use lib.Pow.{shr-shr}
use lib.Count.{under, count_trailing_zeros}
use Rattle.clades.specs.Marks.{mark, ProperMarks, lowest_state}

-- binary digit k of a number, counted from the lowest
abbrev pub digit : ℕ → ℕ → ℕ
digit k a = a / 2 ^ k % 2

-- the lowest digit is the remainder by 2
pub digit_zero : (a : ℕ) → digit zero a ≡ a % 2
digit_zero a = ap (λ n. n % 2) (div-one a)

-- a higher digit is one of half the number
pub digit_suc : (k a : ℕ) → digit (suc k) a ≡ digit k (a / 2)
digit_suc k a = ap (λ n. n % 2) (ap (λ n. a / 2 ^ n) (omega arith) ∙ sym (shr-shr a 1 k))

-- the lowest digit of an intersection is the lower of the two
and_odd : (a b : ℕ) → bit_and a b % 2 ≡ min (a % 2) (b % 2)
and_odd a b = omega (arith, and_step a b)

-- the lowest digit of a union is the higher of the two
or_odd : (a b : ℕ) → bit_or a b % 2 ≡ max (a % 2) (b % 2)
or_odd a b = omega (arith, or_step a b)

-- a mark is 0 or 1
pub mark-most : (s : ℤ) (a : ℕ) → mark s a ≤ 1
unfolding mark
mark-most (pos k) a = omega arith
mark-most (negsuc k) a = omega arith

-- the empty set has no mark
pub mark_empty : (s : ℤ) → mark s 0 ≡ 0
unfolding mark
mark_empty (pos k) = ap (λ n. n % 2) (zero-div (2 ^ k))
mark_empty (negsuc k) = refl

-- a state's mark in an intersection is the lower of its two
pub mark-and : (s : ℤ) (a b : ℕ) → mark s (bit_and a b) ≡ min (mark s a) (mark s b)
unfolding mark
mark-and (pos k) a b = ap (λ n. n % 2) (and_shr a b k) ∙ and_odd (a / 2 ^ k) (b / 2 ^ k)
mark-and (negsuc k) a b = refl

-- a state's mark in a union is the higher of its two
pub mark_or : (s : ℤ) (a b : ℕ) → mark s (bit_or a b) ≡ max (mark s a) (mark s b)
unfolding mark
mark_or (pos k) a b = ap (λ n. n % 2) (or_shr a b k) ∙ or_odd (a / 2 ^ k) (b / 2 ^ k)
mark_or (negsuc k) a b = refl

-- of a number that is not 0, the digit next to the trailing zeros is 1
lowest_digit : (k a : ℕ) → 1 ≤ a → a < 2 ^ k → digit (count_trailing_zeros k a) a ≡ 1
unfolding count_trailing_zeros
lowest_digit zero a p q = absurd (omega arith)
lowest_digit (suc k) a p q = go (a % 2) refl (lowest_digit k (a / 2))
  where
    go : (d : ℕ) → a % 2 ≡ d → (1 ≤ a / 2 → a / 2 < 2 ^ k → digit (count_trailing_zeros k (a / 2)) (a / 2) ≡ 1) →
        digit (under d (count_trailing_zeros k (a / 2))) a ≡ 1
    go zero e later = digit_suc (count_trailing_zeros k (a / 2)) a ∙ later (omega arith) (omega (arith, pow-suc 2 k))
    go (suc d) e later = digit_zero a ∙ omega arith

-- no lower digit is 1
digit_lowest : (k i a : ℕ) → digit i a ≡ 1 → count_trailing_zeros k a ≤ i
unfolding count_trailing_zeros
digit_lowest zero i a e = omega arith
digit_lowest (suc k) zero a e = go (a % 2) refl
  where
    go : (d : ℕ) → a % 2 ≡ d → under d (count_trailing_zeros k (a / 2)) ≤ 0
    go zero f = absurd (omega (arith, digit_zero a))
    go (suc d) f = omega arith
digit_lowest (suc k) (suc i) a e = go (a % 2) (digit_lowest k i (a / 2) (sym (digit_suc i a) ∙ e))
  where
    go : (d : ℕ) → count_trailing_zeros k (a / 2) ≤ i → under d (count_trailing_zeros k (a / 2)) ≤ suc i
    go zero h = omega arith
    go (suc d) h = omega arith

-- the lowest state of a set is in it
pub lowest_state_in : (a : ℕ) → ProperMarks a → mark (lowest_state a) a ≡ 1
unfolding mark lowest_state
lowest_state_in a p = lowest_digit 32 a p.some p.fits

-- no state of a set is lower
pub lowest_state-least : (a : ℕ) (s : ℤ) → mark s a ≡ 1 → lowest_state a ≤ℤ s
unfolding mark lowest_state
lowest_state-least a (pos k) e = le_z_yes (le→leb (count_trailing_zeros 32 a) k (digit_lowest 32 k a e))
lowest_state-least a (negsuc k) e = absurd (omega arith)
