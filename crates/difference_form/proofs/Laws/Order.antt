-- What the tests of order say about two codes, and what the lower, the higher and the median take over from their codes.
use mathlib.Core.Path.{◌≡◌, refl, sym, subst}
use mathlib.Core.Bool.{Bool, true, false, not, cond, true≢false}
use mathlib.Core.Logic.{◌⊎◌, inl, inr}
use native.Mathlib.Omega.{arith}
use borrow.Author.Tests.{ltb-true, leb-false}
use lib.Dec.{T, le→leb}
use lib.IntN.{ℤ, pos, negsuc}
use lib.Signed.{le_z, lt_z, ◌≤ℤ◌, le_z_yes, lt_z_no}
use Rattle.difference_form.specs.Rows.{lower, higher, median}

-- ---- tests

-- a test for "at most" that passed
pub le_z-true : (a b : ℤ) → le_z a b ≡ true → a ≤ℤ b
le_z-true a b e = le_z_yes (subst T (sym e) tt)

-- a test for "at most" that failed: the order is the other way
pub le_z-false : (a b : ℤ) → le_z a b ≡ false → b ≤ℤ a
le_z-false (pos m) (pos n) e = le_z_yes (le→leb n m (omega (arith, leb-false m n e)))
le_z-false (pos m) (negsuc n) e = le_z_yes tt
le_z-false (negsuc m) (pos n) e = absurd (true≢false e)
le_z-false (negsuc m) (negsuc n) e = le_z_yes (le→leb m n (omega (arith, leb-false n m e)))

-- a test for "less" that passed
pub lt_z-true : (a b : ℤ) → lt_z a b ≡ true → a ≤ℤ b
lt_z-true (pos m) (pos n) e = le_z_yes (le→leb m n (omega (arith, ltb-true m n e)))
lt_z-true (pos m) (negsuc n) e = absurd (true≢false (sym e))
lt_z-true (negsuc m) (pos n) e = le_z_yes tt
lt_z-true (negsuc m) (negsuc n) e = le_z_yes (le→leb n m (omega (arith, ltb-true n m e)))

-- a test for "less" that failed: the order is the other way
pub lt_z-false : (a b : ℤ) → lt_z a b ≡ false → b ≤ℤ a
lt_z-false a b e = lt_z_no (subst (λ t. T (not t)) (sym e) tt)

-- of two codes one is at most the other
pub ≤ℤ-total : (a b : ℤ) → (a ≤ℤ b) ⊎ (b ≤ℤ a)
≤ℤ-total a b = by_test (le_z a b) refl
  where
    by_test : (t : Bool) → le_z a b ≡ t → (a ≤ℤ b) ⊎ (b ≤ℤ a)
    by_test true e = inl (le_z-true a b e)
    by_test false e = inr (le_z-false a b e)

-- ---- what is picked

-- what holds of each of two values where the test picks it holds of the value picked
pub cond-keeps : {A : Type 0} (P : A → Type 0) (t : Bool) (x y : A) → (t ≡ true → P x) → (t ≡ false → P y) → P (cond t x y)
cond-keeps P true x y f g = f refl
cond-keeps P false x y f g = g refl

-- what holds of two codes holds of the lower one
pub lower-keeps : (P : ℤ → Type 0) (a b : ℤ) → P a → P b → P (lower a b)
unfolding lower
lower-keeps P a b h k = cond-keeps P (le_z a b) a b (λ e. h) (λ e. k)

-- what holds of two codes holds of the higher one
pub higher-keeps : (P : ℤ → Type 0) (a b : ℤ) → P a → P b → P (higher a b)
unfolding higher
higher-keeps P a b h k = cond-keeps P (le_z a b) b a (λ e. k) (λ e. h)

-- what holds of three codes holds of their median
pub median-keeps : (P : ℤ → Type 0) (a b c : ℤ) → P a → P b → P c → P (median a b c)
unfolding median
median-keeps P a b c h k l =
    higher-keeps P (lower a b) (lower (higher a b) c) (lower-keeps P a b h k)
    (lower-keeps P (higher a b) c (higher-keeps P a b h k) l)

-- the median is one of the three codes
pub median_is_one : (a b c : ℤ) → (median a b c ≡ a) ⊎ (median a b c ≡ b) ⊎ (median a b c ≡ c)
median_is_one a b c = median-keeps (λ z. (z ≡ a) ⊎ (z ≡ b) ⊎ (z ≡ c)) a b c (inl refl) (inr (inl refl)) (inr (inr refl))
