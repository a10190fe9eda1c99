-- What `contains` answers of a range that has both its ends: the two tests of the definitions, of natural numbers and of codes.
use mathlib.Core.Path.{◌≡◌, refl, ap₂, ◌∙◌}
use mathlib.Core.Bool.{Bool, false, ◌&&◌}
use Prim.Native.Nat.{ℕ}
use native.Mathlib.Omega.{arith}
use Rattle.std.proofs.lemmas.Bool.Decides.{nat_tests}
use lib.Dec.{leb}
use lib.IntN.{ℤ, pos, negsuc}
use lib.Signed.{le_z}
use Rattle.std.specs.Prelude.{Some}
use Rattle.std.specs.Ordering.{nat_cmp, int_cmp, is_le}
use Rattle.std.specs.Range.{range_inclusive_start, range_inclusive_end, range_inclusive_exhausted, range_inclusive_contains}
use Rattle.std.specs.declared.ops.RangeInclusive.{RangeInclusive}

-- at most, by the comparison and by the test
nat_le : (a b : ℕ) → is_le (nat_cmp a b) ≡ leb a b
nat_le a b = grind (arith, nat_tests)

-- the same of codes
int_le : (a b : ℤ) → is_le (int_cmp a b) ≡ le_z a b
int_le (pos a) (pos b) = grind (arith, nat_tests)
int_le (pos a) (negsuc b) = refl
int_le (negsuc a) (pos b) = refl
int_le (negsuc a) (negsuc b) = grind (arith, nat_tests)

-- a natural number within a range
pub nat_between : (range : RangeInclusive ℕ) (low high item : ℕ) {r : Bool} → range_inclusive_start range ≡ low
    → range_inclusive_end range ≡ high → range_inclusive_exhausted range ≡ false
    → r ≡ range_inclusive_contains (λ x y. Some (nat_cmp x y)) range item → r ≡ (leb low item && leb item high)
nat_between range low high item start end fresh is =
    is ∙ rw (fresh, start, end) (ap₂ ◌&&◌ (nat_le low item) (nat_le item high))

-- a code within a range
pub int_between : (range : RangeInclusive ℤ) (low high item : ℤ) {r : Bool} → range_inclusive_start range ≡ low
    → range_inclusive_end range ≡ high → range_inclusive_exhausted range ≡ false
    → r ≡ range_inclusive_contains (λ x y. Some (int_cmp x y)) range item → r ≡ (le_z low item && le_z item high)
int_between range low high item start end fresh is =
    is ∙ rw (fresh, start, end) (ap₂ ◌&&◌ (int_le low item) (int_le item high))
