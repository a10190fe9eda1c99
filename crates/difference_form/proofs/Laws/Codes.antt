-- The laws of the difference of two codes, of their lower and higher one, and of the median of three.
use mathlib.Core.Path.{◌≡◌, refl, sym, ap, ap₂, subst, ◌∙◌}
use mathlib.Core.Bool.{true}
use mathlib.Core.Logic.{◌⊎◌, inl, inr, ⊎_elim}
use mathlib.Core.List.{[], ◌∷◌}
use Prim.Native.Nat.{ℕ, zero, suc, ◌+◌, ◌*◌, ◌≤◌, min, max}
use native.Mathlib.Nat.{min_comm, max_comm, le_trans}
use native.Mathlib.Omega.{arith}
use borrow.Author.Tests.{leb-true}
use lib.Dec.{T, leb→le}
use lib.IntN.{ℤ, pos, negsuc, nat_abs, sub_ℕ, ◌-ℤ◌, +ℤ_idr}
use lib.Signed.{◌≤ℤ◌, ≤ℤ_refl, le_z, lt_z, non_neg, pos-nat_abs}
use Rattle.std.specs.Int.{int_min, int_max}
use Rattle.matrix_form.specs.Shape.{in_range, highest_code}
use Rattle.difference_form.specs.Rows.{apart, most_apart, lower, higher, median}
use Rattle.difference_form.proofs.Laws.Distance.{Distance}
use Rattle.difference_form.proofs.Laws.Order.{le_z-true, le_z-false, lt_z-true, lt_z-false, ≤ℤ-total, cond-keeps, median-keeps}
use Rattle.difference_form.proofs.Laws.Points.{point, sub_cases, everywhere, point_le, le_point, apart-point, lower-point, higher-point}
use Rattle.difference_form.proofs.Laws.Points.{median-point}

-- ---- the order of codes, and the lower and the higher of two

-- a code at most one that is at most a third is at most the third
pub ≤ℤ-trans : {a b c : ℤ} → a ≤ℤ b → b ≤ℤ c → a ≤ℤ c
≤ℤ-trans {a} {b} {c} =
    everywhere (λ z. z 0 ≤ℤ z 1 → z 1 ≤ℤ z 2 → z 0 ≤ℤ z 2)
    (λ K n h k. le_point K (n 0) (n 2) (le_trans (point_le K (n 0) (n 1) h) (point_le K (n 1) (n 2) k)))
    (a ∷ b ∷ c ∷ [])

-- codes that are at most each other are equal
pub ≤ℤ-antisym : {a b : ℤ} → a ≤ℤ b → b ≤ℤ a → a ≡ b
≤ℤ-antisym {a} {b} =
    everywhere (λ z. z 0 ≤ℤ z 1 → z 1 ≤ℤ z 0 → z 0 ≡ z 1)
    (λ K n h k. ap (point K) (omega (arith, point_le K (n 0) (n 1) h, point_le K (n 1) (n 0) k)))
    (a ∷ b ∷ [])

-- the lower of two codes in order is the first
pub lower-first : (a b : ℤ) → a ≤ℤ b → lower a b ≡ a
unfolding lower
lower-first a b h = cond-keeps (λ z. z ≡ a) (le_z a b) a b (λ e. refl) (λ e. ≤ℤ-antisym (le_z-false a b e) h)

-- the lower of two codes against the order is the second
pub lower_second : (a b : ℤ) → b ≤ℤ a → lower a b ≡ b
unfolding lower
lower_second a b h = cond-keeps (λ z. z ≡ b) (le_z a b) a b (λ e. ≤ℤ-antisym (le_z-true a b e) h) (λ e. refl)

-- the higher of two codes against the order is the first
pub higher-first : (a b : ℤ) → b ≤ℤ a → higher a b ≡ a
unfolding higher
higher-first a b h = cond-keeps (λ z. z ≡ a) (le_z a b) b a (λ e. ≤ℤ-antisym h (le_z-true a b e)) (λ e. refl)

-- the higher of two codes in order is the second
pub higher_second : (a b : ℤ) → a ≤ℤ b → higher a b ≡ b
unfolding higher
higher_second a b h = cond-keeps (λ z. z ≡ b) (le_z a b) b a (λ e. refl) (λ e. ≤ℤ-antisym h (le_z-false a b e))

-- the lower of two codes is at most either
pub lower-least : (a b : ℤ) → (lower a b ≤ℤ a) × (lower a b ≤ℤ b)
lower-least a b = ⊎_elim
    (λ (h : a ≤ℤ b). rw (lower-first a b h) (≤ℤ_refl a, h))
    (λ (h : b ≤ℤ a). rw (lower_second a b h) (h, ≤ℤ_refl b))
    (≤ℤ-total a b)

-- the higher of two codes is at least either
pub higher-most : (a b : ℤ) → (a ≤ℤ higher a b) × (b ≤ℤ higher a b)
higher-most a b = ⊎_elim
    (λ (h : a ≤ℤ b). rw (higher_second a b h) (h, ≤ℤ_refl b))
    (λ (h : b ≤ℤ a). rw (higher-first a b h) (≤ℤ_refl a, h))
    (≤ℤ-total a b)

-- std's lesser of two codes is the lower one
pub int_min_lower : (a b : ℤ) → int_min a b ≡ lower a b
int_min_lower a b =
    cond-keeps (λ z. z ≡ lower a b) (lt_z b a) b a
    (λ e. sym (lower_second a b (lt_z-true b a e)))
    (λ e. sym (lower-first a b (lt_z-false b a e)))

-- and std's greater one the higher one
pub int_max_higher : (a b : ℤ) → int_max a b ≡ higher a b
int_max_higher a b =
    cond-keeps (λ z. z ≡ higher a b) (lt_z b a) a b
    (λ e. sym (higher-first a b (lt_z-true b a e)))
    (λ e. sym (higher_second a b (lt_z-false b a e)))

-- ---- the difference of two codes

-- the difference of two codes is the same either way round
pub apart-sym : (a b : ℤ) → apart a b ≡ apart b a
apart-sym a b = everywhere (λ z. apart (z 0) (z 1) ≡ apart (z 1) (z 0)) (λ K n. simp apart-point (omega arith)) (a ∷ b ∷ [])

-- a code is at difference 0 from itself
pub apart_self : (a : ℤ) → apart a a ≡ 0
apart_self a = everywhere (λ z. apart (z 0) (z 0) ≡ 0) (λ K n. simp apart-point (omega arith)) (a ∷ [])

-- codes at difference 0 are equal
pub apart-zero : (a b : ℤ) → apart a b ≡ 0 → a ≡ b
apart-zero a b =
    everywhere (λ z. apart (z 0) (z 1) ≡ 0 → z 0 ≡ z 1) (λ K n e. ap (point K) (omega (arith, apart-point K (n 0) (n 1)))) (a ∷ b ∷ [])

-- the difference of a and c is at most those of a and b and of b and c together
pub apart_triangle : (a b c : ℤ) → apart a c ≤ apart a b + apart b c
apart_triangle a b c =
    everywhere (λ z. apart (z 0) (z 2) ≤ apart (z 0) (z 1) + apart (z 1) (z 2)) (λ K n. simp apart-point (omega arith)) (a ∷ b ∷ c ∷ [])

-- so the absolute difference of codes is a distance
pub apart_distance : Distance apart
apart_distance = record { self = apart_self; turned = apart-sym; triangle = apart_triangle }

-- for codes in order, the differences of a and b and of b and c make that of a and c
pub apart_add : {a b c : ℤ} → a ≤ℤ b → b ≤ℤ c → apart a b + apart b c ≡ apart a c
apart_add {a} {b} {c} =
    everywhere (λ z. z 0 ≤ℤ z 1 → z 1 ≤ℤ z 2 → apart (z 0) (z 1) + apart (z 1) (z 2) ≡ apart (z 0) (z 2))
    (λ K n h k.
    let s = point_le K (n 0) (n 1) h in
    let t = point_le K (n 1) (n 2) k in
    simp apart-point (omega arith))
    (a ∷ b ∷ c ∷ [])

-- the differences of a third code from two make at least that of the two
pub apart_from : (s a b : ℤ) → apart a b ≤ apart s a + apart s b
apart_from s a b = omega (arith, apart_triangle a s b, apart-sym a s)

-- from between the two they make just as much
pub apart-between : (s a b : ℤ) → a ≤ℤ s → s ≤ℤ b → apart s a + apart s b ≡ apart a b
apart-between s a b h k = omega (arith, apart_add h k, apart-sym a s)

-- and only from between the two
pub between-apart : (s a b : ℤ) → a ≤ℤ b → apart s a + apart s b ≤ apart a b → (a ≤ℤ s) × (s ≤ℤ b)
between-apart s a b =
    everywhere (λ z. z 1 ≤ℤ z 2 → apart (z 0) (z 1) + apart (z 0) (z 2) ≤ apart (z 1) (z 2) → (z 1 ≤ℤ z 0) × (z 0 ≤ℤ z 2))
    (λ K n h k.
    let s = point_le K (n 1) (n 2) h in
    let t = simp apart-point at k in
    (le_point K (n 1) (n 0) (omega arith), le_point K (n 0) (n 2) (omega arith)))
    (s ∷ a ∷ b ∷ [])

-- two codes between two ends lie no farther apart than these
pub between_ends : (low high a b : ℤ) → low ≤ℤ a → a ≤ℤ high → low ≤ℤ b → b ≤ℤ high → apart a b ≤ apart high low
between_ends low high a b =
    everywhere
    (λ z. z 0 ≤ℤ z 2 → z 2 ≤ℤ z 1 → z 0 ≤ℤ z 3 → z 3 ≤ℤ z 1 → apart (z 2) (z 3) ≤ apart (z 1) (z 0))
    (λ K n p q r s.
    let p' = point_le K (n 0) (n 2) p in
    let q' = point_le K (n 2) (n 1) q in
    let r' = point_le K (n 0) (n 3) r in
    let s' = point_le K (n 3) (n 1) s in
    simp apart-point (omega arith))
    (low ∷ high ∷ a ∷ b ∷ [])

-- a natural number less one that is at most it is not negative
subℕ_non_neg : (x y : ℕ) → y ≤ x → T (non_neg (sub_ℕ x y))
subℕ_non_neg x y h = sub_cases (λ z. T (non_neg z)) x y (λ k. absurd (omega arith)) (λ k. tt)

-- a code less one that is at most it is not negative
sub-non_neg : (a b : ℤ) → b ≤ℤ a → T (non_neg (a -ℤ b))
sub-non_neg (pos m) (pos zero) h = tt
sub-non_neg (pos m) (pos (suc n)) h = subℕ_non_neg m (suc n) (leb→le (suc n) m h.le)
sub-non_neg (pos m) (negsuc n) h = tt
sub-non_neg (negsuc m) (pos n) h = absurd h.le
sub-non_neg (negsuc m) (negsuc n) h = subℕ_non_neg (suc n) (suc m) (omega (arith, leb→le m n h.le))

-- for codes against the order, the first less the second is their difference
pub sub-first : (a b : ℤ) → b ≤ℤ a → a -ℤ b ≡ pos (apart a b)
unfolding apart
sub-first a b h = sym (pos-nat_abs (a -ℤ b) (sub-non_neg a b h))

-- for codes in order, the second less the first is their difference
pub sub_second : (a b : ℤ) → a ≤ℤ b → b -ℤ a ≡ pos (apart a b)
sub_second a b h = sub-first b a h ∙ ap pos (apart-sym b a)

-- the difference of a code from 0 is its size
pub apart_from_zero : (a : ℤ) → apart a (pos 0) ≡ nat_abs a
unfolding apart
apart_from_zero a = ap nat_abs (+ℤ_idr a)

-- codes of size at most k are at most 2k apart
pub apart-most : (k : ℕ) (a b : ℤ) → nat_abs a ≤ k → nat_abs b ≤ k → apart a b ≤ 2 * k
apart-most k a b h l = omega (arith, apart_triangle a (pos 0) b, apart-sym (pos 0) b, apart_from_zero a, apart_from_zero b)

-- codes in range are at most 1998 apart
pub apart-in_range : (a b : ℤ) → in_range a ≡ true → in_range b ≡ true → apart a b ≤ most_apart
unfolding in_range
apart-in_range a b h k = apart-most highest_code a b (leb-true (nat_abs a) highest_code h) (leb-true (nat_abs b) highest_code k)

-- ---- the median of three codes

-- the median of codes in range is in range
pub median-in_range : (a b c : ℤ) → in_range a ≡ true → in_range b ≡ true → in_range c ≡ true → in_range (median a b c) ≡ true
median-in_range = median-keeps (λ z. in_range z ≡ true)

-- the median is the same with its first two codes swapped
pub median_swap : (a b c : ℤ) → median a b c ≡ median b a c
median_swap a b c =
    everywhere (λ z. median (z 0) (z 1) (z 2) ≡ median (z 1) (z 0) (z 2))
    (λ K n. simp median-point (ap (point K) (swap (n 0) (n 1) (n 2))))
    (a ∷ b ∷ c ∷ [])
  where
    swap : (x y z : ℕ) → max (min x y) (max (min y z) (min z x)) ≡ max (min y x) (max (min x z) (min z y))
    swap x y z = ap₂ max (min_comm x y) (max_comm (min y z) (min z x) ∙ ap₂ max (min_comm z x) (min_comm y z))

-- the median is the same with its first code put last
pub median_rotate : (a b c : ℤ) → median a b c ≡ median b c a
median_rotate a b c =
    everywhere (λ z. median (z 0) (z 1) (z 2) ≡ median (z 1) (z 2) (z 0))
    (λ K n. simp median-point (ap (point K) (turn (min (n 0) (n 1)) (min (n 1) (n 2)) (min (n 2) (n 0)))))
    (a ∷ b ∷ c ∷ [])
  where
    turn : (x y z : ℕ) → max x (max y z) ≡ max y (max z x)
    turn x y z = omega arith

-- the median of codes in order is the second
pub median-in_order : (a b c : ℤ) → a ≤ℤ b → b ≤ℤ c → median a b c ≡ b
median-in_order a b c =
    everywhere (λ z. z 0 ≤ℤ z 1 → z 1 ≤ℤ z 2 → median (z 0) (z 1) (z 2) ≡ z 1)
    (λ K n h k.
    median-point K (n 0) (n 1) (n 2) ∙ ap (point K) (omega (arith, point_le K (n 0) (n 1) h, point_le K (n 1) (n 2) k)))
    (a ∷ b ∷ c ∷ [])

-- the median is no lower than the lower of the first two codes
pub lower-median : (a b c : ℤ) → lower a b ≤ℤ median a b c
lower-median a b c =
    everywhere (λ z. lower (z 0) (z 1) ≤ℤ median (z 0) (z 1) (z 2))
    (λ K n. simp (lower-point, median-point) (le_point K _ _ (omega arith)))
    (a ∷ b ∷ c ∷ [])

-- the median is no higher than the higher of the first two codes
pub median-higher : (a b c : ℤ) → median a b c ≤ℤ higher a b
median-higher a b c =
    everywhere (λ z. median (z 0) (z 1) (z 2) ≤ℤ higher (z 0) (z 1))
    (λ K n. simp (higher-point, median-point) (le_point K _ _ (omega arith)))
    (a ∷ b ∷ c ∷ [])

-- the median lies between the first two codes: their differences from it make their difference
pub median-between : (a b c : ℤ) → apart a (median a b c) + apart (median a b c) b ≡ apart a b
median-between a b c = by_order (≤ℤ-total a b)
  where
    by_order : (a ≤ℤ b) ⊎ (b ≤ℤ a) → apart a (median a b c) + apart (median a b c) b ≡ apart a b
    by_order (inl h) =
        apart_add (subst (λ z. z ≤ℤ median a b c) (lower-first a b h) (lower-median a b c))
        (subst (λ z. median a b c ≤ℤ z) (higher_second a b h) (median-higher a b c))
    by_order (inr h) =
        omega (
          arith,
          apart-sym a b,
          apart-sym a (median a b c),
          apart-sym b (median a b c),
          apart_add (subst (λ z. z ≤ℤ median a b c) (lower_second a b h) (lower-median a b c))
              (subst (λ z. median a b c ≤ℤ z) (higher-first a b h) (median-higher a b c)),
        )

-- the median lies between the last two codes
pub median_between_last : (a b c : ℤ) → apart b (median a b c) + apart (median a b c) c ≡ apart b c
median_between_last a b c = rw (median_rotate a b c) (median-between b c a)

-- the median lies between the first code and the last
pub median_between_ends : (a b c : ℤ) → apart a (median a b c) + apart (median a b c) c ≡ apart a c
median_between_ends a b c = rw (median_swap a b c) (median_between_last b a c)

-- the differences of b from c and from d make that of c and d and twice that of b from the median
pub interval-code : (b c d : ℤ) → apart b c + apart b d ≡ apart c d + 2 * apart b (median b c d)
interval-code b c d =
    omega (arith, median-between b c d, median_between_last b c d, median_between_ends b c d, apart-sym c (median b c d))

-- the differences of any code y from b, c and d make at least those of b from the median and of c from d
pub median-least : (b c d y : ℤ) → apart b (median b c d) + apart c d ≤ apart y c + apart y d + apart y b
median-least b c d y =
    omega (arith, interval-code b c d, apart_triangle b y c, apart_triangle b y d, apart_triangle c y d, apart-sym b y, apart-sym c y)

-- the differences of the median from b, c and d make just as much
pub median_equal : (b c d : ℤ)
    → apart b (median b c d) + apart c d ≡ apart (median b c d) c + apart (median b c d) d + apart (median b c d) b
median_equal b c d = omega (arith, median_between_last b c d, apart-sym c (median b c d), apart-sym b (median b c d))
