-- Codes counted from a common origin -K, so that arithmetic on natural numbers proves a law about codes: a law about finitely many codes,
-- their order, their differences, their lower, higher and middle ones holds if it holds of the codes at any points above -K.
use mathlib.Core.Path.{◌≡◌, refl, ◌∙◌, ap, subst, fun_ext}
use mathlib.Core.Bool.{cond}
use mathlib.Core.List.{List, [], ◌∷◌}
use Prim.Native.Nat.{ℕ, zero, suc, ◌+◌, ◌-◌, ◌≤◌, ◌<◌, min, max}
use native.Mathlib.Omega.{arith}
use borrow.Author.Tests.{ltb-true, ltb-false}
use lib.Dec.{ltb, leb→le, le→leb}
use lib.IntN.{ℤ, pos, negsuc, sub_ℕ, nat_abs}
use lib.ListN.{get_or}
use lib.Signed.{le_z, ◌≤ℤ◌, le_z_yes}
use Rattle.difference_form.specs.Rows.{apart, lower, higher, median}
use Rattle.difference_form.proofs.Laws.Order.{le_z-true, le_z-false, cond-keeps}

-- the code that stands n points above -K
unfoldable pub point : ℕ → ℕ → ℤ
point K n = sub_ℕ n K

-- a statement about x - y, for two natural numbers, holds if it holds for either sign
pub sub_cases : (P : ℤ → Type 0) (x y : ℕ) → (x < y → P (negsuc (y - suc x))) → (y ≤ x → P (pos (x - y))) → P (sub_ℕ x y)
sub_cases P x y below above =
    cond-keeps P (ltb x y) (negsuc (y - suc x)) (pos (x - y)) (λ e. below (ltb-true x y e)) (λ e. above (ltb-false x y e))

-- ---- the difference

-- the size of x - y
size_of_sub : (x y : ℕ) → nat_abs (sub_ℕ x y) ≡ x - y + (y - x)
size_of_sub x y = sub_cases (λ z. nat_abs z ≡ x - y + (y - x)) x y (λ h. omega arith) (λ h. omega arith)

-- the difference of two codes, neither below 0
apart-pos : (x y : ℕ) → apart (pos x) (pos y) ≡ x - y + (y - x)
unfolding apart
apart-pos x zero = omega arith
apart-pos x (suc y) = size_of_sub x (suc y)

-- the second below 0
apart_pos_neg : (x y : ℕ) → apart (pos x) (negsuc y) ≡ x + suc y
unfolding apart
apart_pos_neg x y = refl

-- the first below 0
apart_neg_pos : (x y : ℕ) → apart (negsuc x) (pos y) ≡ suc x + y
unfolding apart
apart_neg_pos x zero = size_of_sub zero (suc x) ∙ omega arith
apart_neg_pos x (suc y) = omega arith

-- both below 0
apart_neg : (x y : ℕ) → apart (negsuc x) (negsuc y) ≡ x - y + (y - x)
unfolding apart
apart_neg x y = size_of_sub (suc y) (suc x) ∙ omega arith

module _ (K : ℕ) where
  -- the difference of two codes is that of their points
  pub apart-point : (a b : ℕ) → apart (point K a) (point K b) ≡ a - b + (b - a)
  unfolding point
  apart-point a b = sub_cases (λ z. apart z (sub_ℕ b K) ≡ a - b + (b - a)) a K
      (λ h. sub_cases (λ z. apart (negsuc (K - suc a)) z ≡ a - b + (b - a)) b K
      (λ k. apart_neg (K - suc a) (K - suc b) ∙ omega arith)
      (λ k. apart_neg_pos (K - suc a) (b - K) ∙ omega arith))
      (λ h. sub_cases (λ z. apart (pos (a - K)) z ≡ a - b + (b - a)) b K
      (λ k. apart_pos_neg (a - K) (K - suc b) ∙ omega arith)
      (λ k. apart-pos (a - K) (b - K) ∙ omega arith))

  -- ---- the order

  -- codes at points in order are in order
  pub le_point : (a b : ℕ) → a ≤ b → point K a ≤ℤ point K b
  unfolding point
  le_point a b l = sub_cases (λ z. z ≤ℤ sub_ℕ b K) a K
      (λ h. sub_cases (λ z. negsuc (K - suc a) ≤ℤ z) b K
      (λ k. le_z_yes (le→leb (K - suc b) (K - suc a) (omega arith)))
      (λ k. le_z_yes tt))
      (λ h. sub_cases (λ z. pos (a - K) ≤ℤ z) b K
      (λ k. absurd (omega arith))
      (λ k. le_z_yes (le→leb (a - K) (b - K) (omega arith))))

  -- and the points of codes in order are in order
  pub point_le : (a b : ℕ) → point K a ≤ℤ point K b → a ≤ b
  unfolding point
  point_le a b = sub_cases (λ z. z ≤ℤ sub_ℕ b K → a ≤ b) a K
      (λ h. sub_cases (λ z. negsuc (K - suc a) ≤ℤ z → a ≤ b) b K
      (λ k l. omega (arith, leb→le (K - suc b) (K - suc a) l.le))
      (λ k l. omega arith))
      (λ h. sub_cases (λ z. pos (a - K) ≤ℤ z → a ≤ b) b K
      (λ k l. absurd l.le)
      (λ k l. omega (arith, leb→le (a - K) (b - K) l.le)))

  -- what two codes in either order choose stands at a point, if it does so in each order
  in_either_order : (a b k : ℕ) (x y : ℤ) → (a ≤ b → x ≡ point K k) → (b ≤ a → y ≡ point K k)
      → cond (le_z (point K a) (point K b)) x y ≡ point K k
  in_either_order a b k x y f g =
      cond-keeps (λ z. z ≡ point K k) (le_z (point K a) (point K b)) x y
      (λ e. f (point_le a b (le_z-true _ _ e)))
      (λ e. g (point_le b a (le_z-false _ _ e)))

  -- the lower of two codes stands at the lesser point
  pub lower-point : (a b : ℕ) → lower (point K a) (point K b) ≡ point K (min a b)
  unfolding lower
  lower-point a b =
      in_either_order a b (min a b) (point K a) (point K b) (λ h. ap (point K) (omega arith)) (λ h. ap (point K) (omega arith))

  -- the higher of two codes stands at the greater point
  pub higher-point : (a b : ℕ) → higher (point K a) (point K b) ≡ point K (max a b)
  unfolding higher
  higher-point a b =
      in_either_order a b (max a b) (point K b) (point K a) (λ h. ap (point K) (omega arith)) (λ h. ap (point K) (omega arith))

  -- the median of three codes stands at the middle point: of the lesser points of each two, the greatest
  pub median-point : (a b c : ℕ)
      → median (point K a) (point K b) (point K c) ≡ point K (max (min a b) (max (min b c) (min c a)))
  unfolding median
  median-point a b c = simp (lower-point, higher-point) (ap (λ (k : ℕ). point K (max (min a b) k)) distribute)
    where
      distribute : min (max a b) c ≡ max (min b c) (min c a)
      distribute = omega arith

-- ---- from points to all codes

-- how many points a code stands above -K
count : ℕ → ℤ → ℕ
count K (pos n) = K + n
count K (negsuc n) = K - suc n

-- a code whose size is at most K stands at that point
point-count : (K : ℕ) (z : ℤ) → nat_abs z ≤ K → point K (count K z) ≡ z
unfolding point count
point-count K (pos n) h = sub_cases (λ z. z ≡ pos n) (K + n) K (λ k. absurd (omega arith)) (λ k. ap pos (omega arith))
point-count K (negsuc n) h = sub_cases (λ z. z ≡ negsuc n) (K - suc n) K (λ k. ap negsuc (omega arith)) (λ k. absurd (omega arith))

-- the sizes of the codes of a list together
sizes : List ℤ → ℕ
sizes [] = 0
sizes (z ∷ zs) = nat_abs z + sizes zs

-- none of them has a greater size
sizes_bound : (zs : List ℤ) (i : ℕ) → nat_abs (get_or zs i (pos 0)) ≤ sizes zs
unfolding sizes
sizes_bound [] i = omega arith
sizes_bound (z ∷ zs) zero = omega arith
sizes_bound (z ∷ zs) (suc i) = omega (arith, sizes_bound zs i)

-- what holds of the codes at any points above any -K holds of the codes of any list
pub everywhere : (P : (ℕ → ℤ) → Type 0) → ((K : ℕ) (ns : ℕ → ℕ) → P (λ i. point K (ns i))) → (zs : List ℤ) → P (λ i. get_or zs i (pos 0))
everywhere P holds zs =
    subst P (fun_ext (λ i. point-count (sizes zs) (get_or zs i (pos 0)) (sizes_bound zs i)))
    (holds (sizes zs) (λ i. count (sizes zs) (get_or zs i (pos 0))))
