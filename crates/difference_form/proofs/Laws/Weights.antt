-- The laws of one character's part of a difference, for any weight; which weights decide a difference, and what characters that all
-- weigh 1 come to.
use mathlib.Core.Path.{◌≡◌, refl, sym, ap, ap₂, ◌∙◌}
use mathlib.Core.Bool.{true, and-eq-true_iff}
use mathlib.Core.List.{List, [], ◌∷◌}
use Prim.Native.Nat.{ℕ, zero, suc, ◌+◌, ◌-◌, ◌*◌, ◌^◌, ◌≤◌, ◌<◌}
use native.Mathlib.Nat.{mul-add, mul-zero, one-mul, mul-le-mul, eq_of_mul-eq-mul_left}
use native.Mathlib.Omega.{arith}
use borrow.Author.Tests.{leb-true}
use lib.Dec.{leb}
use lib.IntN.{ℤ, nat_abs}
use lib.ListN.{length, drop}
use Rattle.lists.specs.Tests.{every}
use Rattle.matrix_form.specs.Shape.{in_range, is_weight, weight_at, weight_of, heaviest}
use Rattle.matrix_form.specs.Questions.{are_weights}
use Rattle.difference_form.specs.Rows.{apart, part, most_part, median, difference, unweighted}
use Rattle.difference_form.proofs.Laws.Distance.{Distance, distance_weighed}
use Rattle.difference_form.proofs.Laws.Codes.{apart_distance, apart-zero, apart-most, apart-in_range}
use Rattle.difference_form.proofs.Laws.Codes.{median-between}

-- ---- the part of one character

-- the part of a character is a distance of codes
pub part_distance : (w : ℕ) → Distance (part w)
unfolding part
part_distance w = distance_weighed w apart apart_distance

-- codes with no part between them, in a character that weighs something, are equal
pub part-zero : (w : ℕ) (a b : ℤ) → 1 ≤ w → part w a b ≡ 0 → a ≡ b
unfolding part
part-zero w a b h e = apart-zero a b (eq_of_mul-eq-mul_left w h (apart a b) 0 (e ∙ sym (mul-zero w)))

-- the parts to the median and on from it make the part of the two codes
pub part-between : (w : ℕ) (a b c : ℤ) → part w a (median a b c) + part w (median a b c) b ≡ part w a b
unfolding part
part-between w a b c = sym (mul-add w (apart a (median a b c)) (apart (median a b c) b)) ∙ ap (λ k. w * k) (median-between a b c)

-- codes of 32 bits make a part of at most 2 ^ 40 with a weight of 8 bits
pub part-most : (w : ℕ) (a b : ℤ) → w ≤ 256 → nat_abs a ≤ 2 ^ 31 → nat_abs b ≤ 2 ^ 31 → part w a b ≤ 2 ^ 40
unfolding part
part-most w a b e h k = mul-le-mul e (apart-most (2 ^ 31) a b h k)

-- a weight lies from 1 to 9
pub weight_within : (w : ℕ) → is_weight w ≡ true → (1 ≤ w) × (w ≤ heaviest)
unfolding is_weight
weight_within w e =
    let both = (and-eq-true_iff (leb 1 w) (leb w heaviest)).0 e in
    (leb-true 1 w both.0, leb-true w heaviest both.1)

-- codes in range make a part of at most 9 times 1998
pub part-in_range : (w : ℕ) (a b : ℤ) → is_weight w ≡ true → in_range a ≡ true → in_range b ≡ true → part w a b ≤ most_part
unfolding part
part-in_range w a b e h k = mul-le-mul (weight_within w e).1 (apart-in_range a b h k)

-- with weight 1 the part is the absolute difference
pub part-alone : (a b : ℤ) → part 1 a b ≡ apart a b
unfolding part
part-alone a b = one-mul (apart a b)

-- ---- the weights of the characters

-- behind the first weight each stands one place sooner
pub weight_at-drop : (weights : List ℕ) (i : ℕ) → weight_at (drop 1 weights) i ≡ weight_at weights (suc i)
unfolding weight_at
weight_at-drop [] i = refl
weight_at-drop (w ∷ weights) i = refl

-- of weights from 1 to 9 the first is one, and so are the others
pub are_weights-first : (weights : List ℕ) (m : ℕ) → are_weights weights (suc m) ≡ true
    → (is_weight (weight_at weights 0) ≡ true) × (are_weights (drop 1 weights) m ≡ true)
unfolding are_weights every weight_at is_weight
are_weights-first [] zero e = (refl, refl)
are_weights-first [] (suc m) e = (refl, refl)
are_weights-first (w ∷ weights) m e = (and-eq-true_iff (is_weight w) (are_weights weights m)).0 e

-- of m weights from 1 to 9 each is one; one that is missing is 1
pub are_weights_at : (weights : List ℕ) (m i : ℕ) → are_weights weights m ≡ true → i < m → is_weight (weight_at weights i) ≡ true
are_weights_at weights zero i e h = absurd (omega arith)
are_weights_at weights (suc m) zero e h = (are_weights-first weights m e).0
are_weights_at weights (suc m) (suc i) e h =
    rw (sym (weight_at-drop weights i)) (are_weights_at (drop 1 weights) m i (are_weights-first weights m e).1 (omega arith))

-- so the weight of each of m characters is from 1 to 9
pub weight_of_weight : (weights : List ℕ) (m : ℕ) → are_weights weights m ≡ true → (j : ℕ) → 1 ≤ j → j ≤ m
    → is_weight (weight_of weights j) ≡ true
unfolding weight_of
weight_of_weight weights m e j first last = are_weights_at weights m (j - 1) e (omega arith)

-- that is, it lies between them
pub weight_of-within : (weights : List ℕ) (m : ℕ) → are_weights weights m ≡ true → (j : ℕ) → 1 ≤ j → j ≤ m
    → (1 ≤ weight_of weights j) × (weight_of weights j ≤ heaviest)
weight_of-within weights m e j first last = weight_within (weight_of weights j) (weight_of_weight weights m e j first last)

-- the weights of the characters of the rows decide their difference
pub difference-weights : (v w : List ℕ) (xs ys : List ℤ) → ((i : ℕ) → i < length xs → weight_at v i ≡ weight_at w i)
    → difference v xs ys ≡ difference w xs ys
unfolding difference
difference-weights v w [] ys h = refl
difference-weights v w (x ∷ xs) [] h = refl
difference-weights v w (x ∷ xs) (y ∷ ys) h =
    ap₂ ◌+◌ (ap (λ k. part k x y) (h 0 (omega arith)))
    (difference-weights (drop 1 v) (drop 1 w) xs ys (λ i below. weight_at-drop v i ∙ h (suc i) (omega arith) ∙ sym (weight_at-drop w i)))

-- where every character weighs 1 the difference is document 01's
pub difference-alike : (weights : List ℕ) (xs ys : List ℤ) → ((i : ℕ) → i < length xs → weight_at weights i ≡ 1)
    → difference weights xs ys ≡ unweighted xs ys
unfolding difference unweighted
difference-alike weights [] ys h = refl
difference-alike weights (x ∷ xs) [] h = refl
difference-alike weights (x ∷ xs) (y ∷ ys) h =
    ap₂ ◌+◌ (ap (λ k. part k x y) (h 0 (omega arith)) ∙ part-alone x y)
    (difference-alike (drop 1 weights) xs ys (λ i below. weight_at-drop weights i ∙ h (suc i) (omega arith)))
