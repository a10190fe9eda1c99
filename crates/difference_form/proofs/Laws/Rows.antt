-- The laws of the difference of two rows, of the medians of three, of the interval difference, and of a row written over another.
use mathlib.Core.Path.{◌≡◌, refl, sym, ap, ap₂}
use mathlib.Core.Bool.{true, and-eq-true_iff}
use mathlib.Core.List.{List, [], ◌∷◌, ◌++◌}
use Prim.Native.Nat.{ℕ, zero, suc, ◌+◌, ◌*◌, ◌≤◌, ◌<◌, min}
use native.Mathlib.Omega.{arith}
use lib.IntN.{ℤ, pos}
use lib.ListN.{length, get_or, take, drop}
use Rattle.matrix_form.specs.Shape.{most_characters, in_range, weight_at}
use Rattle.lists.specs.Tests.{every}
use Rattle.matrix_form.specs.Questions.{all_in_range, are_weights}
use Rattle.difference_form.specs.Rows.{part, most_apart, most_part, median, difference, most_difference, unweighted, most_unweighted}
use Rattle.difference_form.specs.Rows.{medians, interval_difference, interval_by, node_difference}
use Rattle.difference_form.proofs.Laws.Distance.{Distance}
use Rattle.difference_form.proofs.Laws.Codes.{apart-in_range, median_swap, median_rotate, median-in_range}
use Rattle.difference_form.proofs.Laws.Weights.{part_distance, part-zero, part-between, part-in_range}
use Rattle.difference_form.proofs.Laws.Weights.{weight_within, weight_at-drop, are_weights-first}

-- ---- the difference of two rows

-- the difference of two rows is the same either way round
pub difference-sym : (weights : List ℕ) (xs ys : List ℤ) → difference weights xs ys ≡ difference weights ys xs
unfolding difference
difference-sym weights [] [] = refl
difference-sym weights [] (y ∷ ys) = refl
difference-sym weights (x ∷ xs) [] = refl
difference-sym weights (x ∷ xs) (y ∷ ys) =
    ap₂ ◌+◌ ((part_distance (weight_at weights 0)).turned x y) (difference-sym (drop 1 weights) xs ys)

-- a row is at difference 0 from itself
pub difference_self : (weights : List ℕ) (xs : List ℤ) → difference weights xs xs ≡ 0
unfolding difference
difference_self weights [] = refl
difference_self weights (x ∷ xs) = omega (arith, (part_distance (weight_at weights 0)).self x, difference_self (drop 1 weights) xs)

-- rows of one length at difference 0, by weights from 1 to 9, are equal
pub difference-zero : (weights : List ℕ) (xs ys : List ℤ) → are_weights weights (length xs) ≡ true → length xs ≡ length ys
    → difference weights xs ys ≡ 0 → xs ≡ ys
unfolding difference
difference-zero weights [] [] w l e = refl
difference-zero weights [] (y ∷ ys) w l e = absurd (omega arith)
difference-zero weights (x ∷ xs) [] w l e = absurd (omega arith)
difference-zero weights (x ∷ xs) (y ∷ ys) w l e =
    let first = are_weights-first weights (length xs) w in
    ap₂ ◌∷◌ (part-zero (weight_at weights 0) x y (weight_within (weight_at weights 0) first.0).0 (omega arith))
    (difference-zero (drop 1 weights) xs ys first.1 (omega arith) (omega arith))

-- the difference of a and c is at most those of a and b and of b and c together, for a row b no shorter than a
pub difference_triangle : (weights : List ℕ) (a b c : List ℤ) → length a ≤ length b
    → difference weights a c ≤ difference weights a b + difference weights b c
unfolding difference
difference_triangle weights [] b c l = omega arith
difference_triangle weights (x ∷ a) [] c l = absurd (omega arith)
difference_triangle weights (x ∷ a) (y ∷ b) [] l = omega arith
difference_triangle weights (x ∷ a) (y ∷ b) (z ∷ c) l =
    omega (arith, (part_distance (weight_at weights 0)).triangle x y z, difference_triangle (drop 1 weights) a b c (omega arith))

-- so the difference of nodes, whose rows all have m codes, is a distance
pub node_distance : (weights : List ℕ) (row_at : ℕ → List ℤ) (m : ℕ) → ((v : ℕ) → length (row_at v) ≡ m)
    → Distance (node_difference (difference weights) row_at)
unfolding node_difference
node_distance weights row_at m full = record {
  self = λ x. difference_self weights (row_at x);
  turned = λ x y. difference-sym weights (row_at x) (row_at y);
  triangle = λ x y z. difference_triangle weights (row_at x) (row_at y) (row_at z) (omega (arith, full x, full y));
}

-- of a row with codes in range the first is in range, and so are the others
in_range-cons : (x : ℤ) (xs : List ℤ) → all_in_range (x ∷ xs) ≡ true → (in_range x ≡ true) × (all_in_range xs ≡ true)
unfolding all_in_range every
in_range-cons x xs h = (and-eq-true_iff (in_range x) (all_in_range xs)).0 h

-- rows with codes in range differ by at most 9 times 1998 a character
pub difference-most : (weights : List ℕ) (xs ys : List ℤ) → are_weights weights (length xs) ≡ true → all_in_range xs ≡ true
    → all_in_range ys ≡ true → difference weights xs ys ≤ most_part * length xs
unfolding difference all_in_range every
difference-most weights [] ys w h k = omega arith
difference-most weights (x ∷ xs) [] w h k = omega arith
difference-most weights (x ∷ xs) (y ∷ ys) w h k =
    let first = are_weights-first weights (length xs) w in
    omega (
      arith,
      part-in_range (weight_at weights 0) x y first.0 (in_range-cons x xs h).0 (in_range-cons y ys k).0,
      difference-most (drop 1 weights) xs ys first.1 (in_range-cons x xs h).1 (in_range-cons y ys k).1,
    )

-- rows of at most 128 codes in range differ by at most 2,301,696
pub difference_limit : (weights : List ℕ) (xs ys : List ℤ) → are_weights weights (length xs) ≡ true → all_in_range xs ≡ true
    → all_in_range ys ≡ true → length xs ≤ most_characters → difference weights xs ys ≤ most_difference
difference_limit weights xs ys w h k l = omega (arith, difference-most weights xs ys w h k)

-- without weights rows with codes in range differ by at most 1998 a character
unweighted-most : (xs ys : List ℤ) → all_in_range xs ≡ true → all_in_range ys ≡ true → unweighted xs ys ≤ most_apart * length xs
unfolding unweighted all_in_range every
unweighted-most [] ys h k = omega arith
unweighted-most (x ∷ xs) [] h k = omega arith
unweighted-most (x ∷ xs) (y ∷ ys) h k =
    omega (arith, apart-in_range x y (in_range-cons x xs h).0 (in_range-cons y ys k).0, unweighted-most xs ys (in_range-cons x xs h).1 (in_range-cons y ys k).1)

-- and rows of at most 128 codes in range by at most 255,744
pub unweighted_limit : (xs ys : List ℤ) → all_in_range xs ≡ true → all_in_range ys ≡ true → length xs ≤ most_characters
    → unweighted xs ys ≤ most_unweighted
unweighted_limit xs ys h k l = omega (arith, unweighted-most xs ys h k)

-- the difference over one more character has that character's part besides
pub difference_take_suc : (j : ℕ) (weights : List ℕ) (xs ys : List ℤ) → j < length xs → j < length ys
    → difference weights (take (suc j) xs) (take (suc j) ys)
    ≡ difference weights (take j xs) (take j ys) + part (weight_at weights j) (get_or xs j (pos 0)) (get_or ys j (pos 0))
unfolding difference
difference_take_suc j weights [] ys h k = absurd (omega arith)
difference_take_suc j weights (x ∷ xs) [] h k = absurd (omega arith)
difference_take_suc zero weights (x ∷ xs) (y ∷ ys) h k = omega arith
difference_take_suc (suc j) weights (x ∷ xs) (y ∷ ys) h k =
    let at : part (weight_at (drop 1 weights) j) (get_or xs j (pos 0)) (get_or ys j (pos 0))
    ≡ part (weight_at weights (suc j)) (get_or xs j (pos 0)) (get_or ys j (pos 0)) =
    ap (λ w. part w (get_or xs j (pos 0)) (get_or ys j (pos 0))) (weight_at-drop weights j) in
    omega (arith, difference_take_suc j (drop 1 weights) xs ys (omega arith) (omega arith), at)

-- ---- the medians of three rows

-- the medians reach as far as the shortest row
pub length-medians : (xs ys zs : List ℤ) → length (medians xs ys zs) ≡ min (length xs) (min (length ys) (length zs))
unfolding medians
length-medians [] ys zs = omega arith
length-medians (x ∷ xs) [] zs = omega arith
length-medians (x ∷ xs) (y ∷ ys) [] = omega arith
length-medians (x ∷ xs) (y ∷ ys) (z ∷ zs) = omega (arith, length-medians xs ys zs)

-- with no second row there are no medians
medians_nil_second : (xs zs : List ℤ) → medians xs [] zs ≡ []
unfolding medians
medians_nil_second [] zs = refl
medians_nil_second (x ∷ xs) zs = refl

-- with no third row there are no medians
medians_nil_third : (xs ys : List ℤ) → medians xs ys [] ≡ []
unfolding medians
medians_nil_third [] ys = refl
medians_nil_third (x ∷ xs) [] = refl
medians_nil_third (x ∷ xs) (y ∷ ys) = refl

-- the medians are the same with their first two rows swapped
pub medians_swap : (xs ys zs : List ℤ) → medians xs ys zs ≡ medians ys xs zs
unfolding medians
medians_swap [] ys zs = sym (medians_nil_second ys zs)
medians_swap (x ∷ xs) [] zs = refl
medians_swap (x ∷ xs) (y ∷ ys) [] = refl
medians_swap (x ∷ xs) (y ∷ ys) (z ∷ zs) = ap₂ ◌∷◌ (median_swap x y z) (medians_swap xs ys zs)

-- the medians are the same with their first row put last
pub medians_rotate : (xs ys zs : List ℤ) → medians xs ys zs ≡ medians ys zs xs
unfolding medians
medians_rotate [] ys zs = sym (medians_nil_third ys zs)
medians_rotate (x ∷ xs) [] zs = refl
medians_rotate (x ∷ xs) (y ∷ ys) [] = refl
medians_rotate (x ∷ xs) (y ∷ ys) (z ∷ zs) = ap₂ ◌∷◌ (median_rotate x y z) (medians_rotate xs ys zs)

-- the medians of rows with codes in range have codes in range
pub medians-in_range : (xs ys zs : List ℤ) → all_in_range xs ≡ true → all_in_range ys ≡ true → all_in_range zs ≡ true
    → all_in_range (medians xs ys zs) ≡ true
unfolding medians all_in_range every
medians-in_range [] ys zs h k l = refl
medians-in_range (x ∷ xs) [] zs h k l = refl
medians-in_range (x ∷ xs) (y ∷ ys) [] h k l = refl
medians-in_range (x ∷ xs) (y ∷ ys) (z ∷ zs) h k l =
    (and-eq-true_iff (in_range (median x y z)) (all_in_range (medians xs ys zs))).1
    (median-in_range x y z (in_range-cons x xs h).0 (in_range-cons y ys k).0 (in_range-cons z zs l).0, medians-in_range xs ys zs (in_range-cons x xs h).1 (in_range-cons y ys k).1 (in_range-cons z zs l).1)

-- the medians over one more character have that character's median besides
pub medians_take_suc : (j : ℕ) (xs ys zs : List ℤ) → j < length xs → j < length ys → j < length zs
    → medians (take (suc j) xs) (take (suc j) ys) (take (suc j) zs)
    ≡ medians (take j xs) (take j ys) (take j zs) ++ (median (get_or xs j (pos 0)) (get_or ys j (pos 0)) (get_or zs j (pos 0)) ∷ [])
unfolding medians
medians_take_suc j [] ys zs h k l = absurd (omega arith)
medians_take_suc j (x ∷ xs) [] zs h k l = absurd (omega arith)
medians_take_suc j (x ∷ xs) (y ∷ ys) [] h k l = absurd (omega arith)
medians_take_suc zero (x ∷ xs) (y ∷ ys) (z ∷ zs) h k l = refl
medians_take_suc (suc j) (x ∷ xs) (y ∷ ys) (z ∷ zs) h k l =
    ap (λ r. median x y z ∷ r) (medians_take_suc j xs ys zs (omega arith) (omega arith) (omega arith))

-- the medians lie between the first two rows: the differences from them make the difference of the two
pub medians-between : (weights : List ℕ) (xs ys zs : List ℤ) → length xs ≤ length zs
    → difference weights xs (medians xs ys zs) + difference weights (medians xs ys zs) ys ≡ difference weights xs ys
unfolding difference medians
medians-between weights [] ys zs l = refl
medians-between weights (x ∷ xs) [] zs l = refl
medians-between weights (x ∷ xs) (y ∷ ys) [] l = absurd (omega arith)
medians-between weights (x ∷ xs) (y ∷ ys) (z ∷ zs) l =
    omega (arith, part-between (weight_at weights 0) x y z, medians-between (drop 1 weights) xs ys zs (omega arith))

-- the medians lie between the last two rows
pub medians_between_last : (weights : List ℕ) (xs ys zs : List ℤ) → length ys ≤ length xs
    → difference weights ys (medians xs ys zs) + difference weights (medians xs ys zs) zs ≡ difference weights ys zs
medians_between_last weights xs ys zs l = rw (medians_rotate xs ys zs) (medians-between weights ys zs xs l)

-- the medians lie between the first row and the last
pub medians_between_ends : (weights : List ℕ) (xs ys zs : List ℤ) → length xs ≤ length ys
    → difference weights xs (medians xs ys zs) + difference weights (medians xs ys zs) zs ≡ difference weights xs zs
medians_between_ends weights xs ys zs l = rw (medians_swap xs ys zs) (medians_between_last weights ys xs zs l)

-- ---- three rows of one length: the interval difference of b from the interval between c and d

-- the medians are as long as the rows
pub medians-length : (b c d : List ℤ) → length b ≡ length c → length c ≡ length d → length (medians b c d) ≡ length b
medians-length b c d bc cd = omega (arith, length-medians b c d)

module _ (weights : List ℕ) (b c d : List ℤ) (bc : length b ≡ length c) (cd : length c ≡ length d) where
  -- d(b,c) + d(b,d) is d(c,d) and twice the difference of b from the medians
  sum_at_medians : difference weights b c + difference weights b d
      ≡ difference weights c d + 2 * difference weights b (medians b c d)
  sum_at_medians =
      omega (
        arith,
        medians-between weights b c d (omega arith),
        medians_between_last weights b c d (omega arith),
        medians_between_ends weights b c d (omega arith),
        difference-sym weights c (medians b c d),
      )

  -- the interval difference is the difference from the medians
  pub interval-median : interval_difference weights b c d ≡ difference weights b (medians b c d)
  unfolding interval_by
  interval-median = omega (arith, sum_at_medians)

  -- d(b,c) + d(b,d) is d(c,d) and twice the interval difference: less d(c,d) it is never negative and always even
  pub interval_sum : difference weights b c + difference weights b d
      ≡ difference weights c d + 2 * interval_difference weights b c d
  interval_sum = omega (arith, sum_at_medians, interval-median)

  -- the differences of any row y of that length from b, c and d make at least the interval difference and d(c,d)
  pub interval-least : (y : List ℤ) → length y ≡ length b
      → interval_difference weights b c d + difference weights c d
      ≤ difference weights y c + difference weights y d + difference weights y b
  interval-least y yb =
      omega (
        arith,
        interval_sum,
        difference_triangle weights b y c (omega arith),
        difference_triangle weights b y d (omega arith),
        difference_triangle weights c y d (omega arith),
        difference-sym weights b y,
        difference-sym weights c y,
      )

  -- the differences of the medians from b, c and d make just as much
  pub interval_equal : interval_difference weights b c d + difference weights c d
      ≡ difference weights (medians b c d) c + difference weights (medians b c d) d + difference weights (medians b c d) b
  interval_equal =
      omega (
        arith,
        interval-median,
        medians_between_last weights b c d (omega arith),
        difference-sym weights c (medians b c d),
        difference-sym weights b (medians b c d),
      )
