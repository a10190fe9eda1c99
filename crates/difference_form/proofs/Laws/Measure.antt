-- The measure by weights is one measure: the difference of two rows is what the steps between their codes cost, added up over the
-- characters. Where all characters weigh 1 it is document 01's.
use mathlib.Core.Path.{◌≡◌, refl, sym, ◌∙◌, ap, ap₂, fun_ext}
use mathlib.Core.List.{List, [], ◌∷◌}
use Prim.Native.Nat.{ℕ, suc, ◌+◌, ◌-◌, ◌≤◌, ◌<◌}
use native.Mathlib.Omega.{arith}
use lib.IntN.{ℤ, pos}
use lib.ListN.{length, get_or, drop}
use Rattle.lists.specs.Numbers.{numbers}
use Rattle.lists.specs.Sums.{sum_over}
use Rattle.lists.proofs.Numbers.{numbers-within}
use Rattle.lists.proofs.Sums.{sum_same}
use Rattle.matrix_form.specs.Shape.{weight_at, weight_of}
use Rattle.difference_form.specs.Rows.{part, difference, weighing, plain}
use Rattle.difference_form.proofs.Laws.Weights.{weight_at-drop, part-alone, difference-weights, difference-alike}

-- the part of the character at an index
part_at : List ℕ → List ℤ → List ℤ → ℕ → ℕ
part_at weights xs ys i = part (weight_at weights i) (get_or xs i (pos 0)) (get_or ys i (pos 0))

-- behind the first character each stands one place sooner
part_at-next : (weights : List ℕ) (x y : ℤ) (xs ys : List ℤ) (i : ℕ)
    → part_at (drop 1 weights) xs ys i ≡ part_at weights (x ∷ xs) (y ∷ ys) (suc i)
unfolding part_at
part_at-next weights x y xs ys i = ap (λ w. part w (get_or xs i (pos 0)) (get_or ys i (pos 0))) (weight_at-drop weights i)

-- the difference of two rows of one length is the sum of these parts, the first of their characters being counted as `first`
difference_parts : (first : ℕ) (weights : List ℕ) (xs ys : List ℤ) → length xs ≡ length ys
    → difference weights xs ys ≡ sum_over (λ j. part_at weights xs ys (j - first)) (numbers first (length xs))
unfolding difference sum_over numbers part_at
difference_parts first weights [] ys e = refl
difference_parts first weights (x ∷ xs) [] e = absurd (omega arith)
difference_parts first weights (x ∷ xs) (y ∷ ys) e =
    ap₂ ◌+◌ (at_first ∙ ap (part_at weights (x ∷ xs) (y ∷ ys)) none)
    (difference_parts (suc first) (drop 1 weights) xs ys (omega arith)
    ∙ sum_same (λ j. part_at (drop 1 weights) xs ys (j - suc first)) (λ j. part_at weights (x ∷ xs) (y ∷ ys) (j - first))
    (numbers (suc first) (length xs))
    (λ j m. part_at-next weights x y xs ys (j - suc first)
    ∙ ap (part_at weights (x ∷ xs) (y ∷ ys)) (next j (numbers-within (suc first) (length xs) j m).0)))
  where
    at_first : part (weight_at weights 0) x y ≡ part_at weights (x ∷ xs) (y ∷ ys) 0
    at_first = refl

    none : 0 ≡ first - first
    none = omega arith

    next : (j : ℕ) → suc first ≤ j → suc (j - suc first) ≡ j - first
    next j h = omega arith

-- the difference of two rows of m codes is what the steps between their codes cost, over characters 1 to m
pub rows_cost_steps : (weights : List ℕ) (m : ℕ) (xs ys : List ℤ) → length xs ≡ m → length ys ≡ m
    → (weighing weights).rows xs ys
    ≡ sum_over (λ j. (weighing weights).step j (get_or xs (j - 1) (pos 0)) (get_or ys (j - 1) (pos 0))) (numbers 1 m)
unfolding weight_of part_at
rows_cost_steps weights m xs ys p q =
    difference_parts 1 weights xs ys (p ∙ sym q) ∙ ap (λ k. sum_over (λ j. part_at weights xs ys (j - 1)) (numbers 1 k)) p

-- where the characters of the rows all weigh 1, rows differ as by document 01's measure
pub rows_alike : (weights : List ℕ) (xs ys : List ℤ) → ((i : ℕ) → i < length xs → weight_at weights i ≡ 1)
    → (weighing weights).rows xs ys ≡ plain.rows xs ys
rows_alike weights xs ys h = difference-alike weights xs ys h

-- and a step in a character that weighs 1 costs what it costs by document 01's measure
pub step-alike : (weights : List ℕ) (j : ℕ) → weight_of weights j ≡ 1 → (a b : ℤ) → (weighing weights).step j a b ≡ plain.step j a b
step-alike weights j e a b = ap (λ w. part w a b) e ∙ part-alone a b

-- so where every character weighs 1 the measure is document 01's
pub measure_alike : (weights : List ℕ) → ((i : ℕ) → weight_at weights i ≡ 1) → weighing weights ≡ plain
unfolding weight_of
measure_alike weights alike =
    ap₂ (λ (rows : List ℤ → List ℤ → ℕ) (step : ℕ → ℤ → ℤ → ℕ). record { rows = rows; step = step })
    (fun_ext (λ xs. fun_ext (λ ys. rows_alike weights xs ys (λ i below. alike i))))
    (fun_ext (λ j. fun_ext (λ a. fun_ext (λ b. step-alike weights j (alike (j - 1)) a b))))

-- and weights that are the same for every character measure alike
pub measure_weights : (v w : List ℕ) → ((i : ℕ) → weight_at v i ≡ weight_at w i) → weighing v ≡ weighing w
unfolding weight_of
measure_weights v w same =
    ap₂ (λ (rows : List ℤ → List ℤ → ℕ) (step : ℕ → ℤ → ℤ → ℕ). record { rows = rows; step = step })
    (fun_ext (λ xs. fun_ext (λ ys. difference-weights v w xs ys (λ i below. same i))))
    (fun_ext (λ j. fun_ext (λ a. fun_ext (λ b. ap (λ (k : ℕ). part k a b) (same (j - 1))))))
