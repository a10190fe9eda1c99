-- The difference of two rows as a sum over pairs of codes with their weights.
use mathlib.Core.Path.{◌≡◌, refl, ap, ◌∙◌}
use mathlib.Core.List.{List, [], ◌∷◌}
use Prim.Native.Nat.{ℕ, ◌+◌, ◌≤◌}
use native.Mathlib.Omega.{arith}
use lib.IntN.{ℤ}
use lib.ListN.{length}
use Rattle.std.specs.List.{sum_by, zip}
use Rattle.std.proofs.lemmas.List.Sums.{sum_by-cons}
use Rattle.matrix_form.specs.Shape.{weight_at}
use Rattle.difference_form.specs.Rows.{part, difference}

-- the part of a pair of codes with its weight
abbrev pub weighed_part : (ℤ × ℤ) × ℕ → ℕ
weighed_part p = part p.1 p.0.0 p.0.1

-- the parts of two rows with a weight for each character make their difference
pub parts-difference : (weights : List ℕ) (xs ys : List ℤ) → length xs ≤ length weights
    → sum_by weighed_part (zip (zip xs ys) weights) ≡ difference weights xs ys
unfolding difference weight_at
parts-difference weights [] ys h = refl
parts-difference weights (x ∷ xs) [] h = refl
parts-difference [] (x ∷ xs) (y ∷ ys) h = absurd (omega arith)
parts-difference (w ∷ weights) (x ∷ xs) (y ∷ ys) h =
    sum_by-cons weighed_part ((x, y), w) (zip (zip xs ys) weights)
    ∙ ap (λ (rest : ℕ). part w x y + rest) (parts-difference weights xs ys (omega arith))
