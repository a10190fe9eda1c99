-- The front of three rows decides the front of their medians.
use mathlib.Core.Path.{◌≡◌, refl, ap}
use mathlib.Core.List.{List, [], ◌∷◌}
use Prim.Native.Nat.{ℕ, zero, suc}
use lib.IntN.{ℤ}
use lib.ListN.{take}
use Rattle.difference_form.specs.Rows.{median, medians}

-- the front of the medians is the medians of the fronts
pub medians-take : (k : ℕ) (xs ys zs : List ℤ) → medians (take k xs) (take k ys) (take k zs) ≡ take k (medians xs ys zs)
unfolding medians
medians-take zero [] ys zs = refl
medians-take (suc k) [] ys zs = refl
medians-take zero (x ∷ xs) [] zs = refl
medians-take (suc k) (x ∷ xs) [] zs = refl
medians-take zero (x ∷ xs) (y ∷ ys) [] = refl
medians-take (suc k) (x ∷ xs) (y ∷ ys) [] = refl
medians-take zero (x ∷ xs) (y ∷ ys) (z ∷ zs) = refl
medians-take (suc k) (x ∷ xs) (y ∷ ys) (z ∷ zs) = ap (λ ms. median x y z ∷ ms) (medians-take k xs ys zs)
