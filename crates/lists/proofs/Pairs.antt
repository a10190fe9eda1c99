-- The first of the least pairs: its first item is the first of the least by the least that each one reaches, and its second is where that
-- one reaches it.
use mathlib.Core.Path.{◌≡◌, refl, ap, ap₂, ◌∙◌}
use mathlib.Core.Bool.{Bool, true, false, cond}
use mathlib.Core.List.{List, [], ◌∷◌, ◌++◌, map, flat_map, append-nil}
use Prim.Native.Nat.{ℕ}
use lib.Dec.{leb}
use Rattle.lists.specs.Least.{first_least}
use Rattle.lists.specs.Pairs.{pairs}
use Rattle.lists.proofs.Least.{first_least-map, first_least-append}

-- with no second item there is no pair
pub pairs-none : {A B : Type 0} (xs : List A) → pairs {B = B} xs [] ≡ []
unfolding pairs flat_map
pairs-none [] = refl
pairs-none (x ∷ xs) = pairs-none xs

module _ {A B : Type 0} (key : A × B → ℕ) (y : B) (ys : List B) where
  -- of the second items, the first that is least with x
  abbrev pub reached : A → B
  reached x = first_least (λ (z : B). key (x, z)) y ys

  -- what x reaches
  abbrev pub reach : A → ℕ
  reach x = key (x, reached x)

  -- the pairs of one item
  one_item : (x : A) → first_least key (x, y) (map (λ (z : B). (x, z)) ys) ≡ (x, reached x)
  one_item x = first_least-map (λ (z : B). (x, z)) key y ys

  -- the first of the least pairs
  pub least_pair : (x : A) (xs : List A)
      → first_least key (x, y) (map (λ (z : B). (x, z)) ys ++ pairs xs (y ∷ ys)) ≡ (first_least reach x xs, reached (first_least reach x xs))
  unfolding pairs first_least flat_map
  least_pair x [] = ap (first_least key (x, y)) (append-nil (map (λ (z : B). (x, z)) ys)) ∙ one_item x
  least_pair x (v ∷ vs) =
      first_least-append key (x, y) (map (λ (z : B). (x, z)) ys) (v, y) (map (λ (z : B). (v, z)) ys ++ pairs vs (y ∷ ys))
      ∙ ap₂ (λ (p q : A × B). cond (leb (key p) (key q)) p q) (one_item x) (least_pair v vs)
      ∙ chosen (leb (reach x) (reach (first_least reach v vs))) (first_least reach v vs)
    where
      chosen : (t : Bool) (w : A) → ◌≡◌ {A = A × B} (cond t (x, reached x) (w, reached w)) (cond t x w, reached (cond t x w))
      chosen true w = refl
      chosen false w = refl
