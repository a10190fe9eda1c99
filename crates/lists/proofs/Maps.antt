-- Laws of lists made from others, item by item.
use mathlib.Core.Path.{◌≡◌, refl, ap, ap₂}
use mathlib.Core.List.{List, [], ◌∷◌, map, zip_with, Memᴰ}
use Prim.Native.Nat.{ℕ, zero, suc, ◌<◌}
use native.Mathlib.Omega.{arith}
use lib.ListN.{length, get_or, take}

-- two ways to make items that agree on a list make the same list
pub map_same : {A B : Type 0} (f g : A → B) (xs : List A) → ((x : A) → Memᴰ x xs → f x ≡ g x) → map f xs ≡ map g xs
map_same f g [] h = refl
map_same f g (x ∷ xs) h = ap₂ ◌∷◌ (h x (Memᴰ.head refl)) (map_same f g xs (λ y i. h y (Memᴰ.tail i)))

-- the first items of a list that is made from another are made from its first items
pub map-take : {A B : Type 0} (f : A → B) (i : ℕ) (xs : List A) → map f (take i xs) ≡ take i (map f xs)
map-take f zero xs = refl
map-take f (suc i) [] = refl
map-take f (suc i) (x ∷ xs) = ap (λ rest. f x ∷ rest) (map-take f i xs)

module _ {A B C : Type 0} (f : A → B → C) where
  -- two lists of one length, item by item
  pub length_zip : (xs : List A) (ys : List B) → length ys ≡ length xs → length (zip_with f xs ys) ≡ length xs
  unfolding zip_with
  length_zip [] ys e = refl
  length_zip (x ∷ xs) [] e = absurd (omega arith)
  length_zip (x ∷ xs) (y ∷ ys) e = ap suc (length_zip xs ys (omega arith))

  -- the item at an index of both
  pub get_d_zip : (x₀ : A) (y₀ : B) (z₀ : C) (xs : List A) (ys : List B) (k : ℕ) → k < length xs → k < length ys
      → get_or (zip_with f xs ys) k z₀ ≡ f (get_or xs k x₀) (get_or ys k y₀)
  unfolding zip_with
  get_d_zip x₀ y₀ z₀ [] ys k h l = absurd (omega arith)
  get_d_zip x₀ y₀ z₀ (x ∷ xs) [] k h l = absurd (omega arith)
  get_d_zip x₀ y₀ z₀ (x ∷ xs) (y ∷ ys) zero h l = refl
  get_d_zip x₀ y₀ z₀ (x ∷ xs) (y ∷ ys) (suc k) h l = get_d_zip x₀ y₀ z₀ xs ys k (omega arith) (omega arith)
