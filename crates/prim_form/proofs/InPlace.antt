-- A list whose items are changed one after the other, each in its place.
use mathlib.Core.Path.{◌≡◌, refl, ap, ap₂, ◌∙◌}
use mathlib.Core.List.{List, [], ◌∷◌, ◌++◌, append-nil, map}
use Prim.Native.Nat.{ℕ, zero, suc, ◌+◌, ◌≤◌, ◌<◌}
use native.Mathlib.Nat.{suc-add}
use native.Mathlib.Omega.{arith}
use lib.ListN.{length, get_or, take, drop, set, drop_of_length-le}
use lib.Seq.{take_all}

-- a list of which the first items have been changed
abbrev pub changed : {A : Type 0} → (A → A) → ℕ → List A → List A
changed f i xs = map f (take i xs) ++ drop i xs

module _ {A : Type 0} (f : A → A) where
  -- one item more
  pub changed_more : (d : A) (xs : List A) (i : ℕ) → i < length xs
      → set (changed f i xs) i (f (get_or (changed f i xs) i d)) ≡ changed f (i + 1) xs
  changed_more d [] i h = absurd (omega arith)
  changed_more d (x ∷ xs) zero h = refl
  changed_more d (x ∷ xs) (suc i) h = rw suc-add (ap (λ rest. f x ∷ rest) (changed_more d xs i (omega arith)))

  -- and all
  pub changed_all : (xs : List A) (i : ℕ) → length xs ≤ i → changed f i xs ≡ map f xs
  changed_all xs i h = ap₂ (λ front rest. map f front ++ rest) (take_all i xs h) (drop_of_length-le xs h) ∙ append-nil (map f xs)
