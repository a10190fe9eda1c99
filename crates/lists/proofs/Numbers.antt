-- Laws of `numbers`, numbers in a row, and of lists made from them.
use mathlib.Core.Path.{◌≡◌, refl, sym, ap, ◌∙◌}
use mathlib.Core.Bool.{Bool, true, false}
use mathlib.Core.List.Memᴰ
use mathlib.Core.List.{[], ◌∷◌, ◌++◌, map, Memᴰ}
use mathlib.Core.Logic.{◌⊎◌, inl, inr, ◌↔◌, ◌≢◌}
use Prim.Native.Nat.{ℕ, zero, suc, ◌+◌, ◌≤◌, ◌<◌}
use native.Mathlib.Nat.{add-zero, add-suc, suc-add, zero-add}
use native.Mathlib.Numerals.{add-one}
use native.Mathlib.Omega.{arith}
use borrow.Author.Tests.{eqb-true, eqb-false}
use lib.Dec.{eqb}
use lib.ListN.{length, get_or, length-map, get_or-eq_default}
use Rattle.lists.specs.Numbers.{numbers}

-- there are as many numbers in a row as asked for
pub length-numbers : (a k : ℕ) → length (numbers a k) ≡ k
unfolding numbers
length-numbers a zero = refl
length-numbers a (suc k) = ap suc (length-numbers (suc a) k)

-- the i-th of the numbers from a, counted from 0, is a + i
pub get_or-numbers : (a k i z : ℕ) → i < k → get_or (numbers a k) i z ≡ a + i
unfolding numbers
get_or-numbers a zero i z h = absurd (omega arith)
get_or-numbers a (suc k) zero z h = omega arith
get_or-numbers a (suc k) (suc i) z h =
    let rest : get_or (numbers (suc a) k) i z ≡ suc a + i = get_or-numbers (suc a) k i z (omega arith) in
    omega arith

-- what stands among the k numbers from a is from a to a + k - 1
pub numbers-within : (a k v : ℕ) → Memᴰ v (numbers a k) → (a ≤ v) × (v < a + k)
unfolding numbers
numbers-within a zero v m = absurd (Memᴰ.not-nil m)
numbers-within a (suc k) v m = at (λ m'. numbers-within (suc a) k v m') (Memᴰ.cases_cons m)
  where
    at : (Memᴰ v (numbers (suc a) k) → (suc a ≤ v) × (v < suc a + k))
        → (v ≡ a) ⊎ Memᴰ v (numbers (suc a) k) → (a ≤ v) × (v < a + suc k)
    at later (inl e) = omega arith
    at later (inr m') = let h : (suc a ≤ v) × (v < suc a + k) = later m' in omega arith

-- and all of these stand among them
pub numbers-among : (a k v : ℕ) → a ≤ v → v < a + k → Memᴰ v (numbers a k)
unfolding numbers
numbers-among a zero v low high = absurd (omega arith)
numbers-among a (suc k) v low high = at (λ h. numbers-among (suc a) k v h (omega arith)) (eqb v a) refl
  where
    at : (suc a ≤ v → Memᴰ v (numbers (suc a) k)) → (b : Bool) → eqb v a ≡ b → Memᴰ v (a ∷ numbers (suc a) k)
    at later true e = Memᴰ.head (eqb-true v a e)
    at later false e = let other : v ≢ a = eqb-false v a e in Memᴰ.tail (later (omega arith))

-- v is among the k numbers from a exactly if a ≤ v < a + k
pub mem-numbers : (a k v : ℕ) → Memᴰ v (numbers a k) ↔ ((a ≤ v) × (v < a + k))
mem-numbers a k v = (numbers-within a k v, λ h. numbers-among a k v h.0 h.1)

-- the numbers from a, and then those that follow
pub numbers-append : (a k j : ℕ) → numbers a (k + j) ≡ numbers a k ++ numbers (a + k) j
unfolding numbers
numbers-append a zero j = rw (zero-add, add-zero)
numbers-append a (suc k) j = rw (suc-add k j, add-suc a k, numbers-append (suc a) k j, suc-add a k)

-- one more number at the end
pub numbers-snoc : (a k : ℕ) → numbers a (suc k) ≡ numbers a k ++ ((a + k) ∷ [])
unfolding numbers
numbers-snoc a k = ap (numbers a) (sym (add-one k)) ∙ numbers-append a k 1

module _ {A : Type 0} (f : ℕ → A) where
  -- a list made from numbers in a row has one entry for each of them
  pub length_map_numbers : (a k : ℕ) → length (map f (numbers a k)) ≡ k
  length_map_numbers a k = length-map (numbers a k) f ∙ length-numbers a k

  -- its entry at index i
  pub map-numbers : (z : A) (a k i : ℕ) → i < k → get_or (map f (numbers a k)) i z ≡ f (a + i)
  unfolding numbers
  map-numbers z a zero i h = absurd (omega arith)
  map-numbers z a (suc k) zero h = ap f (sym (add-zero a))
  map-numbers z a (suc k) (suc i) h = map-numbers z (suc a) k i (omega arith) ∙ ap f (omega arith)

  -- and beyond its end
  pub map-beyond : (z : A) (a k i : ℕ) → k ≤ i → get_or (map f (numbers a k)) i z ≡ z
  map-beyond z a k i h = get_or-eq_default (map f (numbers a k)) z (omega (arith, length_map_numbers a k))

  -- made from the numbers behind those of a row
  pub map_behind : (by a k : ℕ) → map (λ i. f (i + by)) (numbers a k) ≡ map f (numbers (a + by) k)
  unfolding numbers
  map_behind by a zero = refl
  map_behind by a (suc k) = ap (λ rest. f (a + by) ∷ rest) (map_behind by (suc a) k ∙ ap (λ (b : ℕ). map f (numbers b k)) (suc-add a by))
