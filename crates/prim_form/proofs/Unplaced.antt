-- Laws of the unplaced taxa: which they are, and that placing one of them leaves one fewer.
use mathlib.Core.Path.{◌≡◌, refl, sym, ap, ◌∙◌}
use mathlib.Core.Bool.{Bool, true, false, ◌||◌, false≢true, not}
use mathlib.Core.List.{List, [], ◌∷◌, ◌++◌}
use mathlib.Core.List.{Memᴰ}
use mathlib.Core.Logic.{◌⊎◌, inl, inr, ◌↔◌, ◌≢◌}
use Prim.Native.Nat.{ℕ, zero, suc, ◌+◌, ◌-◌, ◌≤◌, ◌<◌}
use native.Mathlib.Decide.{ℕ_discrete}
use native.Mathlib.Omega.{arith}
use borrow.Author.Tests.{eqb-true, eq-eqb}
use lib.Dec.{eqb}
use lib.ListN.{length}
use Rattle.lists.specs.Filters.{keep, without}
use Rattle.lists.specs.Numbers.{numbers}
use Rattle.lists.proofs.Numbers.{mem-numbers, length-numbers}
use Rattle.lists.specs.Tests.{among}
use Rattle.lists.proofs.Keep.{keep-mem, mem-keep}
use borrow.Author.Tests.{not-true}
use Rattle.prim_form.specs.Network.{unplaced}
use Rattle.prim_form.specs.Rival.{IsTaxon}

-- the test finds only taxa of the list
pub among-true : (v : ℕ) (xs : List ℕ) → among v xs ≡ true → Memᴰ v xs
unfolding among
among-true v [] e = absurd (false≢true e)
among-true v (x ∷ xs) e = at (λ h. among-true v xs h) (eqb v x) refl e
  where
    at : (among v xs ≡ true → Memᴰ v xs) → (b : Bool) → eqb v x ≡ b → (b || among v xs) ≡ true → Memᴰ v (x ∷ xs)
    at later true q h = mathlib.Core.List.Memᴰ.head (eqb-true v x q)
    at later false q h = mathlib.Core.List.Memᴰ.tail (later h)

-- and finds each of them
pub mem-among : (v : ℕ) (xs : List ℕ) → Memᴰ v xs → among v xs ≡ true
unfolding among
mem-among v xs (mathlib.Core.List.Memᴰ.head {x = x} {xs = ys} e) = rw (eq-eqb v x e)
mem-among v xs (mathlib.Core.List.Memᴰ.tail {x = x} {xs = ys} m) = at (mem-among v ys m) (eqb v x)
  where
    at : among v ys ≡ true → (b : Bool) → (b || among v ys) ≡ true
    at h true = refl
    at h false = h

-- where the test fails, the taxon is not in the list
pub among-false : (v : ℕ) (xs : List ℕ) → among v xs ≡ false → ¬ Memᴰ v xs
among-false v xs e m = false≢true (sym e ∙ mem-among v xs m)

-- and where it is not in the list, the test fails
pub not-among : (v : ℕ) (xs : List ℕ) → ¬ Memᴰ v xs → among v xs ≡ false
not-among v xs out = at (among v xs) refl
  where
    at : (b : Bool) → among v xs ≡ b → b ≡ false
    at true e = absurd (out (among-true v xs e))
    at false e = refl

-- a number is in a list or not
pub decide_mem : (v : ℕ) (xs : List ℕ) → Dec (Memᴰ v xs)
decide_mem v xs = at (among v xs) refl
  where
    at : (b : Bool) → among v xs ≡ b → Dec (Memᴰ v xs)
    at true e = yes (among-true v xs e)
    at false e = no (among-false v xs e)

-- a taxon of the others is left out
pub without-among : (others : List ℕ) (x : ℕ) (xs : List ℕ) → Memᴰ x others → without others (x ∷ xs) ≡ without others xs
unfolding without keep
without-among others x xs m = rw (mem-among x others m)

-- any other is kept
pub without_not_among : (others : List ℕ) (x : ℕ) (xs : List ℕ) → ¬ Memᴰ x others → without others (x ∷ xs) ≡ x ∷ without others xs
unfolding without keep
without_not_among others x xs out = rw (not-among x others out)

-- nothing is left out where there are no others
pub without-nothing : (xs : List ℕ) → without [] xs ≡ xs
unfolding without keep among
without-nothing [] = refl
without-nothing (x ∷ xs) = ap {B = List ℕ} (λ (l : List ℕ). x ∷ l) (without-nothing xs)

-- what is left of a list is in it, and not among the others
pub of_without : (others xs : List ℕ) (v : ℕ) → Memᴰ v (without others xs) → Memᴰ v xs × ¬ Memᴰ v others
unfolding without
of_without others xs v m =
    let k = keep-mem (λ u. not (among u others)) xs v m in
    (k.0, among-false v others (not-true _ k.1))

-- a taxon of the list that is not among the others is left
pub mem-without : (others xs : List ℕ) (v : ℕ) → Memᴰ v xs → ¬ Memᴰ v others → Memᴰ v (without others xs)
unfolding without
mem-without others xs v m out = mem-keep (λ u. not (among u others)) xs v m (ap not (not-among v others out))

-- a taxon is unplaced exactly if it is one of 2 to n and not among those placed
pub mem-unplaced : (n : ℕ) (later : List ℕ) (v : ℕ) → Memᴰ v (unplaced n later) ↔ ((2 ≤ v) × (v ≤ n) × ¬ Memᴰ v later)
unfolding unplaced
mem-unplaced n later v = (out, λ h. mem-without later (numbers 2 (n - 1)) v ((mem-numbers 2 (n - 1) v).1 (omega arith)) h.2)
  where
    out : Memᴰ v (without later (numbers 2 (n - 1))) → (2 ≤ v) × (v ≤ n) × ¬ Memᴰ v later
    out m =
        let k : Memᴰ v (numbers 2 (n - 1)) × ¬ Memᴰ v later = of_without later (numbers 2 (n - 1)) v m in
        let h : (2 ≤ v) × (v < 2 + (n - 1)) = (mem-numbers 2 (n - 1) v).0 k.0 in
        (h.0, omega arith, k.1)

-- a taxon of a list with v at the end is v or one of the list
of_added : {x : ℕ} (others : List ℕ) (v : ℕ) → Memᴰ x (others ++ (v ∷ [])) → Memᴰ x others ⊎ (x ≡ v)
of_added {x} others v m = at (mathlib.Core.List.Memᴰ.append_cases others m)
  where
    at : Memᴰ x others ⊎ Memᴰ x (v ∷ []) → Memᴰ x others ⊎ (x ≡ v)
    at (inl k) = inl k
    at (inr k) = inr (mathlib.Core.List.Memᴰ.eq_of_singleton k)

-- what is not v and not among others is not among them with v added
not-added : {x : ℕ} (others : List ℕ) (v : ℕ) → ¬ Memᴰ x others → x ≢ v → ¬ Memᴰ x (others ++ (v ∷ []))
not-added {x} others v out other m = at (of_added others v m)
  where
    at : Memᴰ x others ⊎ (x ≡ v) → ⊥
    at (inl k) = out k
    at (inr e) = other e

-- to leave out one more taxon changes nothing if it is not in the list
without-added : (others : List ℕ) (v : ℕ) (xs : List ℕ) → ¬ Memᴰ v xs → without (others ++ (v ∷ [])) xs ≡ without others xs
unfolding without keep
without-added others v [] out = refl
without-added others v (x ∷ xs) out = at (without-added others v xs (λ m. out (mathlib.Core.List.Memᴰ.tail m))) (decide_mem x others)
  where
    at : without (others ++ (v ∷ [])) xs ≡ without others xs → Dec (Memᴰ x others)
        → without (others ++ (v ∷ [])) (x ∷ xs) ≡ without others (x ∷ xs)
    at same (yes m) =
        without-among (others ++ (v ∷ [])) x xs (mathlib.Core.List.Memᴰ.append_left (v ∷ []) m) ∙ same ∙ sym (without-among others x xs m)
    at same (no o) =
        without_not_among (others ++ (v ∷ [])) x xs (not-added others v o (λ e. out (mathlib.Core.List.Memᴰ.head (sym e))))
        ∙ ap {B = List ℕ} (λ (l : List ℕ). x ∷ l) same
        ∙ sym (without_not_among others x xs o)

-- of numbers in a row, it leaves one fewer if it is one of them and not yet left out
length_without_added : (others : List ℕ) (v a k : ℕ) → ¬ Memᴰ v others → a ≤ v → v < a + k
    → length (without others (numbers a k)) ≡ suc (length (without (others ++ (v ∷ [])) (numbers a k)))
unfolding numbers
length_without_added others v a zero out low high = absurd (omega arith)
length_without_added others v a (suc k) out low high =
    at (λ other. length_without_added others v (suc a) k out (omega arith) (omega arith)) (ℕ_discrete a v) (decide_mem a others)
  where
    at : (a ≢ v → length (without others (numbers (suc a) k)) ≡ suc (length (without (others ++ (v ∷ [])) (numbers (suc a) k))))
        → Dec (a ≡ v)
        → Dec (Memᴰ a others)
        → length (without others (a ∷ numbers (suc a) k)) ≡ suc (length (without (others ++ (v ∷ [])) (a ∷ numbers (suc a) k)))
    at later (yes e) m =
        let behind : ¬ Memᴰ v (numbers (suc a) k) = λ r. absurd (omega (arith, (mem-numbers (suc a) k v).0 r)) in
        rw (
          without_not_among others a (numbers (suc a) k) (λ r. out (mathlib.Core.List.Memᴰ.cast (sym e) r)),
          without-among (others ++ (v ∷ [])) a (numbers (suc a) k) (mathlib.Core.List.Memᴰ.append_right others (mathlib.Core.List.Memᴰ.head e)),
          without-added others v (numbers (suc a) k) behind,
        )
    at later (no other) (yes m) =
        rw (
          without-among others a (numbers (suc a) k) m,
          without-among (others ++ (v ∷ [])) a (numbers (suc a) k) (mathlib.Core.List.Memᴰ.append_left (v ∷ []) m),
        ) (later other)
    at later (no other) (no o) =
        rw (
          without_not_among others a (numbers (suc a) k) o,
          without_not_among (others ++ (v ∷ [])) a (numbers (suc a) k) (not-added others v o other),
        ) (ap suc (later other))

-- to place an unplaced taxon leaves one fewer
pub length_unplaced_next : (n : ℕ) (later : List ℕ) (v : ℕ) → Memᴰ v (unplaced n later)
    → length (unplaced n later) ≡ suc (length (unplaced n (later ++ (v ∷ []))))
unfolding unplaced
length_unplaced_next n later v m =
    let h = (mem-unplaced n later v).0 m in
    length_without_added later v 2 (n - 1) h.2 h.0 (omega arith)

-- at the start the taxa 2 to n are unplaced
pub length-unplaced : (n : ℕ) → length (unplaced n []) ≡ n - 1
unfolding unplaced
length-unplaced n = rw (without-nothing (numbers 2 (n - 1))) (length-numbers 2 (n - 1))

-- the placed taxa: row 1 and those placed later
abbrev pub IsPlaced : List ℕ → ℕ → Type 0
IsPlaced later x = Memᴰ x (1 ∷ later)

-- a taxon that is not placed is unplaced
pub not-placed : (n : ℕ) (later : List ℕ) (v : ℕ) → IsTaxon n v → ¬ IsPlaced later v → Memᴰ v (unplaced n later)
not-placed n later v t out =
    let other : v ≢ 1 = λ e. out (mathlib.Core.List.Memᴰ.head e) in
    (mem-unplaced n later v).1 (omega arith, t.1, λ m. out (mathlib.Core.List.Memᴰ.tail m))

-- an unplaced taxon is not placed
pub not-unplaced : (n : ℕ) (later : List ℕ) (v : ℕ) → Memᴰ v (unplaced n later) → IsTaxon n v × ¬ IsPlaced later v
not-unplaced n later v m =
    let h = (mem-unplaced n later v).0 m in
    ((omega arith, h.1), λ k. out h (mathlib.Core.List.Memᴰ.cases_cons k))
  where
    out : (2 ≤ v) × (v ≤ n) × ¬ Memᴰ v later → (v ≡ 1) ⊎ Memᴰ v later → ⊥
    out h (inl e) = omega arith
    out h (inr k) = h.2 k

-- a placed taxon is one of 1 to n, if those placed later are and there is a row 1
pub placed-taxon : (n : ℕ) (later : List ℕ) → ((x : ℕ) → Memᴰ x later → IsTaxon n x) → 1 ≤ n → (x : ℕ) → IsPlaced later x → IsTaxon n x
placed-taxon n later all some x m = at (mathlib.Core.List.Memᴰ.cases_cons m)
  where
    at : (x ≡ 1) ⊎ Memᴰ x later → IsTaxon n x
    at (inl e) = omega arith
    at (inr k) = all x k

-- with an unplaced taxon placed, those placed later are still of 1 to n
pub added-taxon : (n : ℕ) (later : List ℕ) (v : ℕ) → ((x : ℕ) → Memᴰ x later → IsTaxon n x) → Memᴰ v (unplaced n later)
    → (x : ℕ) → Memᴰ x (later ++ (v ∷ [])) → IsTaxon n x
added-taxon n later v all fresh x m = at (of_added later v m)
  where
    at : Memᴰ x later ⊎ (x ≡ v) → IsTaxon n x
    at (inl k) = all x k
    at (inr e) = rw e (not-unplaced n later v fresh).0
