-- Laws of `every`, and what a loop over a list knows at index j: the rest from j on decides.
use mathlib.Core.Path.{◌≡◌, refl, sym, ap, ◌∙◌}
use mathlib.Core.Bool.{Bool, true, false, not, ◌&&◌, false≢true}
use mathlib.Core.Logic.Iff
use mathlib.Core.Logic.{◌↔◌, ⊎_elim}
use mathlib.Core.List.{List, [], ◌∷◌, ◌++◌, Memᴰ}
use mathlib.Core.List.Memᴰ
use mathlib.Core.List.{nil≢cons, cons-eq-cons}
use Prim.Native.Nat.{ℕ, zero, suc, ◌+◌, ◌≤◌, ◌<◌}
use native.Mathlib.Numerals.{add-one}
use native.Mathlib.Omega.{arith}
use borrow.Author.Tests.{not-true, not-false}
use lib.ListN.{length, get_or, drop, drop_of_length-le}
use lib.Seq.{drop-cons}
use Rattle.std.specs.List.{list_all, range_with_len}
use Rattle.lists.specs.Numbers.{numbers}
use Rattle.lists.specs.Tests.{every, same_numbers}
use Rattle.lists.proofs.Both.{and_left, and_right, and_both, eqb_iff, and_iff}

module _ {A : Type 0} (test : A → Bool) where
  -- of a list that passes, the first element passes
  pub every-head : (x : A) (xs : List A) → every test (x ∷ xs) ≡ true → test x ≡ true
  unfolding every
  every-head x xs e = and_left (test x) (every test xs) e

  -- and the others pass
  pub every-tail : (x : A) (xs : List A) → every test (x ∷ xs) ≡ true → every test xs ≡ true
  unfolding every
  every-tail x xs e = and_right (test x) (every test xs) e

  -- and all together pass if the first and the others do
  pub every-cons : (x : A) (xs : List A) → test x ≡ true → every test xs ≡ true → every test (x ∷ xs) ≡ true
  unfolding every
  every-cons x xs p q = and_both p q

  -- the element at any place passes
  pub every_at : (xs : List A) → every test xs ≡ true → (i : ℕ) (none : A) → i < length xs → test (get_or xs i none) ≡ true
  every_at [] e i none h = absurd (omega arith)
  every_at (x ∷ xs) e zero none h = every-head x xs e
  every_at (x ∷ xs) e (suc i) none h = every_at xs (every-tail x xs e) i none (omega arith)

  -- the element at each place passes: so does every one
  pub every-from : (none : A) (xs : List A) → ((i : ℕ) → i < length xs → test (get_or xs i none) ≡ true) → every test xs ≡ true
  unfolding every
  every-from none [] h = refl
  every-from none (x ∷ xs) h = and_both (h zero (omega arith)) (every-from none xs (λ i below. h (suc i) (omega arith)))

  -- a test holds of every element of a list exactly if it holds of each
  pub every_iff : (xs : List A) → (every test xs ≡ true) ↔ ((x : A) → Memᴰ x xs → test x ≡ true)
  unfolding every
  every_iff [] = (λ e x m. absurd (Memᴰ.not-nil m), λ h. refl)
  every_iff (y ∷ ys) = (
    λ e x m. ⊎_elim (λ p. rw p (every-head y ys e)) ((every_iff ys).0 (every-tail y ys e) x) (Memᴰ.cases_cons m),
    λ h. and_both (h y (Memᴰ.head refl)) ((every_iff ys).1 (λ x m. h x (Memᴰ.tail m))),
  )

  -- every element of two lists one after the other
  pub every_append : (xs ys : List A) → every test xs ≡ true → every test ys ≡ true → every test (xs ++ ys) ≡ true
  unfolding every
  every_append [] ys p q = q
  every_append (x ∷ xs) ys p q =
      and_both (and_left (test x) _ p) (every_append xs ys (and_right (test x) _ p) q)

-- what passes one test passes a weaker one
pub every_weaker : {A : Type 0} (strong weak : A → Bool) → ((x : A) → strong x ≡ true → weak x ≡ true)
    → (xs : List A) → every strong xs ≡ true → every weak xs ≡ true
unfolding every
every_weaker strong weak h [] p = refl
every_weaker strong weak h (x ∷ xs) p =
    and_both (h x (and_left (strong x) _ p)) (every_weaker strong weak h xs (and_right (strong x) _ p))

module _ {A : Type 0} (test : A → Bool) (d : A) where
  -- the rest from j on is the element at j and the rest after it
  pub every_drop : (xs : List A) (j : ℕ) → j < length xs → every test (drop j xs) ≡ test (get_or xs j d) && every test (drop (j + 1) xs)
  unfolding every
  every_drop xs j h = rw (add-one, drop-cons xs j d)

  module _ (xs : List A) (j : ℕ) (inv : every test xs ≡ every test (drop j xs)) where
    -- an element that fails at j: the list fails
    pub every_fails : {b : Bool} → j < length xs → b ≡ test (get_or xs j d) → not b ≡ true → false ≡ every test xs
    every_fails {b} h e t =
        sym (inv ∙ every_drop xs j h ∙ ap (λ x. x && every test (drop (j + 1) xs)) (sym e ∙ not-true b t))

    -- an element that passes at j: the rest after it decides
    pub every_goes_on : {b : Bool} → j < length xs → b ≡ test (get_or xs j d) → not b ≡ false → every test xs ≡ every test (drop (j + 1) xs)
    every_goes_on {b} h e t =
        inv ∙ every_drop xs j h ∙ ap (λ x. x && every test (drop (j + 1) xs)) (sym e ∙ not-false b t)

    -- nothing is left at j: the list passes
    pub every_passes : length xs ≤ j → true ≡ every test xs
    unfolding every
    every_passes h = sym (inv ∙ ap (every test) (drop_of_length-le xs h))

-- a test of the numbers behind those of a range is that test of the numbers from the second on
pub every_behind : (test : ℕ → Bool) (first count : ℕ)
    → list_all (λ i. test (i + 1)) (range_with_len first count) ≡ every test (numbers (suc first) count)
unfolding every numbers
every_behind test first zero = refl
every_behind test first (suc count) = rw add-one (ap (λ rest. test (suc first) && rest) (every_behind test (suc first) count))

-- two lists pass the test exactly if they are equal
pub same_numbers_iff : (xs ys : List ℕ) → (same_numbers xs ys ≡ true) ↔ (xs ≡ ys)
unfolding same_numbers
same_numbers_iff [] [] = (λ e. refl, λ e. refl)
same_numbers_iff [] (y ∷ ys) = (λ e. absurd (false≢true e), λ e. absurd (nil≢cons e))
same_numbers_iff (x ∷ xs) [] = (λ e. absurd (false≢true e), λ e. absurd (nil≢cons (sym e)))
same_numbers_iff (x ∷ xs) (y ∷ ys) = Iff.trans (and_iff (eqb_iff x y) (same_numbers_iff xs ys)) (Iff.symm cons-eq-cons)
