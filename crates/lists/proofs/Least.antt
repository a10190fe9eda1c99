-- Laws of `first_least`, the first of a list with the least key, and of `least_of`, which is 0 of an empty list.
use mathlib.Core.Path.{◌≡◌, refl, sym, ap, ◌∙◌}
use mathlib.Core.Bool.{Bool, true, false, cond}
use mathlib.Core.List.Memᴰ
use mathlib.Core.List.{List, [], ◌∷◌, ◌++◌, map, Memᴰ}
use mathlib.Core.Logic.{◌⊎◌, inl, inr}
use Prim.Native.Nat.{ℕ, ◌≤◌, ◌<◌}
use native.Mathlib.Nat.{le_refl, le_trans}
use native.Mathlib.Omega.{arith}
use borrow.Author.Tests.{leb-true, leb-false, le-leb, lt-leb}
use lib.Dec.{leb}
use lib.ListN.{length, length-append}
use Rattle.std.specs.Prelude.{Some}
use Rattle.lists.specs.Least.{first_least, least_key, least_of}

module _ {A : Type 0} where
  -- an element of a list such that each one before it has a greater key, and none behind it a lesser one
  pub record Chosen (key : A → ℕ) (list : List A) (chosen : A) : Type 0 where
    pub before : List A
    pub after : List A
    pub split : list ≡ before ++ chosen ∷ after
    pub greater : (y : A) → Memᴰ y before → key chosen < key y
    pub least : (y : A) → Memᴰ y after → key chosen ≤ key y

  module _ (key : A → ℕ) where
    -- of x and a later one, that of the lesser key, and x if the keys are equal
    abbrev earlier : A → A → A
    earlier x z = cond (leb (key x) (key z)) x z

    -- x is taken if its key is not greater
    take_head : (x z : A) → key x ≤ key z → earlier x z ≡ x
    take_head x z h = rw (le-leb (key x) (key z) h)

    -- the later one is taken if its key is less
    take-later : (x z : A) → key z < key x → earlier x z ≡ z
    take-later x z h = rw (lt-leb (key x) (key z) h)

    -- a fact about the choice between x and a later one, from the fact in each of the two cases
    choice_cases : (P : A → Type 0) (x z : A) → (key x ≤ key z → P x) → (key z < key x → P z) → P (earlier x z)
    choice_cases P x z low high = go (leb (key x) (key z)) refl
      where
        go : (b : Bool) → leb (key x) (key z) ≡ b → P (cond b x z)
        go true e = low (leb-true (key x) (key z) e)
        go false e = high (leb-false (key x) (key z) e)

    -- the chosen one is in the list
    pub first_least-mem : (x : A) (xs : List A) → Memᴰ (first_least key x xs) (x ∷ xs)
    unfolding first_least
    first_least-mem x [] = Memᴰ.head refl
    first_least-mem x (y ∷ ys) =
        choice_cases (λ (z : A). Memᴰ z (x ∷ y ∷ ys)) x (first_least key y ys)
        (λ _. Memᴰ.head refl)
        (λ _. Memᴰ.tail (first_least-mem y ys))

    -- its key is the least
    pub first_least-least : (x : A) (xs : List A) (y : A) → Memᴰ y (x ∷ xs) → key (first_least key x xs) ≤ key y
    unfolding first_least
    first_least-least x [] y (Memᴰ.head e) = rw e (le_refl (key x))
    first_least-least x [] y (Memᴰ.tail m) = absurd (Memᴰ.not-nil m)
    first_least-least x (v ∷ vs) y (Memᴰ.head e) =
        rw e (choice_cases (λ (z : A). key z ≤ key x) x (first_least key v vs) (λ h. le_refl (key x)) (λ h. omega arith))
    first_least-least x (v ∷ vs) y (Memᴰ.tail m) =
        let h : key (first_least key v vs) ≤ key y = first_least-least v vs y m in
        choice_cases (λ (z : A). key z ≤ key y) x (first_least key v vs) (λ k. omega arith) (λ k. h)

    -- it is the first of them: each one before it has a greater key, each one behind it a key not less
    pub first_least-first : (x : A) (xs : List A) → Chosen key (x ∷ xs) (first_least key x xs)
    unfolding first_least
    first_least-first x [] =
        record {
          before = [];
          after = [];
          split = refl;
          greater = λ y m. absurd (Memᴰ.not-nil m);
          least = λ y m. absurd (Memᴰ.not-nil m);
        }
    first_least-first x (v ∷ vs) =
        choice_cases (Chosen key (x ∷ v ∷ vs)) x (first_least key v vs)
        (λ h. record {
          before = [];
          after = v ∷ vs;
          split = refl;
          greater = λ y m. absurd (Memᴰ.not-nil m);
          least = λ y m. le_trans h (first_least-least v vs y m);
        })
        (λ h. behind (first_least key v vs) h (first_least-first v vs))
      where
        behind : (z : A) → key z < key x → Chosen key (v ∷ vs) z → Chosen key (x ∷ v ∷ vs) z
        behind z h c = record {
          before = x ∷ c.before;
          after = c.after;
          split = ap {B = List A} (λ (l : List A). x ∷ l) c.split;
          greater = λ y m. before_greater y (Memᴰ.cases_cons m);
          least = c.least;
        }
          where
            before_greater : (y : A) → (y ≡ x) ⊎ Memᴰ y c.before → key z < key y
            before_greater y (inl e) = rw e h
            before_greater y (inr m) = c.greater y m

    -- the head is chosen if no later key is less
    pub first_least-head : (x : A) (xs : List A) → ((y : A) → Memᴰ y xs → key x ≤ key y) → first_least key x xs ≡ x
    unfolding first_least
    first_least-head x [] h = refl
    first_least-head x (v ∷ vs) h = take_head x (first_least key v vs) (h (first_least key v vs) (first_least-mem v vs))

    -- an element before which all keys are greater, and behind which none is less, is chosen
    from-split : (before : List A) (z : A) (after : List A)
        → ((y : A) → Memᴰ y before → key z < key y)
        → ((y : A) → Memᴰ y after → key z ≤ key y)
        → (x : A) (xs : List A) → x ∷ xs ≡ before ++ z ∷ after
        → first_least key x xs ≡ z
    unfolding first_least
    from-split [] z after greater least x xs e =
        let e₁ : x ≡ z = cc in
        let e₂ : xs ≡ after = cc in
        rw (e₁, e₂) (first_least-head z after least)
    from-split (b ∷ bs) z after greater least x [] e =
        absurd (omega (arith, simp length-append at (ap length e)))
    from-split (b ∷ bs) z after greater least x (v ∷ vs) e =
        let e₁ : b ≡ x = cc in
        let e₂ : v ∷ vs ≡ bs ++ z ∷ after = cc in
        let later : first_least key v vs ≡ z = from-split bs z after (λ y m. greater y (Memᴰ.tail m)) least v vs e₂ in
        rw later (take-later x z (rw e₁ at (greater b (Memᴰ.head refl))))

    -- an element of which this is true is the one chosen
    pub first_least_unique : (x : A) (xs : List A) (z : A) → Chosen key (x ∷ xs) z → first_least key x xs ≡ z
    first_least_unique x xs z c = from-split c.before z c.after c.greater c.least x xs c.split

    -- of three, it makes no difference which two are compared first
    choice_assoc : (x z y : A) → earlier x (earlier z y) ≡ earlier (earlier x z) y
    choice_assoc x z y = go (leb (key x) (key z)) (leb (key z) (key y)) refl refl
      where
        go : (b₁ b₂ : Bool) → leb (key x) (key z) ≡ b₁ → leb (key z) (key y) ≡ b₂ → earlier x (cond b₂ z y) ≡ earlier (cond b₁ x z) y
        go true true e₁ e₂ =
            let h₁ : key x ≤ key z = leb-true (key x) (key z) e₁ in
            let h₂ : key z ≤ key y = leb-true (key z) (key y) e₂ in
            take_head x z h₁ ∙ sym (take_head x y (omega arith))
        go true false e₁ e₂ = refl
        go false true e₁ e₂ =
            take-later x z (leb-false (key x) (key z) e₁) ∙ sym (take_head z y (leb-true (key z) (key y) e₂))
        go false false e₁ e₂ =
            let h₁ : key z < key x = leb-false (key x) (key z) e₁ in
            let h₂ : key y < key z = leb-false (key z) (key y) e₂ in
            take-later x y (omega arith) ∙ sym (take-later z y h₂)

    -- what is chosen of two lists in turn is one of the two choices, the earlier one among equals
    pub first_least-append : (x : A) (xs : List A) (y : A) (ys : List A)
        → first_least key x (xs ++ y ∷ ys) ≡ earlier (first_least key x xs) (first_least key y ys)
    unfolding first_least
    first_least-append x [] y ys = refl
    first_least-append x (v ∷ vs) y ys =
        rw (first_least-append v vs y ys) (choice_assoc x (first_least key v vs) (first_least key y ys))

    -- one more at the end is compared with the one chosen so far
    one_more : (x : A) (xs : List A) (y : A) → first_least key x (xs ++ (y ∷ [])) ≡ earlier (first_least key x xs) y
    unfolding first_least
    one_more x xs y = first_least-append x xs y []

    -- one more at the end is chosen if its key is below the key of the one chosen so far
    pub first_least_snoc_less : (x : A) (xs : List A) (y : A) → key y < key (first_least key x xs) → first_least key x (xs ++ (y ∷ [])) ≡ y
    first_least_snoc_less x xs y h = one_more x xs y ∙ take-later (first_least key x xs) y h

    -- otherwise the one chosen so far stays
    pub first_least_snoc_stays : (x : A) (xs : List A) (y : A)
        → key (first_least key x xs) ≤ key y
        → first_least key x (xs ++ (y ∷ [])) ≡ first_least key x xs
    first_least_snoc_stays x xs y h = one_more x xs y ∙ take_head (first_least key x xs) y h

  -- the choice depends only on the keys of the list
  pub first_least_congr : (key key' : A → ℕ) (x : A) (xs : List A)
      → ((y : A) → Memᴰ y (x ∷ xs) → key y ≡ key' y)
      → first_least key x xs ≡ first_least key' x xs
  unfolding first_least
  first_least_congr key key' x [] h = refl
  first_least_congr key key' x (v ∷ vs) h =
      let same : first_least key v vs ≡ first_least key' v vs = first_least_congr key key' v vs (λ y m. h y (Memᴰ.tail m)) in
      let at_x : key x ≡ key' x = h x (Memᴰ.head refl) in
      let at-later : key (first_least key' v vs) ≡ key' (first_least key' v vs) =
      h (first_least key' v vs) (Memᴰ.tail (first_least-mem key' v vs)) in
      rw (same, at_x, at-later)

-- the choice from what a function makes of a list is what it makes of the choice
pub first_least-map : {A B : Type 0} (f : A → B) (key : B → ℕ) (x : A) (xs : List A)
    → first_least key (f x) (map f xs) ≡ f (first_least (λ (z : A). key (f z)) x xs)
unfolding first_least
first_least-map f key x [] = refl
first_least-map {A = A} f key x (v ∷ vs) =
    let w : A = first_least (λ z. key (f z)) v vs in
    rw (first_least-map f key v vs) (through (leb (key (f x)) (key (f w))) w)
  where
    through : (t : Bool) (w : A) → cond t (f x) (f w) ≡ f (cond t x w)
    through true w = refl
    through false w = refl

-- the choice from a list that is not empty is one of it
pub least_of-mem : (key : ℕ → ℕ) (vs : List ℕ) (u : ℕ) → Memᴰ u vs → Memᴰ (least_of key vs) vs
unfolding least_of
least_of-mem key [] u m = absurd (Memᴰ.not-nil m)
least_of-mem key (v ∷ vs) u m = first_least-mem key v vs

-- and none of the list has a lesser key
pub least_of_le : (key : ℕ → ℕ) (vs : List ℕ) (u : ℕ) → Memᴰ u vs → key (least_of key vs) ≤ key u
unfolding least_of
least_of_le key [] u m = absurd (Memᴰ.not-nil m)
least_of_le key (v ∷ vs) u m = first_least-least key v vs u m

-- of no nodes, 0 is chosen
pub least_of-none : (key : ℕ → ℕ) (vs : List ℕ) → ((u : ℕ) → ¬ Memᴰ u vs) → least_of key vs ≡ 0
unfolding least_of
least_of-none key [] none = refl
least_of-none key (v ∷ vs) none = absurd (none v (Memᴰ.head refl))

-- the choice depends only on the keys of the list
pub least_of_congr : (key key' : ℕ → ℕ) (vs : List ℕ) → ((v : ℕ) → Memᴰ v vs → key v ≡ key' v) → least_of key vs ≡ least_of key' vs
unfolding least_of
least_of_congr key key' [] h = refl
least_of_congr key key' (v ∷ vs) h = first_least_congr key key' v vs h

-- the least key of a list that is not empty is that of the number chosen
pub least_key-of : (key : ℕ → ℕ) (vs : List ℕ) (u : ℕ) → Memᴰ u vs → least_key key vs ≡ Some (key (least_of key vs))
unfolding least_key least_of
least_key-of key [] u m = absurd (Memᴰ.not-nil m)
least_key-of key (v ∷ vs) u m = refl
