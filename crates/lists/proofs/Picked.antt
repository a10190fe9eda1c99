-- What a chain gives that ends in `min_by_key` or in `min`: the first item with the least key, or the least key.
use mathlib.Core.Path.{◌≡◌, refl, sym, ap, ap₂, subst, ◌∙◌}
use mathlib.Core.Bool.{Bool, true, false, cond}
use mathlib.Core.List.{List, [], ◌∷◌, map, map-id, Memᴰ}
use Prim.Native.Nat.{ℕ, min}
use native.Mathlib.Omega.{arith}
use borrow.Author.Tests.{leb-true, leb-false, le-leb, lt-leb}
use denote.Param.Members.{Mut}
use denote.Ref.{Bor}
use lib.Dec.{leb}
use Rattle.std.specs.Prelude.{Option, Some, None, MatchOption}
use Rattle.std.specs.Fn.{CalledAt}
use Rattle.std.specs.Iterator.{ActsAsAt, KeyTurn, PicksMinByKey}
use Rattle.std.specs.List.{FoldsTo, fold, reduce}
use Rattle.std.specs.Option.{unwrap_or}
use Rattle.std.specs.Ordering.{nat_cmp, min_by_ordering}
use Rattle.std.proofs.lemmas.Bool.Decides.{nat_tests}
use Rattle.std.proofs.lemmas.Iterator.{YieldsList, items_from_drains}
use Rattle.lists.specs.Least.{first_least, least_item, least_key, least_of}
use Rattle.lists.proofs.Least.{first_least-mem}

-- the lesser of two keys, the first where they are equal
min_key : {A : Type 0} (a b : ℕ) (x z : A) → min_by_ordering (nat_cmp a b) x z ≡ cond (leb a b) x z
min_key a b x z = grind (arith, nat_tests)

module _ {A : Type 0} (key : A → ℕ) where
  -- of two items that of the lesser key, the first where the keys are equal
  abbrev lesser : A → A → A
  lesser x z = cond (leb (key x) (key z)) x z

  -- of three it does not matter which two are compared first
  lesser_assoc : (x z m : A) → lesser x (lesser z m) ≡ lesser (lesser x z) m
  lesser_assoc x z m = go (leb (key x) (key z)) (leb (key z) (key m)) refl refl
    where
      go : (p q : Bool) → leb (key x) (key z) ≡ p → leb (key z) (key m) ≡ q → lesser x (cond q z m) ≡ lesser (cond p x z) m
      go true true e f = rw (e, le-leb (key x) (key m) (omega (arith, leb-true (key x) (key z) e, leb-true (key z) (key m) f)))
      go true false e f = refl
      go false true e f = rw (e, f)
      go false false e f =
          rw (f, lt-leb (key x) (key m) (omega (arith, leb-false (key x) (key z) e, leb-false (key z) (key m) f)))

  -- the first two may be compared first
  first_least-fold : (x z : A) (zs : List A) → first_least key x (z ∷ zs) ≡ first_least key (lesser x z) zs
  unfolding first_least
  first_least-fold x z [] = refl
  first_least-fold x z (w ∷ ws) = lesser_assoc x z (first_least key w ws)

  -- the key of the one taken is the one of the two keys taken
  through : (t : Bool) (x z : A) → cond t (key x) (key z) ≡ key (cond t x z)
  through true x z = refl
  through false x z = refl

  module _ {F : Type 0} (g : Mut F (Bor A × Unit {0}) ℕ) (f : F)
      (each : (x : A) (k : ℕ) (q : F) → CalledAt g f x k q → (q ≡ f) × (k ≡ key x)) where
    -- the turns of `min_by_key` over the items behind the first
    turns : (x : A) (xs : List A) (q : F × ℕ) (y : A)
        → FoldsTo {P = (F × ℕ) × A} (KeyTurn min_by_ordering min_by_ordering g nat_cmp) ((f, key x), x) xs (q, y) → y ≡ first_least key x xs
    unfolding first_least
    turns x [] q y e = sym (ap (λ (p : (F × ℕ) × A). p.1) e)
    turns x (z ∷ zs) q y t =
        let called = each z t.1.0 t.0.0.0 t.1.2 in
        let order : nat_cmp (key x) (key z) ≡ t.1.1 = ap (nat_cmp (key x)) (sym called.1) ∙ t.1.3 in
        let item : t.0.1 ≡ lesser x z = t.1.5 ∙ ap (λ o. min_by_ordering o x z) (sym order) ∙ min_key (key x) (key z) x z in
        let its_key : t.0.0.1 ≡ key (lesser x z) =
        t.1.4
        ∙ ap₂ (λ o k. min_by_ordering o (key x) k) (sym order) called.1
        ∙ min_key (key x) (key z) (key x) (key z)
        ∙ through (leb (key x) (key z)) x z in
        let now : ◌≡◌ {A = (F × ℕ) × A} t.0 ((f, key (lesser x z)), lesser x z) =
        ap₂ (λ (p : F × ℕ) (w : A). (p, w)) (ap₂ (λ (h : F) (k : ℕ). (h, k)) called.0 its_key) item in
        turns (lesser x z) zs q y (subst (λ p. FoldsTo (KeyTurn min_by_ordering min_by_ordering g nat_cmp) p zs (q, y)) now t.2)
        ∙ sym (first_least-fold x z zs)

    -- what it picks of the items of a chain
    pub min_by_key_is : {S : Type 0} {steps : S → Option A → S → Type 0} {s : S} {all : List A} (r : Option A)
        → PicksMinByKey steps g nat_cmp s f r → YieldsList steps (λ x. x) s all → r ≡ least_item key all
    min_by_key_is None p yields = ap (least_item key) (items_from_drains [] (p.1.0, p.1.1, λ _. (p.0, p.1.2)) yields)
    min_by_key_is {all = all} (Some y) p yields =
        let called = each p.0 p.2 p.3 p.6 in
        let first : ◌≡◌ {A = (F × ℕ) × A} ((p.3, p.2), p.0) ((f, key p.0), p.0) =
        ap₂ (λ (h : F) (k : ℕ). ((h, k), p.0)) called.0 called.1 in
        let items : p.0 ∷ p.1 ≡ all =
        sym (map-id (p.0 ∷ p.1)) ∙ items_from_drains (p.0 ∷ p.1) (p.5.1.0, p.5.1.1, λ _. (p.5.0, p.5.1.2)) yields in
        ap Some (turns p.0 p.1 p.4 y (subst (λ h. FoldsTo (KeyTurn min_by_ordering min_by_ordering g nat_cmp) h p.1 (p.4, y)) first p.7))
        ∙ ap (least_item key) items

-- ---- of a list of numbers

-- the first of a list of numbers with the least key is one of it, and `least_of` gives it
least_of-item : (key : ℕ → ℕ) (all : List ℕ) (r : Option ℕ) → r ≡ least_item key all
    → MatchOption r (least_of key all ≡ 0) (λ y. Memᴰ y all × (y ≡ least_of key all))
unfolding least_of
least_of-item key [] None e = refl
least_of-item key [] (Some y) e = cc
least_of-item key (x ∷ xs) None e = cc
least_of-item key (x ∷ xs) (Some y) e =
    let is : y ≡ first_least key x xs = cc in (rw is (first_least-mem key x xs), is)

module _ {S F : Type 0} {steps : S → Option ℕ → S → Type 0} (g : Mut F (Bor ℕ × Unit {0}) ℕ) (s : S) (f : F) {all : List ℕ} where
  -- none of an empty list, and else the first with the least key
  pub least_from_min_by_key : (key : ℕ → ℕ) (r : Option ℕ) → PicksMinByKey steps g nat_cmp s f r → ActsAsAt g f key
      → YieldsList steps (λ x. x) s all → MatchOption r (least_of key all ≡ 0) (λ y. Memᴰ y all × (y ≡ least_of key all))
  least_from_min_by_key key r ran acts road = least_of-item key all r (min_by_key_is key g f acts r ran road)

-- it is what is picked, and 0 if there is none
pub least_or_none : (key : ℕ → ℕ) (vs : List ℕ) → unwrap_or (least_item key vs) 0 ≡ least_of key vs
unfolding least_of
least_or_none key [] = refl
least_or_none key (v ∷ vs) = refl

module _ (key : ℕ → ℕ) where
  -- the least key of a list is the lesser of the first one and the least of the others
  first-others : (x y : ℕ) (ys : List ℕ) → key (first_least key x (y ∷ ys)) ≡ min (key x) (key (first_least key y ys))
  unfolding first_least
  first-others x y ys = go (leb (key x) (key (first_least key y ys))) refl
    where
      go : (b : Bool) → leb (key x) (key (first_least key y ys)) ≡ b
          → key (cond b x (first_least key y ys)) ≡ min (key x) (key (first_least key y ys))
      go true e = omega (arith, leb-true (key x) (key (first_least key y ys)) e)
      go false e = omega (arith, leb-false (key x) (key (first_least key y ys)) e)

  -- the least of a number and the keys of a list is the lesser of that number and the least key
  least_folded : (k y : ℕ) (ys : List ℕ) → fold min k (map key (y ∷ ys)) ≡ min k (key (first_least key y ys))
  unfolding first_least
  least_folded k y [] = refl
  least_folded k y (z ∷ zs) =
      least_folded (min k (key y)) z zs
      ∙ let others = first-others y z zs in omega arith

  -- `min` of the keys of a list gives the least key
  pub least_from_min : (xs : List ℕ) → reduce min (map key xs) ≡ least_key key xs
  unfolding least_key first_least
  least_from_min [] = refl
  least_from_min (x ∷ []) = refl
  least_from_min (x ∷ y ∷ ys) = ap Some (least_folded (key x) y ys ∙ sym (first-others x y ys))
