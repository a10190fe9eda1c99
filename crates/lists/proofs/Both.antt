-- Two tests at once: when they pass, and the facts that they tell; and two in a row as a function answers them, the second put only where
-- the first leaves it open.
use mathlib.Core.Path.{◌≡◌, refl, sym, ap, ◌∙◌}
use mathlib.Core.Logic.{◌↔◌, ◌⊎◌, inl, inr}
use mathlib.Core.Bool.{Bool, true, false, not, ◌&&◌, ◌||◌, and-eq-true_iff, false≢true}
use Prim.Native.Nat.{ℕ, ◌≤◌}
use lib.Dec.{leb, eqb}
use borrow.Author.Tests.{eqb-true, eqb-false, eq-eqb, ne_eqb, leb-true, le-leb}

-- of two tests that both pass, the first passes
pub and_left : (a b : Bool) → a && b ≡ true → a ≡ true
and_left a b e = ((and-eq-true_iff a b).0 e).0

-- and the second
pub and_right : (a b : Bool) → a && b ≡ true → b ≡ true
and_right a b e = ((and-eq-true_iff a b).0 e).1

-- and two tests that pass both pass together
pub and_both : {a b : Bool} → a ≡ true → b ≡ true → a && b ≡ true
and_both {a} {b} p q = (and-eq-true_iff a b).1 (p, q)

-- one of two tests passes
pub or_cases : {C : Type 0} (a b : Bool) → a || b ≡ true → (a ≡ true → C) → (b ≡ true → C) → C
or_cases true b e f g = f refl
or_cases false b e f g = g e

-- one of two tests is enough: the first
pub or_left : (a b : Bool) → a ≡ true → a || b ≡ true
or_left true b e = refl
or_left false b e = absurd (false≢true e)

-- or the second
pub or_right : (a b : Bool) → b ≡ true → a || b ≡ true
or_right true b e = refl
or_right false b e = e

-- the test for "at most" and its fact
pub leb_iff : (a b : ℕ) → (leb a b ≡ true) ↔ (a ≤ b)
leb_iff a b = (leb-true a b, le-leb a b)

-- the test for "equal" and its fact
pub eqb_iff : (a b : ℕ) → (eqb a b ≡ true) ↔ (a ≡ b)
eqb_iff a b = (eqb-true a b, eq-eqb a b)

-- a test of equality is the same either way round
pub eqb-sym : (a b : ℕ) → eqb a b ≡ eqb b a
eqb-sym a b = go (eqb a b) refl
  where
    go : (t : Bool) → eqb a b ≡ t → t ≡ eqb b a
    go true e = sym (eq-eqb b a (sym (eqb-true a b e)))
    go false e = sym (ne_eqb b a (λ p. eqb-false a b e (sym p)))

module _ {a b : Bool} {A B : Type 0} (p : (a ≡ true) ↔ A) (q : (b ≡ true) ↔ B) where
  -- both of two tests pass exactly if both facts hold
  pub and_iff : (a && b ≡ true) ↔ (A × B)
  and_iff = (λ e. (p.0 (and_left a b e), q.0 (and_right a b e)), λ h. and_both (p.1 h.0) (q.1 h.1))

  -- one of two tests passes exactly if one of the facts holds
  pub or_iff : (a || b ≡ true) ↔ (A ⊎ B)
  or_iff = (λ e. or_cases a b e (λ x. inl (p.0 x)) (λ y. inr (q.0 y)), either)
    where
      either : A ⊎ B → a || b ≡ true
      either (inl x) = or_left a b (p.1 x)
      either (inr y) = or_right a b (q.1 y)

-- one test fails or another passes exactly if the second fact follows from the first
pub implies_iff : {a b : Bool} {A B : Type 0} → (a ≡ true) ↔ A → (b ≡ true) ↔ B → ((not a || b) ≡ true) ↔ (A → B)
implies_iff {a} {b} {A} {B} p q = (then a p, holds a p)
  where
    then : (a : Bool) → (a ≡ true) ↔ A → (not a || b) ≡ true → A → B
    then true p e x = q.0 e
    then false p e x = absurd (false≢true (p.1 x))

    holds : (a : Bool) → (a ≡ true) ↔ A → (A → B) → (not a || b) ≡ true
    holds true p h = q.1 (h (p.0 refl))
    holds false p h = refl

module _ {a r : Bool} (b : Bool) where
  -- where the first is true, the second answers both
  pub and_second : {s : Bool} → r ≡ true → r ≡ a → s ≡ b → s ≡ a && b
  and_second t ea eb = eb ∙ ap (λ x. x && b) (sym t ∙ ea)

  -- where the first is false, so are both
  pub and_first : r ≡ false → r ≡ a → r ≡ a && b
  and_first f ea = f ∙ ap (λ x. x && b) (sym f ∙ ea)

  -- where the first is true, so is one of the two
  pub or_first : r ≡ true → r ≡ a → r ≡ a || b
  or_first t ea = t ∙ ap (λ x. x || b) (sym t ∙ ea)

  -- where the first is false, the second answers for the two
  pub or_second : {s : Bool} → r ≡ false → r ≡ a → s ≡ b → s ≡ a || b
  or_second f ea eb = eb ∙ ap (λ x. x || b) (sym f ∙ ea)

-- two tests that follow from each other are the same
pub same_test : (a b : Bool) → (a ≡ true → b ≡ true) → (b ≡ true → a ≡ true) → a ≡ b
same_test true b f g = sym (f refl)
same_test false true f g = g refl
same_test false false f g = refl
