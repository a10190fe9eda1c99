-- A signed number of 32 bits, read back from its bits, is itself.
use Rattle.std.proofs.Common.{◌≡◌, ℕ, ◌<◌, Bool, true, false, not, eqb, ltb, ℤ, sym, refl, ap, ◌∙◌, ap₂, arith, eqb-true, eq-eqb, true≢false, lt-ltb, to_z-of_z, w32, SFits, to_z, of_z}
use Rattle.difference_form.specs.Rows.{apart}
use Rattle.difference_form.proofs.Laws.Codes.{apart_self, apart-zero}

-- what is said of the number that a number's bits stand for is said of the number
pub of_bit : {A : Type 0} (f : ℤ → A) (a : ℤ) (r : A) → SFits w32 a → r ≡ f (to_z w32 (of_z w32 a)) → r ≡ f a
of_bit f a r fits e = e ∙ ap f (to_z-of_z fits)

-- what is said of the numbers that two numbers' bits stand for is said of the two
pub of_bits : {A : Type 0} (f : ℤ → ℤ → A) (a b : ℤ) (r : A) → SFits w32 a → SFits w32 b →
    r ≡ f (to_z w32 (of_z w32 a)) (to_z w32 (of_z w32 b)) → r ≡ f a b
of_bits f a b r fa fb e = e ∙ ap₂ f (to_z-of_z fa) (to_z-of_z fb)

-- a number that is not 0 is above it
above_zero : (k : ℕ) → (k ≡ 0 → ⊥) → 0 < k
above_zero k h = omega arith

-- two numbers have different bits exactly if they are apart
pub differ : (a b : ℤ) → SFits w32 a → SFits w32 b → not (eqb (of_z w32 a) (of_z w32 b)) ≡ ltb 0 (apart a b)
differ a b fa fb = go (eqb (of_z w32 a) (of_z w32 b)) refl
  where
    go : (t : Bool) → eqb (of_z w32 a) (of_z w32 b) ≡ t → not t ≡ ltb 0 (apart a b)
    go true e =
        let same : a ≡ b = sym (to_z-of_z fa) ∙ ap (to_z w32) (eqb-true _ _ e) ∙ to_z-of_z fb in
        sym (ap (ltb 0) (ap (λ (z : ℤ). apart a z) (sym same) ∙ apart_self a))
    go false e =
        let some = above_zero (apart a b) (λ none. true≢false (sym (eq-eqb _ _ (ap (of_z w32) (apart-zero a b none))) ∙ e)) in
        sym (lt-ltb 0 (apart a b) some)
