-- The code that a text says: a number, or a minus and a number that is not zero.
use mathlib.Core.Path.{◌≡◌, refl, sym, ap, ◌∙◌}
use mathlib.Core.Bool.{true, false, ◌&&◌, and-true}
use mathlib.Core.List.{List, [], ◌∷◌}
use Prim.Native.Nat.{ℕ, zero, suc, ◌<◌, ◌≤◌}
use native.Mathlib.Omega.{arith}
use borrow.Author.Rules.{sfits_of}
use borrow.Author.Tests.{le-leb}
use lib.Dec.{leb, eqb}
use lib.ListN.{take, drop}
use Rattle.std.specs.Prelude.{None, Some}
use Rattle.std.specs.Cmp.Lexicographic.{pointwise}
use Rattle.text_form.specs.Decimal.{number_form, number_of, number_from, code_form, code_of}
use Rattle.text_form.specs.Bytes.{minus}
use lib.IntN.{pos, neg_ℤ, ◌-ℤ◌, +ℤ_idl}
use mir.Facts.{to_z_pos, to_z-of_z}
use mir.Val.{to_z, of_z, SFits}
use mir.Syntax.{w32}
use Rattle.file_text.specs.Steps.{read_as}
use Rattle.file_text.proofs.ReadAs.{read_formed, read_formless, formed_read, formless_read}

-- a text that does not begin with a minus
module _ (text : List ℕ) (m : pointwise eqb (take 1 text) (minus ∷ []) ≡ false) where
  -- it has the form of a code if it has that of a number
  plain_form : code_form text ≡ number_form text
  unfolding code_form number_form
  plain_form = by text m
    where
      by : (xs : List ℕ) → pointwise eqb (take 1 xs) (minus ∷ []) ≡ false → code_form xs ≡ number_form xs
      by [] e = refl
      by (byte ∷ bytes) e = rw (sym (and-true (eqb byte minus)) ∙ e) refl

  -- and then says that number
  plain_code : code_of text ≡ pos (number_of text)
  unfolding code_of number_of number_from
  plain_code = by text m
    where
      by : (xs : List ℕ) → pointwise eqb (take 1 xs) (minus ∷ []) ≡ false → code_of xs ≡ pos (number_of xs)
      by [] e = refl
      by (byte ∷ bytes) e = rw (sym (and-true (eqb byte minus)) ∙ e) refl

  -- it is no number
  pub plain_none : None ≡ read_as number_form number_of text → None ≡ read_as code_form code_of text
  plain_none e = read_formless code_form code_of text (plain_form ∙ formless_read number_form number_of text e)

  -- it is one
  pub plain_some : (size : ℕ) → Some size ≡ read_as number_form number_of text → Some (pos size) ≡ read_as code_form code_of text
  plain_some size e =
      let read = formed_read number_form number_of text size e in
      read_formed code_form code_of text (pos size) (plain_form ∙ read.0) (ap pos read.1 ∙ sym plain_code)

-- one that begins with a minus, and what stands behind it
module _ (text digits : List ℕ) (m : pointwise eqb (take 1 text) (minus ∷ []) ≡ true) (d : digits ≡ drop 1 text) where
  -- it has the form of a code if a number stands there that is not zero
  minus_form : code_form text ≡ number_form digits && leb 1 (number_of digits)
  unfolding code_form
  minus_form = by text m ∙ ap (λ xs. number_form xs && leb 1 (number_of xs)) (sym d)
    where
      by : (xs : List ℕ) → pointwise eqb (take 1 xs) (minus ∷ []) ≡ true → code_form xs ≡ number_form (drop 1 xs) && leb 1 (number_of (drop 1 xs))
      by [] e = cc
      by (byte ∷ bytes) e = rw (sym (and-true (eqb byte minus)) ∙ e) refl

  -- and then says the number below zero
  minus_code : code_of text ≡ neg_ℤ (pos (number_of digits))
  unfolding code_of
  minus_code = by text m ∙ ap (λ xs. neg_ℤ (pos (number_of xs))) (sym d)
    where
      by : (xs : List ℕ) → pointwise eqb (take 1 xs) (minus ∷ []) ≡ true → code_of xs ≡ neg_ℤ (pos (number_of (drop 1 xs)))
      by [] e = cc
      by (byte ∷ bytes) e = rw (sym (and-true (eqb byte minus)) ∙ e) refl

  -- no number stands there
  pub minus_none : None ≡ read_as number_form number_of digits → None ≡ read_as code_form code_of text
  minus_none e =
      read_formless code_form code_of text
      (minus_form ∙ ap (λ b. b && leb 1 (number_of digits)) (formless_read number_form number_of digits e))

  -- a number stands there
  module _ (size : ℕ) (e : Some size ≡ read_as number_form number_of digits) where
    -- it decides
    size_decides : code_form text ≡ leb 1 size
    size_decides =
        let read = formed_read number_form number_of digits size e in
        minus_form ∙ ap (λ b. b && leb 1 (number_of digits)) read.0 ∙ ap (leb 1) (sym read.1)

    -- it is zero
    pub minus_zero : size ≡ 0 → None ≡ read_as code_form code_of text
    minus_zero z = read_formless code_form code_of text (size_decides ∙ ap (leb 1) z)

    -- it is not
    pub minus_some : (size ≡ 0 → ⊥) → Some (neg_ℤ (pos size)) ≡ read_as code_form code_of text
    minus_some z =
        let read = formed_read number_form number_of digits size e in
        let some : 1 ≤ size = omega arith in
        read_formed code_form code_of text (neg_ℤ (pos size)) (size_decides ∙ le-leb 1 size some)
        (ap (λ n. neg_ℤ (pos n)) read.1 ∙ sym minus_code)

-- zero less a number read as a signed one
pub negation : (n : ℕ) → n < 1000000 → pos 0 -ℤ to_z w32 n ≡ neg_ℤ (pos n)
negation n h = ap (λ z. pos 0 -ℤ z) (to_z_pos w32 {n = n} (omega arith)) ∙ +ℤ_idl (neg_ℤ (pos n))

-- it fits
pub negation_fits : (n : ℕ) → n < 1000000 → SFits w32 (neg_ℤ (pos n))
negation_fits zero h = sfits_of (omega arith)
negation_fits (suc n) h = sfits_of (omega arith)

-- so zero less a number is the number below zero
pub negated : (n : ℕ) → n < 1000000 → to_z w32 (of_z w32 (pos 0 -ℤ to_z w32 n)) ≡ neg_ℤ (pos n)
negated n h = rw (negation n h) (to_z-of_z (negation_fits n h))
