-- Codes in decimal: what is written is read back, and what is read is written back.
use mathlib.Core.Path.{◌≡◌, refl, sym, ap, ◌∙◌}
use mathlib.Core.List.{List, [], ◌∷◌}
use mathlib.Core.Bool.{Bool, true, false, ◌&&◌, false≢true}
use Prim.Native.Nat.{ℕ, zero, suc, ◌≤◌}
use native.Mathlib.Omega.{arith}
use lib.Dec.{leb, eqb}
use lib.IntN.{ℤ, pos, negsuc, neg_ℤ}
use borrow.Author.Tests.{leb-true, ne_eqb, eqb-true}
use Rattle.lists.specs.Tests.{every}
use Rattle.text_form.specs.Bytes.{minus, is_digit}
use Rattle.text_form.specs.Decimal.{digits_of, decimal, number_form, number_of, code_form, code_of}
use Rattle.lists.proofs.Both.{and_left, and_right}
use Rattle.lists.proofs.Every.{every-head}
use Rattle.text_form.proofs.Digits.{digit_low, first_digit, digits_are_digits, number_of_digits, digits_of_number}

-- a text that begins with another byte than a minus is read as a number
module _ (byte : ℕ) (bytes : List ℕ) (other : eqb byte minus ≡ false) where
  -- its form is that of a number
  plain_form : code_form (byte ∷ bytes) ≡ number_form (byte ∷ bytes)
  unfolding code_form
  plain_form = rw other

  -- its code is that number
  plain_code : code_of (byte ∷ bytes) ≡ pos (number_of (byte ∷ bytes))
  unfolding code_of
  plain_code = rw other

-- digits begin with no minus
digit_no_minus : (digit : ℕ) (digits : List ℕ) → every is_digit (digit ∷ digits) ≡ true → eqb digit minus ≡ false
digit_no_minus digit digits e =
    let low = digit_low digit (every-head is_digit digit digits e) in
    ne_eqb digit minus (λ same. omega arith)

-- the digits of a number, read as a code
module _ (n : ℕ) where
  -- they begin with no minus
  first_no_minus : eqb (first_digit n).0 minus ≡ false
  first_no_minus = digit_no_minus (first_digit n).0 (first_digit n).1 (rw (first_digit n).2 at (digits_are_digits n))

  -- their form as a code is their form as a number, and they say the same
  pub digits_code_form : code_form (digits_of n) ≡ number_form (digits_of n)
  digits_code_form = rw (first_digit n).2 (plain_form (first_digit n).0 (first_digit n).1 first_no_minus)

  -- and they say the number
  digits_code : code_of (digits_of n) ≡ pos n
  digits_code =
      ap code_of (first_digit n).2
      ∙ plain_code (first_digit n).0 (first_digit n).1 first_no_minus
      ∙ ap (λ text. pos (number_of text)) (sym (first_digit n).2)
      ∙ ap pos (number_of_digits n)

-- a code is read back from what is written
pub code_of-decimal : (code : ℤ) → code_of (decimal code) ≡ code
unfolding decimal code_of
code_of-decimal (pos n) = digits_code n
code_of-decimal (negsuc n) = ap (λ number. neg_ℤ (pos number)) (number_of_digits (suc n))

-- a number that is not negative is written by its digits, a negative one with a minus
decimal-plain : (number : ℕ) → decimal (pos number) ≡ digits_of number
unfolding decimal
decimal-plain number = refl

-- below zero it is written with a minus
decimal_negative : (number : ℕ) → 1 ≤ number → decimal (neg_ℤ (pos number)) ≡ minus ∷ digits_of number
unfolding decimal
decimal_negative zero h = absurd (omega arith)
decimal_negative (suc n) h = refl

-- a text of a code's form is what is written for the code that it says
pub decimal_of_code : (text : List ℕ) → code_form text ≡ true → decimal (code_of text) ≡ text
unfolding code_form code_of
decimal_of_code [] e = absurd (false≢true e)
decimal_of_code (byte ∷ bytes) e = by (eqb byte minus) refl
  where
    by : (t : Bool) → eqb byte minus ≡ t → decimal (code_of (byte ∷ bytes)) ≡ byte ∷ bytes
    by true same =
        let form : number_form bytes && leb 1 (number_of bytes) ≡ true = rw same at e in
        let some = leb-true 1 (number_of bytes) (and_right (number_form bytes) (leb 1 (number_of bytes)) form) in
        ap decimal (rw same)
        ∙ decimal_negative (number_of bytes) some
        ∙ ap (◌∷◌ minus) (digits_of_number bytes (and_left (number_form bytes) _ form))
        ∙ ap (λ first. first ∷ bytes) (sym (eqb-true byte minus same))
    by false other =
        let form : number_form (byte ∷ bytes) ≡ true = rw other at e in
        ap decimal (plain_code byte bytes other) ∙ decimal-plain (number_of (byte ∷ bytes)) ∙ digits_of_number (byte ∷ bytes) form
