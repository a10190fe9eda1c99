-- The form of a number, test by test, and the number that a fold over its digits says.
use mathlib.Core.Path.{◌≡◌, refl, sym, ap, ap₂, ◌∙◌}
use mathlib.Core.Bool.{Bool, true, false, not, ◌&&◌}
use mathlib.Core.List.{List, [], ◌∷◌}
use Prim.Native.Nat.{ℕ, ◌+◌, ◌-◌, ◌*◌, ◌^◌, ◌≤◌, ◌<◌, min}
use native.Mathlib.Omega.{arith}
use borrow.Author.Tests.{eq-eqb, leb-true}
use lib.Dec.{leb, eqb}
use lib.ListN.{length, get_or}
use Rattle.std.specs.Char.{is_ascii_digit}
use Rattle.std.specs.List.{list_all, fold}
use Rattle.text_form.specs.Decimal.{number_form, number_of, number_from, no_leading_zero, zero_digit}
use Rattle.file_text.specs.Steps.{NumberSaid}
use Rattle.text_form.proofs.Digits.{form_short, form_digits, leading_one, leading_more}
use Rattle.text_form.proofs.Digits.{digit_high, number_more_small, number_small}
use Rattle.lists.proofs.Both.{and_left}
use Rattle.lists.specs.Tests.{every}
use Rattle.lists.proofs.Every.{every-head, every-tail}
use Rattle.text_form.specs.Bytes.{is_digit}
use Rattle.text_form.proofs.Slices.{every_all}

-- the form of a number, by its length
module _ (text : List ℕ) (some : Bool) (s : some ≡ leb 1 (length text) && leb (length text) 6) where
  -- then its digits decide, and then the first one
  decided : number_form text ≡ some && (list_all is_ascii_digit text && no_leading_zero text)
  unfolding number_form is_digit
  decided = ap₂ (λ x y. x && (y && no_leading_zero text)) (sym s) (sym (every_all is_ascii_digit text))

  -- it has no digit, or too many
  pub bad_length : some ≡ false → false ≡ number_form text
  bad_length e = sym (decided ∙ ap (λ x. x && (list_all is_ascii_digit text && no_leading_zero text)) e)

  -- its length is right
  module _ (yes : some ≡ true) (all : Bool) (a : all ≡ list_all is_ascii_digit text) where
    -- its bytes decide
    bytes_decide : number_form text ≡ all && no_leading_zero text
    bytes_decide = decided ∙ ap₂ (λ x y. x && (y && no_leading_zero text)) yes (sym a)

    -- not all of them are digits
    pub no_digit : all ≡ false → false ≡ number_form text
    no_digit e = sym (bytes_decide ∙ ap (λ x. x && no_leading_zero text) e)

    module _ (digits : all ≡ true) where
      -- the first digit decides
      first_decides : number_form text ≡ no_leading_zero text
      first_decides = bytes_decide ∙ ap (λ x. x && no_leading_zero text) digits

      -- one digit
      pub one_digit : length text ≡ 1 → eqb (length text) 1 ≡ number_form text
      one_digit e = eq-eqb (length text) 1 e ∙ sym (first_decides ∙ leading_one text e)

      -- several digits
      pub several_digits : (length text ≡ 1 → ⊥) → not (eqb (get_or text 0 0) 48) ≡ number_form text
      several_digits e =
          let long : 1 ≤ length text = leb-true 1 (length text) (and_left (leb 1 (length text)) (leb (length text) 6) (sym s ∙ yes)) in
          sym (first_decides ∙ leading_more text long e)

-- a digit behind a number, as a fold takes it: no number of a file comes near the bound
abbrev pub with_digit : ℕ → ℕ → ℕ
with_digit number digit = min (min (number * 10) (2 ^ 64 - 1) + (digit - zero_digit)) (2 ^ 64 - 1)

-- digits behind a number of i digits, six together at most
digits_folded : (digits : List ℕ) (number i : ℕ) → every is_digit digits ≡ true → number < 10 ^ i → i + length digits ≤ 6
    → (fold with_digit number digits ≡ number_from number digits) × (number_from number digits < 1000000)
unfolding number_from
digits_folded [] number i form h few = (refl, number_small number i h (omega arith))
digits_folded (digit ∷ digits) number i form h few =
    let small : number < 1000000 = number_small number i h (omega arith) in
    let high : digit ≤ 57 = digit_high digit (every-head is_digit digit digits form) in
    let same : with_digit number digit ≡ number * 10 + (digit - zero_digit) = omega arith in
    let behind = digits_folded digits (number * 10 + (digit - zero_digit)) (i + 1) (every-tail is_digit digit digits form)
    (number_more_small number digit i h high) (omega arith) in
    (ap (λ k. fold with_digit k digits) same ∙ behind.0, behind.1)

-- the digits of a text of the form of a number
pub all_said : (text : List ℕ) (number : ℕ) → number_form text ≡ true → number ≡ fold with_digit 0 text → NumberSaid text number
unfolding number_of
all_said text number form e =
    let told = digits_folded text 0 0 (form_digits text form) (omega arith) (omega (arith, form_short text form)) in
    record { is = e ∙ told.0; small = omega (arith, e, told.0, told.1) }
