-- Names and numbers hold neither a tab nor a line feed: each of their bytes is above both.
use mathlib.Core.Path.{◌≡◌, refl}
use mathlib.Core.List.{List, [], ◌∷◌, map}
use mathlib.Core.Bool.{Bool, true, false, ◌&&◌, ◌||◌, not}
use Prim.Native.Nat.{ℕ, ◌≤◌}
use native.Mathlib.Omega.{arith}
use lib.Dec.{leb, ltb, eqb}
use lib.IntN.{ℤ, pos, negsuc}
use borrow.Author.Tests.{lt-ltb, ltb-true, leb-true, eqb-true, ne_eqb}
use Rattle.lists.specs.Tests.{every}
use Rattle.text_form.specs.Bytes.{tab, line_feed, minus, underscore, is_digit, is_letter, in_name, joined_by}
use Rattle.text_form.specs.Decimal.{digits_of, decimal}
use Rattle.text_form.specs.Lines.{fields_of}
use Rattle.lists.proofs.Both.{and_left, or_cases}
use Rattle.lists.proofs.Every.{every-head, every-tail, every-cons, every_append, every_weaker}
use Rattle.text_form.proofs.Parts.{lacks, pieces_joined}
use Rattle.text_form.proofs.Digits.{digit_low, digits_are_digits}

-- every byte of a text is above tab and line feed
abbrev pub plain : List ℕ → Bool
plain = every (ltb line_feed)

-- a plain text lacks a separator
plain_lacks : (separator : ℕ) → separator ≤ line_feed → (text : List ℕ) → plain text ≡ true → lacks separator text ≡ true
plain_lacks separator low =
    every_weaker (ltb line_feed) (λ byte. not (eqb byte separator))
    (λ byte e.
    let above = ltb-true line_feed byte e in
    rw (ne_eqb byte separator (λ same. omega arith)))

-- a digit is above tab and line feed
digit_plain : (byte : ℕ) → is_digit byte ≡ true → ltb line_feed byte ≡ true
digit_plain byte e = lt-ltb line_feed byte (omega (arith, digit_low byte e))

-- so is a letter
pub letter_plain : (byte : ℕ) → is_letter byte ≡ true → ltb line_feed byte ≡ true
unfolding is_letter
letter_plain byte e =
    or_cases (leb 65 byte && leb byte 90) (leb 97 byte && leb byte 122) e
    (λ upper. lt-ltb line_feed byte (omega (arith, leb-true 65 byte (and_left (leb 65 byte) (leb byte 90) upper))))
    (λ lower. lt-ltb line_feed byte (omega (arith, leb-true 97 byte (and_left (leb 97 byte) (leb byte 122) lower))))

-- and so is each byte of a name
pub in_name-plain : (byte : ℕ) → in_name byte ≡ true → ltb line_feed byte ≡ true
unfolding in_name
in_name-plain byte e =
    or_cases (is_letter byte) (is_digit byte || eqb byte underscore) e (letter_plain byte)
    (λ other. or_cases (is_digit byte) (eqb byte underscore) other (digit_plain byte)
    (λ same. lt-ltb line_feed byte (omega (arith, eqb-true byte underscore same))))

-- the digits of a number are plain
pub digits_plain : (n : ℕ) → plain (digits_of n) ≡ true
digits_plain n = every_weaker is_digit (ltb line_feed) digit_plain (digits_of n) (digits_are_digits n)

-- a code in decimal is plain
pub decimal-plain : (code : ℤ) → plain (decimal code) ≡ true
unfolding decimal
decimal-plain (pos n) = digits_plain n
decimal-plain (negsuc n) = every-cons (ltb line_feed) minus (digits_of _) refl (digits_plain _)

-- codes in decimal are plain
pub decimals_plain : (codes : List ℤ) → every plain (map decimal codes) ≡ true
unfolding every
decimals_plain [] = refl
decimals_plain (code ∷ codes) = every-cons plain (decimal code) (map decimal codes) (decimal-plain code) (decimals_plain codes)

-- pieces joined by another byte lack a separator that they lacked
joined_lacks : (separator by : ℕ) → eqb by separator ≡ false → (pieces : List (List ℕ))
    → every (lacks separator) pieces ≡ true → lacks separator (joined_by by pieces) ≡ true
unfolding every joined_by
joined_lacks separator by other [] e = refl
joined_lacks separator by other (piece ∷ []) e = every-head (lacks separator) piece [] e
joined_lacks separator by other (piece ∷ next ∷ pieces) e =
    every_append (λ byte. not (eqb byte separator)) piece (by ∷ joined_by by (next ∷ pieces))
    (every-head (lacks separator) piece (next ∷ pieces) e)
    (rw other (joined_lacks separator by other (next ∷ pieces) (every-tail (lacks separator) piece (next ∷ pieces) e)))

-- a line of plain fields: its fields are found again, and it holds no line feed
module _ (field : List ℕ) (fields : List (List ℕ)) (e : every plain (field ∷ fields) ≡ true) where
  -- its fields are found again
  pub line_fields : fields_of (joined_by tab (field ∷ fields)) ≡ field ∷ fields
  unfolding fields_of
  line_fields =
      pieces_joined tab field fields (every_weaker plain (lacks tab) (plain_lacks tab (omega arith)) (field ∷ fields) e)

  -- it holds no line feed
  pub line_lacks : lacks line_feed (joined_by tab (field ∷ fields)) ≡ true
  line_lacks =
      joined_lacks line_feed tab refl (field ∷ fields)
      (every_weaker plain (lacks line_feed) (plain_lacks line_feed (omega arith)) (field ∷ fields) e)
