-- Whole numbers in decimal: how they are written, which form is right, and what number a text of that form says.
use Rattle.std.specs.Prelude.{List, [], ◌∷◌, ◌++◌, Bool, true, false, ◌&&◌, not, cond, ℕ, zero, suc, ◌+◌, ◌-◌, ◌*◌, ◌/◌, ◌%◌, leb, ltb, eqb, ℤ, pos, negsuc, neg_ℤ, length}
use Rattle.lists.specs.Tests.{every}
use Rattle.text_form.specs.Bytes.{minus, is_digit}

-- `0`
abbrev pub zero_digit : ℕ
zero_digit = 48

-- the digit that says a number below ten
abbrev pub digit_for : ℕ → ℕ
digit_for n = zero_digit + n

-- the digits of n: those of n / 10 and behind them the last one; at most `steps` divisions are made
unfoldable pub digits_in : ℕ → ℕ → List ℕ
digits_in zero n = digit_for n ∷ []
digits_in (suc steps) n =
    elim (ltb n 10) [
      | true ↦ digit_for n ∷ []
      | false ↦ digits_in steps (n / 10) ++ (digit_for (n % 10) ∷ [])
    ]

-- n in decimal, with no leading zero: n divisions are more than enough
unfoldable pub digits_of : ℕ → List ℕ
digits_of n = digits_in n n

-- a whole number in decimal, with a minus if it is below zero
unfoldable pub decimal : ℤ → List ℕ
decimal (pos n) = digits_of n
decimal (negsuc n) = minus ∷ digits_of (suc n)

-- no leading zero; zero itself is `0`
unfoldable pub no_leading_zero : List ℕ → Bool
no_leading_zero [] = true
no_leading_zero (digit ∷ []) = true
no_leading_zero (digit ∷ next ∷ digits) = not (eqb digit zero_digit)

-- a number has at most 6 digits, so it is below a million
abbrev pub most_digits : ℕ
most_digits = 6

-- the form of the numbers n and m: 1 to 6 decimal digits, no leading zero
unfoldable pub number_form : List ℕ → Bool
number_form text = (leb 1 (length text) && leb (length text) most_digits) && (every is_digit text && no_leading_zero text)

-- the number that digits say behind others that say `before`
unfoldable pub number_from : ℕ → List ℕ → ℕ
number_from before [] = before
number_from before (digit ∷ digits) = number_from (before * 10 + (digit - zero_digit)) digits

-- the number that digits say
unfoldable pub number_of : List ℕ → ℕ
number_of digits = number_from 0 digits

-- the form of a code: an optional minus, then a number; no `-0`
unfoldable pub code_form : List ℕ → Bool
code_form [] = false
code_form (byte ∷ bytes) =
    cond (eqb byte minus) (number_form bytes && leb 1 (number_of bytes)) (number_form (byte ∷ bytes))

-- the code that a text of this form says
unfoldable pub code_of : List ℕ → ℤ
code_of [] = pos 0
code_of (byte ∷ bytes) =
    cond (eqb byte minus) (neg_ℤ (pos (number_of bytes))) (pos (number_of (byte ∷ bytes)))
