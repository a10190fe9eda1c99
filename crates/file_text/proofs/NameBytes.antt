-- The bytes that may stand in a name, in std's words on bytes.
use mathlib.Core.Path.{◌≡◌, refl, sym, ap, ◌∙◌}
use mathlib.Core.Bool.{Bool, true, false, ◌&&◌, ◌||◌}
use Prim.Native.Nat.{ℕ}
use lib.Dec.{leb, eqb}
use Rattle.std.specs.Char.{is_ascii_alphanumeric}
use Rattle.text_form.specs.Bytes.{is_digit, is_letter, in_name}

-- four tests in two orders
reordered : (digit upper lower other : Bool) → ((digit || upper) || lower) || other ≡ (upper || lower) || (digit || other)
reordered true true lower other = refl
reordered true false true other = refl
reordered true false false other = refl
reordered false true lower other = refl
reordered false false true other = refl
reordered false false false other = refl

-- a byte may stand in a name if it is a letter or a digit, or `_`
named : (byte : ℕ) → is_ascii_alphanumeric byte || eqb byte 95 ≡ in_name byte
unfolding in_name is_letter is_digit
named byte = reordered (leb 48 byte && leb byte 57) (leb 65 byte && leb byte 90) (leb 97 byte && leb byte 122) (eqb byte 95)

-- a letter or a digit may
pub alphanumeric : (byte : ℕ) (b : Bool) → b ≡ is_ascii_alphanumeric byte → b ≡ true → b ≡ in_name byte
alphanumeric byte b e t = t ∙ ap (λ x. x || eqb byte 95) (sym t ∙ e) ∙ named byte

-- of the others `_` alone
pub other_byte : (byte : ℕ) (b : Bool) → b ≡ is_ascii_alphanumeric byte → b ≡ false → eqb byte 95 ≡ in_name byte
other_byte byte b e f = ap (λ x. x || eqb byte 95) (sym f ∙ e) ∙ named byte
