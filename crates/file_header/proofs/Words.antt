-- A word of one letter.
use mathlib.Core.Path.{◌≡◌}
use mathlib.Core.Bool.{◌&&◌}
use mathlib.Core.List.{List, [], ◌∷◌}
use Prim.Native.Nat.{ℕ}
use native.Mathlib.Omega.{arith}
use lib.Dec.{eqb}
use lib.ListN.{length, get_or}
use Rattle.lists.specs.Tests.{same_numbers as same_text}

-- a text is a letter exactly if it has one byte, and this is the letter
pub letter_read : (text : List ℕ) (letter : ℕ) → same_text text (letter ∷ []) ≡ (eqb (length text) 1 && eqb (get_or text 0 0) letter)
unfolding same_text
letter_read [] letter = grind arith
letter_read (byte ∷ []) letter = grind arith
letter_read (byte ∷ next ∷ bytes) letter = grind arith
