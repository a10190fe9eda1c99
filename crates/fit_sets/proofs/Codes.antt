-- States that a call is handed and answers, read back by their bits, and how far two of them can lie apart.
use Prim.Native.Nat.{◌≤◌, ◌^◌}
use mir.Facts.{to_z-of_z}
use mir.Syntax.{w32}
use mir.Val.{SFits}
use lib.IntN.{ℤ}
use lib.Signed.{nat_abs-le}
use Rattle.difference_form.specs.Rows.{apart}
use Rattle.difference_form.proofs.Laws.Codes.{apart-most}

-- states of 32 bits are at most 2 ^ 32 apart
pub apart_within : (a b : ℤ) → SFits w32 a → SFits w32 b → apart a b ≤ 2 ^ 32
apart_within a b first second = apart-most (2 ^ 31) a b (nat_abs-le a first.sfits) (nat_abs-le b second.sfits)

-- what the check wants for a function that calls what its definition names
pub ruleset by_bits = (to_z-of_z, apart_within)
