-- `input::number` meets its contract: each byte is below 256.
use native.Mathlib.Omega.{arith}
use Prim.Native.Nat.{ℕ, ◌<◌}
use lib.ListN.{get_or}
use Rattle.std.proofs.Common.{rules}
use Rattle.input.proofs.number.Goals as goal

pub returns : goal.returns
returns c =
    let byte : (i : ℕ) → get_or c.args.bytes i 0 < 256 = search rules in
    omega (arith, c.from_be_bytes.ensures, byte 0, byte 1, byte 2)
