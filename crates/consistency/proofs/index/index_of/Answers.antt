-- `consistency::index::index_of` meets its contract: 1000 times the highest floor fits 64 bits. Assumes nothing.
use mathlib.Core.Path.{◌≡◌, refl}
use Prim.Native.Nat.{ℕ, zero, suc, ◌*◌, ◌/◌, ◌%◌, ◌≤◌}
use native.Mathlib.Omega.{arith}
use Rattle.std.proofs.Common.{Some}
use Rattle.consistency_form.specs.Index.{thousand, index}
use Rattle.consistency.proofs.index.index_of.Goals as goal

-- the index of a total that is not 0
divided : (floor total : ℕ) → 1 ≤ total → Some (record { quotient = thousand * floor / total; remainder = thousand * floor % total }) ≡ index floor total
unfolding index
divided floor zero some = absurd (omega arith)
divided floor (suc less) some = refl

pub returns-in_err-checked_div : goal.returns-in_err-checked_div
unfolding index
returns-in_err-checked_div c =
    let none : c.args.total ≡ 0 = omega (arith, c.in_err-checked_div.ensures) in
    record { is = λ small. rw (c.from_residual.ensures, none) refl; above = λ big. c.from_residual.ensures }

pub returns : goal.returns
returns c =
    let div = c.in_ok-checked_div.ensures in
    record {
      is = λ small. rw (div.1, c.in_ok-checked_rem.ensures.1) (divided c.args.floor c.args.total div.0);
      above = λ big. absurd (omega (arith, c.if-floor-gt-MOST_FLOOR.false));
    }
