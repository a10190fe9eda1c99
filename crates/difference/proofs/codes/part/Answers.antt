-- `difference::codes::part` meets its contract: a weight of 8 bits times two codes of 32 bits apart fits 64, and is at most 2 ^ 40.
use mathlib.Core.Path.{◌≡◌, ap₂}
use Prim.Native.Nat.{◌*◌, ◌≤◌}
use native.Mathlib.Omega.{arith}
use lib.Signed.{nat_abs-le}
use mir.Facts.{to_z-of_z}
use Rattle.difference_form.specs.Rows.{part}
use Rattle.difference_form.proofs.Laws.Weights.{part-most}
use Rattle.difference.proofs.codes.part.Goals as goal

-- the product is the part of the character
product : (c : goal.After-apart) → c.from.result * c.apart.result ≡ part c.args.weight c.args.a c.args.b
unfolding part
product c = ap₂ ◌*◌ c.from.ensures (rw (to_z-of_z c.ranges.a, to_z-of_z c.ranges.b) at c.apart.ensures)

-- and it is at most 2 ^ 40
most : (c : goal.After-apart) → part c.args.weight c.args.a c.args.b ≤ 1099511627776
most c =
    let given = c.ranges in
    part-most c.args.weight c.args.a c.args.b (omega (arith, given.weight.fits)) (nat_abs-le c.args.a given.a.sfits)
    (nat_abs-le c.args.b given.b.sfits)

pub overflow_mul-result : goal.overflow_mul-result
overflow_mul-result c = record { fits = omega (arith, product c, most c) }

pub returns-clause-is : goal.returns-clause-is
returns-clause-is c = product c

pub returns-clause-most : goal.returns-clause-most
returns-clause-most c = rw (product c) (most c)
