-- `difference::rows::difference` meets its contract: the two sums make the difference, each of at most 2 ^ 40 a character.
use mathlib.Core.Path.{◌≡◌, ap₂, ◌∙◌}
use Prim.Native.Nat.{◌+◌, ◌-◌, ◌*◌, ◌≤◌, min}
use native.Mathlib.Omega.{arith}
use lib.ListN.{length, take, drop, length-take}
use Rattle.difference_form.specs.Rows.{difference}
use Rattle.difference_form.proofs.Laws.Splits.{difference-parted}
use Rattle.difference.proofs.rows.difference.Goals as goal

-- the two sums make the difference
is : (c : goal.After-weighed-2)
    → c.weighed.result + c.weighed-2.result ≡ difference c.args.weights.now (take 128 c.args.xs.now) (take 128 c.args.ys.now)
is c =
    let count = c.min-count.result in
    let known = c.min-known.result in
    let whole : known + (count - known) ≡ min (min (length c.args.xs.now) (length c.args.ys.now)) 128 =
    omega (arith, c.min.ensures, c.min-count.ensures, c.min-known.ensures) in
    ap₂ ◌+◌ c.weighed.ensures.is c.weighed-2.ensures.is
    ∙ difference-parted 128 known (count - known) c.args.weights.now c.args.xs.now c.args.ys.now whole (omega (arith, c.min-known.ensures))

-- each is at most 2 ^ 40 a character
most : (c : goal.After-weighed-2) → c.weighed.result + c.weighed-2.result ≤ 128 * 1099511627776
most c =
    let count = c.min-count.result in
    let known = c.min-known.result in
    omega (
      arith,
      c.weighed.ensures.most,
      c.weighed-2.ensures.most,
      length-take known c.args.xs.now,
      length-take (count - known) (drop known c.args.xs.now),
    )

pub overflow_add-result : goal.overflow_add-result
overflow_add-result c = record { fits = omega (arith, most c) }

pub returns : goal.returns
returns c = record { is = is c; most = most c }
