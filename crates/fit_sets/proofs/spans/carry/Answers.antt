-- What the check leaves of `fit_sets::spans::carry`.
use Rattle.std.proofs.Common.{◌≡◌, ◌<◌, ◌+◌, get_or, take, drop, ℤ, pos, ◌∙◌, ap₂, arith, length-set, length-drop, to_z-of_z, w32, to_z, of_z}
use borrow.Author.Rules.{sfits_of}
use Rattle.fit_sets.proofs.Carrying.{carry_next, carry_end}
use Rattle.fit_sets.proofs.spans.carry.Goals as goal

pub loop-here-preserved : goal.loop-here-preserved
loop-here-preserved c =
    let loop = c.loop-here in
    let inv = loop.invariant in
    let at : ℤ = get_or loop.here-items loop.here-index (pos 0) in
    let here : to_z w32 (of_z w32 at) ≡ at = to_z-of_z {w = w32} (sfits_of c.old-1.given) in
    let low = rw here at c.lower.ensures in
    let high = rw here at c.higher-on.ensures in (
      simp length-set inv.0,
      rw (to_z-of_z {w = w32} (sfits_of c.lower.type_inv), to_z-of_z {w = w32} (sfits_of c.higher-on.type_inv), low, high)
          (carry_next loop.here-items _ _ loop.here-index (omega arith) inv.1),
    )

pub returns : goal.returns
returns c =
    let loop = c.loop-here in
    let inv = loop.invariant in
    let sorted = c.args.sorted in
    let rest = length-drop sorted.count sorted.items in
    let some : sorted.count < 6 = c.requires in
    let count : c.push.new.self.count ≡ sorted.count + 1 = c.push.ensures.count ∙ omega arith in
    record {
      count = count;
      states =
          ap₂ take count c.push.ensures.items
          ∙ rw (to_z-of_z c.ranges.state) at (carry_end loop.here-items _ _ loop.here-index sorted.count (drop sorted.count sorted.items) inv.0
          (omega arith) (omega arith) inv.1);
    }
