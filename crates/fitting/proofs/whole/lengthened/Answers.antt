-- `fitting::whole::lengthened` meets its contract. Assumes nothing.
use Rattle.std.proofs.Common.{◌||◌, ap}
use native.Mathlib.Nat.{mod-eq_of_lt}
use borrow.Author.Rules.{sfits_of}
use Rattle.difference_form.specs.Rows.{part}
use Rattle.fit_form.proofs.Bits.{of_bits, differ}
use Rattle.fitting.proofs.whole.lengthened.Goals as goal

pub returns : goal.returns
returns c =
    let own = sfits_of c.struct_told-1.given.1.1.0.1 in
    let above = sfits_of c.struct_told-2-1.given.1.1.0.1 in
    let step = of_bits (part c.args.weight) _ _ _ own above c.part.ensures.is in
    record {
      length = rw step (λ small. mod-eq_of_lt small);
      mark = ap (λ t. c.args.branch.mark || t) (differ _ _ own above);
    }
