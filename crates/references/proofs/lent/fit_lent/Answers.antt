-- `references::lent::fit_lent` meets its contract.
use Rattle.std.proofs.Common.{refl}
use Rattle.references.proofs.Taken.{other-size}
use Rattle.references.proofs.lent.fit_lent.Goals as goal

pub returns : goal.returns
returns c = rw c.in-Ok.ensures.1.same at c.fit.ensures

pub returns-in_default : goal.returns-in_default
returns-in_default c = record {
  refused = other-size _ _ _ _ _ _ _ c.in_default.ensures.1;
  low_unchanged = refl;
  high_unchanged = refl;
  chosen_unchanged = refl;
}
