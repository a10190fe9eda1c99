-- `wagner::answer::WagnerTree::alone` meets its contract.
use Rattle.std.proofs.Common.{refl}
use Rattle.branching.proofs.Unasked.{zero_placement}
use Rattle.wagner.proofs.answer.WagnerTree.alone.Goals as goal

pub returns : goal.returns
returns c = record {
  tree = c.alone.ensures;
  placements = rw (zero_placement _ c.default.ensures) at c.none.ensures;
  none = refl;
}
