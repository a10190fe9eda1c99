-- `wagner::keys::Keys::renew_closest` meets its contract. The loop's invariant: keys and what is kept of the taxa before v are right after the
-- placement, and what is kept of the others is as it was.
use Rattle.std.proofs.Common.{length, ◌≡◌}
use Rattle.branching.specs.Views.{ancestors}
use Rattle.wagner.proofs.Renewing.{RenewedUpTo}
use Rattle.wagner.proofs.keys.Keys.renew_closest.Given as goal
use Rattle.matrix.specs.Lent.{lent_lists}

abbrev pub invariant-loop-v : goal.invariant-loop-v
invariant-loop-v l =
    let lent = l.made.nodes.lent in
    record {
      order : l.self.order ≡ l.initial.self.order;
      long : length l.self.table ≡ 65;
      up_to : RenewedUpTo (lent_lists lent) lent.n lent.m (ancestors l.made.placed.now.tree) l.made.placed.now.placement
          l.initial.self.table l.v l.self.table l.self.keys;
    }
