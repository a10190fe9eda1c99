-- `wagner::closeness::Made::keep_three` meets its contract. The loop's invariant: the entries of the nodes gone through are written.
use Rattle.std.proofs.Common.{◌≡◌}
use Rattle.branching.specs.Views.{ancestors}
use Rattle.wagner.proofs.Renewing.{three_nodes, Written}
use Rattle.wagner.proofs.closeness.Made.keep_three.Given as goal
use Rattle.matrix.specs.Lent.{lent_lists}

abbrev pub invariant-loop-c : goal.invariant-loop-c
invariant-loop-c l =
    let lent = l.self.nodes.lent in
    record {
      nodes : l.c-items ≡ three_nodes l.self.placed.now.placement;
      written : Written (lent_lists lent) lent.m (ancestors l.self.placed.now.tree) l.v
          (three_nodes l.self.placed.now.placement) l.c-index l.initial.differences l.differences;
    }
