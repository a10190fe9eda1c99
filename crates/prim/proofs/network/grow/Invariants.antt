-- `prim::network::grow` meets its contract. The loop's invariant: the links so far are the first of the Prim Network.
use Prim.Native.Nat.{◌-◌}
use Rattle.difference.specs.Steps.{between}
use Rattle.prim.proofs.Growth.{GrownTo}
use Rattle.prim.proofs.network.grow.Given as goal

abbrev pub invariant-loop-link : goal.invariant-loop-link
invariant-loop-link l = GrownTo (between l.nodes) l.nodes.lent.n l.waiting l.network

abbrev pub decreases-loop-link : goal.decreases-loop-link
decreases-loop-link l = 63 - l.network.links.count
