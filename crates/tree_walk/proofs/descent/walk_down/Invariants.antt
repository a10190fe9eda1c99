-- `tree_walk::descent::walk_down` meets its contract. The loop's invariant: all descendants of the nodes passed stand in the walk. Assumes
-- nothing.
use mathlib.Core.Path.{◌≡◌}
use mathlib.Core.List.{List}
use Prim.Native.Nat.{ℕ, ◌-◌, ◌≤◌}
use lib.ListN.{length}
use Rattle.tree_walk.specs.Walks.{node_at}
use Rattle.tree_walk.proofs.Along.{Pairs, Along}
use Rattle.tree_walk.proofs.descent.walk_down.Given as goal

abbrev pub invariant-loop-i : goal.invariant-loop-i
invariant-loop-i l = (1 ≤ l.walk.count)
    × (l.walk.count ≤ l.last)
    × (l.last ≤ 126)
    × (l.i ≤ l.walk.count)
    × (length l.walk.items ≡ 127)
    × ((k : ℕ) → node_at l.walk.items k ≤ 126)
    × ((tree : List ℕ) → Pairs l.last tree l.below → Along l.last l.i l.walk.count tree l.below l.walk.items)

abbrev pub decreases-loop-i : goal.decreases-loop-i
decreases-loop-i l = 126 - l.i
