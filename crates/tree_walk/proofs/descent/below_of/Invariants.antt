-- `tree_walk::descent::below_of` meets its contract. The loop's invariant: the descendants kept are the first two among the nodes passed.
-- Assumes nothing.
use mathlib.Core.Path.{◌≡◌}
use Prim.Native.Nat.{◌≤◌}
use lib.ListN.{length}
use Rattle.branching.specs.Views.{ancestors}
use Rattle.tree_walk.specs.Steps.{WithinBelow}
use Rattle.tree_walk.proofs.Descending.{BelowTo}
use Rattle.tree_walk.proofs.descent.below_of.Given as goal

abbrev pub invariant-loop-u : goal.invariant-loop-u
invariant-loop-u l = (2 ≤ l.end) × (l.end ≤ 127) × (length l.below ≡ 127) × BelowTo (ancestors l.tree) l.u l.below × WithinBelow l.below
