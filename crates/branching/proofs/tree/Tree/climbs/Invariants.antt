-- `branching::tree::Tree::climbs` meets its contract. The loop's invariant: the steps that are left decide. Assumes nothing.
use mathlib.Core.Path.{◌≡◌}
use Prim.Native.Nat.{◌-◌}
use Rattle.branching.specs.Views.{ancestors}
use Rattle.tree_form.specs.Growing.{climbs}
use Rattle.branching.proofs.tree.Tree.climbs.Given as goal

abbrev pub invariant-loop-step : goal.invariant-loop-step
invariant-loop-step l = climbs (ancestors l.self) l.steps l.v ≡ climbs (ancestors l.self) (l.steps - l._step) l.at
