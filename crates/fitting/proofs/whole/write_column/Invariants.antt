-- `fitting::whole::write_column` meets its contract. The loop's invariant: the states of the HTUs passed are written. Assumes nothing.
use Rattle.std.proofs.Common.{◌≡◌, ◌+◌, ◌-◌, [], ◌∷◌, map, length}
use Rattle.lists.specs.Numbers.{numbers}
use Rattle.lists.specs.Over.{stripes}
use Rattle.matrix_form.specs.Shape.{columns, row_start}
use Rattle.fit_passes.specs.Steps.{states_at}
use Rattle.fit_form.specs.Calls.{Which, state_in}
use Rattle.fitting.specs.Lists.{Picks}
use Rattle.fitting.proofs.whole.write_column.Given as goal

abbrev pub invariant-loop-v : goal.invariant-loop-v
invariant-loop-v g l =
    (length l.out ≡ length l.initial.out)
    × ((which : Which) → Picks (goal.F-post g l.state) which
    → l.out ≡ stripes columns (row_start (l.plan.taxa + 1) + (l.j - 1)) (map (λ u. state_in which (states_at l.states u) ∷ []) (numbers (l.plan.taxa + 1)
    (l.v - (l.plan.taxa + 1)))) l.initial.out)
