-- `fit_passes::characters::parts_up` meets its contract. The loop's invariant: what is kept of the nodes passed is right. Assumes nothing.
use Rattle.std.proofs.Common.{◌≡◌, ℕ, ◌-◌, true, List, length}
use Rattle.branching.specs.Views.{ancestors}
use Rattle.tree_form.specs.Within.{branching_within}
use Rattle.matrix_form.specs.declared.spans.Span.{Span}
use Rattle.fit_form.specs.Assignments.{character}
use Rattle.fit_passes.specs.Steps.{OwnSets}
use Rattle.fit_passes.proofs.Pass.Up.{UpFrom}
use Rattle.fit_passes.proofs.characters.parts_up.Given as goal

abbrev pub invariant-loop-v : goal.invariant-loop-v
invariant-loop-v l =
    (length l.parts ≡ 127)
    × ((rows : List (List Span)) (j : ℕ) → OwnSets rows l.plan-inside.n j l.own
    → branching_within l.plan-inside.n (ancestors l.plan-inside.tree) ≡ true
    → UpFrom (ancestors l.plan-inside.tree) l.plan-inside.n (character rows j) l.plan-inside.walk.items l.parts (l.plan-inside.walk.count - length l.yielded))
