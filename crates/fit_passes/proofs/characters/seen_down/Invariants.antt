-- `fit_passes::characters::seen_down` meets its contract. The loop's invariant: what is kept of the nodes passed is right. Assumes nothing.
use Rattle.std.proofs.Common.{◌≡◌, ℕ, true, List, length}
use Rattle.branching.specs.Views.{ancestors}
use Rattle.tree_form.specs.Within.{branching_within}
use Rattle.matrix_form.specs.declared.spans.Span.{Span}
use Rattle.fit_form.specs.Assignments.{character}
use Rattle.fit_passes.specs.Steps.{OwnSets, PartsAre}
use Rattle.fit_passes.proofs.Pass.Down.{DownTo}
use Rattle.fit_passes.proofs.characters.seen_down.Given as goal

abbrev pub invariant-loop-i : goal.invariant-loop-i
invariant-loop-i l =
    (length l.seen ≡ 127)
    × ((rows : List (List Span)) (j : ℕ) → OwnSets rows l.plan-inside.n j l.own
    → branching_within l.plan-inside.n (ancestors l.plan-inside.tree) ≡ true
    → PartsAre (ancestors l.plan-inside.tree) l.plan-inside.n (character rows j) l.parts
    → DownTo (ancestors l.plan-inside.tree) rows l.plan-inside.n j l.plan-inside.walk.items l.seen l.i)
