-- `fitting::whole::add_lengths` meets its contract. The loop's invariant: the branches of the nodes passed are longer. Assumes nothing.
use Rattle.std.proofs.Common.{◌≡◌, ◌≤◌, length}
use Rattle.tree_form.specs.Ancestors.{ancestor}
use Rattle.fit_passes.specs.Steps.{states_at}
use Rattle.fit_form.specs.Calls.{no_branch, branch_at}
use Rattle.fitting.specs.Lists.{Longer}
use Rattle.lists.proofs.Filling.{FilledTo}
use Rattle.fitting.proofs.whole.add_lengths.Given as goal

abbrev pub invariant-loop-v : goal.invariant-loop-v
invariant-loop-v l =
    (length l.branches ≡ 127)
    × FilledTo
    (λ u b. ancestor l.plan.tree u ≤ 126
    → Longer l.weight (states_at l.states u) (states_at l.states (ancestor l.plan.tree u)) (branch_at l.initial.branches u) b)
    (λ u b. b ≡ branch_at l.initial.branches u) no_branch 2 l.v l.branches
