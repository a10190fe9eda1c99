-- `fitting::whole::fit_columns` meets its contract. The loop's invariant: the characters passed are fitted. Assumes nothing.
use Rattle.std.proofs.Common.{◌≡◌, ◌-◌, length}
use Rattle.fitting.specs.Lists.{Written}
use Rattle.fitting.proofs.whole.fit_columns.Given as goal
use Rattle.matrix.specs.Lent.{lent_lists}

abbrev pub invariant-loop-j : goal.invariant-loop-j
invariant-loop-j l =
    (length l.low ≡ length l.initial.low)
    × (length l.high ≡ length l.initial.high)
    × (length l.chosen ≡ length l.initial.chosen)
    × Written (lent_lists l.nodes.lent) l.plan.taxa l.nodes.lent.m
    (l.j - 1) l.plan.tree l.initial.low l.low l.initial.high l.high l.initial.chosen l.chosen l.branches
