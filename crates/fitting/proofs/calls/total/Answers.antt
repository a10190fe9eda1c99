-- What the check leaves of `fitting::calls::total`.
use Rattle.std.proofs.Common.{sym, ◌∙◌}
use Rattle.fitting.proofs.Passed.{total_passed}
use Rattle.fitting.proofs.calls.total.Goals as goal

pub returns : goal.returns
returns c =
    total_passed _ _ _ _ _ _ (sym c.ask_branching.ensures ∙ c.in_ok-ask_branching.was) c.tree_of-tree.ensures c.total_of.ensures
