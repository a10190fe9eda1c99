-- What the check leaves of `consistency::calls::index`.
use mathlib.Core.Path.{sym, ◌∙◌}
use Rattle.consistency.proofs.Answered.{index_passed}
use Rattle.consistency.proofs.calls.index.Goals as goal

pub returns : goal.returns
returns c =
    index_passed _ _ _ _ _ _ _ _ (sym c.ask_branching.ensures ∙ c.in_ok-ask_branching.was)
    c.tree_of-tree.ensures c.floor_of-floor.ensures c.total_of-total.ensures c.index_of.ensures
