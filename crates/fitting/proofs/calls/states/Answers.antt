-- `fitting::calls::states` meets its contract: a refusal is that of the questions. Assumes nothing.
use Rattle.std.proofs.Common.{sym, ◌∙◌}
use Rattle.std.proofs.lemmas.Result.{err_from_is_err_and}
use Rattle.fitting.proofs.NodeRange.{node_answer, node_refused}
use Rattle.fitting.proofs.calls.states.Goals as goal

pub returns-in_err-ask_node : goal.returns-in_err-ask_node
returns-in_err-ask_node c =
    let told = err_from_is_err_and c.from_residual.result c.from_residual.ensures.1 in
    rw (told.1, told.2) (node_refused _ _ _ _ _ _ _ (sym c.ask_node.ensures ∙ c.in_err-ask_node.was))

pub returns : goal.returns
returns c =
    node_answer _ _ _ _ _ _ _ _ (sym c.ask_node.ensures ∙ c.in_ok-ask_node.was) c.tree_of-tree.ensures c.states_at.ensures
