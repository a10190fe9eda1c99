-- `exports::calls::fitted_total` meets its contract: the tree built is fitted. Assumes nothing.
use mathlib.Core.Path.{sym, ◌∙◌}
use Rattle.exports.proofs.Fitted.{tree_fitted}
use Rattle.exports.proofs.calls.fitted_total.Goals as goal

pub returns : goal.returns
returns c =
    let asked = c.in_ok-order.ensures in
    tree_fitted _ _ _ _ _ _ _ (sym c.lists_full.ensures
    ∙ c.if-not-lists_full.false) asked.0 _ asked.1 _ _ c.in_ok-built.ensures _ _ _ _ c.fit_tree-fit.ensures
