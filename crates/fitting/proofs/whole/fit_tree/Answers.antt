-- `fitting::whole::fit_tree` meets its contract. Assumes nothing.
use Rattle.std.proofs.Common.{sym, ◌∙◌}
use Rattle.matrix_form.proofs.Limits.{shaped-limits}
use Rattle.fitting.proofs.Shapes.{sizes, both-shaped, matrix-unshaped, lists-unshaped, not_fitted, tree-fitted}
use Rattle.fitting.proofs.whole.fit_tree.Goals as goal

pub returns-then-not-is_shaped : goal.returns-then-not-is_shaped
returns-then-not-is_shaped c =
    not_fitted _ _ _ _ _ _ _ _ (matrix-unshaped _ _ _ _ _ _ (sym c.is_shaped.ensures ∙ c.if-not-is_shaped.true)) c.no_fit.ensures

pub returns-then-not-lists_full : goal.returns-then-not-lists_full
returns-then-not-lists_full c =
    not_fitted _ _ _ _ _ _ _ _
    (lists-unshaped _ _ _ _ _ _ (sym c.is_shaped.ensures ∙ c.if-not-is_shaped.false) (sym c.lists_full.ensures ∙ c.if-not-lists_full.true))
    c.no_fit-then-not-lists_full.ensures

pub fit_columns-branches-requires : goal.fit_columns-branches-requires
fit_columns-branches-requires c = record {
  some =
      let shape = shaped-limits _ _ _ (sym c.is_shaped.ensures ∙ c.if-not-is_shaped.false) in
      rw c.of-plan.ensures.taxa (shape.taxon, shape.taxa);
  state_lists = sizes _ _ _ (sym c.lists_full.ensures ∙ c.if-not-lists_full.false);
}

pub sum_lengths-requires : goal.sum_lengths-requires
sum_lengths-requires c = rw c.of-plan.ensures.taxa (shaped-limits _ _ _ (sym c.is_shaped.ensures ∙ c.if-not-is_shaped.false)).taxa

pub returns : goal.returns
returns c =
    let written = rw (c.of-plan.ensures.taxa, c.of-plan.ensures.tree) at c.fit_columns-branches.ensures in
    tree-fitted _ _ _ _ _ _ _ _ _ _ _ _
    (both-shaped _ _ _ _ _ _ (sym c.is_shaped.ensures ∙ c.if-not-is_shaped.false) (sym c.lists_full.ensures ∙ c.if-not-lists_full.false))
    written (rw c.of-plan.ensures.taxa at c.sum_lengths.ensures)

pub invariant_of-nodes : goal.invariant_of-nodes
invariant_of-nodes c = record { narrow = (shaped-limits _ _ _ (sym c.is_shaped.ensures ∙ c.if-not-is_shaped.false)).characters }
