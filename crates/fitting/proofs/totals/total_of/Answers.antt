-- `fitting::totals::total_of` meets its contract: its plan is that of the tree. Assumes nothing.
use Rattle.std.proofs.Common.{sym, refl, ◌∙◌, true≢false}
use Rattle.matrix_form.proofs.Limits.{shaped-limits, lent_shaped}
use Rattle.fitting.proofs.totals.total_of.Goals as goal

pub returns-then-not-is_shaped : goal.returns-then-not-is_shaped
returns-then-not-is_shaped c = record {
  costs = record {
    is = λ branches lent weighed.
        absurd (true≢false (sym (lent_shaped _ _ _ lent) ∙ (sym c.is_shaped.ensures ∙ c.if-not-is_shaped.true)));
  };
  unshaped = λ e. refl;
}

pub invariant_of-sum_costs : goal.invariant_of-sum_costs
invariant_of-sum_costs c = record { narrow = (shaped-limits _ _ _ (sym c.is_shaped.ensures ∙ c.if-not-is_shaped.false)).characters }

pub returns : goal.returns
returns c = record {
  costs = rw (c.of.ensures.taxa, c.of.ensures.tree) at c.sum_costs.ensures;
  unshaped = λ e. absurd (true≢false (sym (sym c.is_shaped.ensures ∙ c.if-not-is_shaped.false) ∙ e));
}
