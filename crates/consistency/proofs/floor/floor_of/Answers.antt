-- `consistency::floor::floor_of` meets its contract: the columns of a lent matrix are its characters. Assumes nothing.
use mathlib.Core.Path.{refl, sym, ◌∙◌}
use mathlib.Core.Bool.{true≢false}
use Rattle.matrix_form.proofs.Limits.{shaped-limits, lent_shaped}
use Rattle.consistency.proofs.Columns.{columns-floor}
use Rattle.consistency.proofs.floor.floor_of.Goals as goal

pub returns-then-not-is_shaped : goal.returns-then-not-is_shaped
returns-then-not-is_shaped c = record {
  is = λ lent. absurd (true≢false (sym (lent_shaped _ _ _ lent) ∙ sym c.is_shaped.ensures ∙ c.if-not-is_shaped.true));
  unshaped = λ e. refl;
}

pub invariant_of-nodes : goal.invariant_of-nodes
invariant_of-nodes c = record { narrow = (shaped-limits _ _ _ (sym c.is_shaped.ensures ∙ c.if-not-is_shaped.false)).characters }

pub invariant_of-sum_floors : goal.invariant_of-sum_floors
invariant_of-sum_floors c = record { some = (shaped-limits _ _ _ (sym c.is_shaped.ensures ∙ c.if-not-is_shaped.false)).taxon }

pub returns : goal.returns
returns c = record {
  is = λ lent. c.sum_floors.ensures ∙ columns-floor _ _ _ lent;
  unshaped = λ e. absurd (true≢false (sym (sym c.is_shaped.ensures ∙ c.if-not-is_shaped.false) ∙ e));
}
