-- `prim::network::network_of` meets its contract: a lent matrix has its shape, and its taxa are not far from row 1.
use mathlib.Core.Path.{sym, ◌∙◌}
use mathlib.Core.Bool.{true≢false}
use Rattle.matrix_form.proofs.Limits.{shaped-limits, lent_shaped}
use Rattle.prim.proofs.Lent.{near_row_one}
use Rattle.prim.proofs.network.network_of.Goals as goal

pub returns-then-not-is_shaped : goal.returns-then-not-is_shaped
returns-then-not-is_shaped c = record {
  is = λ lent weighted. absurd (true≢false (sym (lent_shaped _ _ _ lent) ∙ sym c.is_shaped.ensures ∙ c.if-not-is_shaped.true));
  unshaped = λ e. c.default.ensures;
}

pub invariant_of-grow : goal.invariant_of-grow
invariant_of-grow c = record { narrow = (shaped-limits _ _ _ (sym c.is_shaped.ensures ∙ c.if-not-is_shaped.false)).characters }

pub grow-requires : goal.grow-requires
grow-requires c =
    let within = shaped-limits _ _ _ (sym c.is_shaped.ensures ∙ c.if-not-is_shaped.false) in
    (within.taxon, within.taxa)

pub returns : goal.returns
returns c = record {
  is = λ lent weighted. c.grow.ensures (near_row_one _ _ _ lent weighted);
  unshaped = λ e. absurd (true≢false (sym (sym c.is_shaped.ensures ∙ c.if-not-is_shaped.false) ∙ e));
}
