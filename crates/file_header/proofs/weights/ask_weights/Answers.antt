-- `file_header::weights::ask_weights` meets its contract: the line is there, it is ended, and its fields are weights.
use mathlib.Core.Path.{sym, ap, ◌∙◌}
use borrow.Author.Tests.{not-true, not-false}
use Rattle.std.specs.Prelude.{Ok}
use Rattle.matrix_form.specs.Outcomes.{ask}
use Rattle.matrix_form.specs.declared.refusal.Refusal.TheVariants.{WeightForm}
use Rattle.file_header.proofs.OptionalWalk.{absent, unended, fields_decide}
use Rattle.file_header.proofs.weights.ask_weights.Goals as goal

pub returns-then-not-header : goal.returns-then-not-header
returns-then-not-header c = absent _ _ (not-true _ c.if-not-header.true)

pub returns-in_default : goal.returns-in_default
returns-in_default c = unended _ _ (not-false _ c.if-not-header.false) c.in_default.ensures

pub returns-then-not-weights_form : goal.returns-then-not-weights_form
returns-then-not-weights_form c =
    ap (λ b. ask b WeightForm (Ok tt)) (sym c.if-not-weights_form.true)
    ∙ fields_decide _ _ _ _ _ (not-false _ c.if-not-header.false) c.in-Some.ensures c.weights_form.ensures

pub returns : goal.returns
returns c =
    ap (λ b. ask b WeightForm (Ok tt)) (sym c.if-not-weights_form.false)
    ∙ fields_decide _ _ _ _ _ (not-false _ c.if-not-header.false) c.in-Some.ensures c.weights_form.ensures
