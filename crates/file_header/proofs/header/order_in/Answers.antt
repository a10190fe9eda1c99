-- `file_header::header::order_in` meets its contract: without a fourth field no word is said, and with one the word decides.
use mathlib.Core.Path.{sym, ap, ◌∙◌}
use Rattle.std.specs.Prelude.{is_some}
use Rattle.file_form.proofs.File.FirstForm.{fields_count, form_tells}
use Rattle.file_form.proofs.File.Order.{none-known, none_said, fourth_known, fourth_said}
use Rattle.file_header.proofs.HeaderWalk.{order_is, order_unknown}
use Rattle.file_header.proofs.header.order_in.Goals as goal

pub returns-then-separators-lt-ORDER : goal.returns-then-separators-lt-ORDER
returns-then-separators-lt-ORDER c =
    let count = fields_count _ _ c.separators.ensures in
    order_is _ _ (none-known _ _ count c.if-separators-lt-ORDER.true) (none_said _ _ count c.if-separators-lt-ORDER.true)

pub returns-in_default : goal.returns-in_default
returns-in_default c =
    let count = fields_count _ _ c.separators.ensures in
    order_unknown _
    (fourth_known _ _ count c.if-separators-lt-ORDER.false _ c.field.ensures (form_tells _ c.requires).few ∙ ap is_some (sym c.in_default.ensures))

pub returns : goal.returns
returns c =
    let count = fields_count _ _ c.separators.ensures in
    order_is _ _
    (sym (fourth_known _ _ count c.if-separators-lt-ORDER.false _ c.field.ensures (form_tells _ c.requires).few ∙ ap is_some (sym c.in-Some.ensures)))
    (c.in-Some.ensures ∙ fourth_said _ _ count c.if-separators-lt-ORDER.false _ c.field.ensures)
