-- `file_header::header::ask_first_line` meets its contract: each answer follows from the questions that led to it.
use mathlib.Core.Path.{sym, ◌∙◌}
use Rattle.std.proofs.lemmas.Result.{err_from_is_err_and}
use Rattle.file_header.proofs.HeaderWalk.{no_feed, bad_first, bad_order, beyond, header_said}
use Rattle.file_text.proofs.ReadAs.{formed_read}
use Rattle.file_form.specs.Header.{first_form}
use Rattle.file_header.specs.Steps.{first_said}
use Rattle.file_header.proofs.header.ask_first_line.Goals as goal

pub returns-in_default : goal.returns-in_default
returns-in_default c = no_feed _ c.in_default.ensures

pub returns-in_default-first_said : goal.returns-in_default-first_said
returns-in_default-first_said c = bad_first _ _ _ c.in-Some.ensures c.in_default-first_said.ensures

pub order_in-requires : goal.order_in-requires
order_in-requires c = (formed_read first_form first_said _ _ c.in-Some-first_said.ensures).0

pub returns-in_err-order : goal.returns-in_err-order
returns-in_err-order c =
    let told = err_from_is_err_and c.from_residual.result c.from_residual.ensures.1 in
    rw (told.1, told.2) (bad_order _ _ _ c.in-Some.ensures _ c.in-Some-first_said.ensures _ (sym c.order_in.ensures ∙ c.in_err-order.was))

pub returns-then-not-within_limits : goal.returns-then-not-within_limits
returns-then-not-within_limits c =
    beyond _ _ _ c.in-Some.ensures _ c.in-Some-first_said.ensures _ (sym c.order_in.ensures ∙ c.in_ok-order.was)
    (sym c.within_limits.ensures ∙ c.if-not-within_limits.true)

pub returns : goal.returns
returns c =
    header_said _ _ _ c.in-Some.ensures _ c.in-Some-first_said.ensures _ (sym c.order_in.ensures ∙ c.in_ok-order.was)
    (sym c.within_limits.ensures ∙ c.if-not-within_limits.false) _ c.optional_there-weighed.ensures
