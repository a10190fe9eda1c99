-- `file_header::header::ask_header` meets its contract: line 1 decides, and then the weights.
use mathlib.Core.Path.{sym, ap, ◌∙◌}
use Rattle.std.proofs.lemmas.Result.{err_from_is_err_and}
use Rattle.file_header.specs.Steps.{at_line}
use Rattle.file_header.proofs.WholeHeader.{first_refused, weights-refused, weights_passed}
use Rattle.file_header.proofs.header.ask_header.Goals as goal

pub returns-in_err-header : goal.returns-in_err-header
returns-in_err-header c =
    let told = err_from_is_err_and c.from_residual.result c.from_residual.ensures.1 in
    rw (told.1, told.2) (first_refused _ _ (ap (at_line 1) (sym c.ask_first_line.ensures) ∙ sym c.on_line.ensures ∙ c.in_err-header.was))

pub returns-in_err-on_line : goal.returns-in_err-on_line
returns-in_err-on_line c =
    let told = err_from_is_err_and c.from_residual-in_err-on_line.result c.from_residual-in_err-on_line.ensures.1 in
    rw (told.1, told.2)
    (weights-refused _ _ (ap (at_line 1) (sym c.ask_first_line.ensures) ∙ sym c.on_line.ensures ∙ c.in_ok-header.was) _ c.behind_piece.ensures _
    c.ask_weights.ensures _ (sym c.on_line-2.ensures ∙ c.in_err-on_line.was))

pub returns : goal.returns
returns c =
    weights_passed _ _ (ap (at_line 1) (sym c.ask_first_line.ensures) ∙ sym c.on_line.ensures ∙ c.in_ok-header.was) _ c.behind_piece.ensures _
    c.ask_weights.ensures (sym c.on_line-2.ensures ∙ c.in_ok-on_line.was)
