-- What the check leaves of `file_questions::judging::ask_rows`.
use mathlib.Core.Path.{sym, ◌∙◌}
use Rattle.std.proofs.lemmas.Result.{err_from_is_err_and}
use Rattle.file_questions.proofs.LinesWalk.{line_missing, line_refused, lines-ended}
use Rattle.file_questions.proofs.Rows.RowsWalk.{rows-start, row_asked, row_passed}
use Rattle.file_questions.proofs.judging.ask_rows.Goals as goal

pub loop-done-init : goal.loop-done-init
loop-done-init c = rows-start _ _ _ _ _ c.none-names.ensures

pub returns-in_default : goal.returns-in_default
returns-in_default c = line_missing _ _ _ _ _ _ c.loop-done.invariant.lines c.loop-done-test.true c.in_default.ensures

pub returns-in_err-on_line : goal.returns-in_err-on_line
returns-in_err-on_line c =
    let told = err_from_is_err_and c.from_residual.result c.from_residual.ensures.1 in
    rw (told.1, told.2)
    (line_refused _ _ _ _ _ _ c.loop-done.invariant.lines c.loop-done-test.true _ _ c.in-Some.ensures _
    (row_asked _ _ _ _ _ _ c.loop-done.invariant c.loop-done-test.true _ _ _ c.as_slice.ensures c.ask_row.ensures) _
    (sym c.on_line.ensures ∙ c.in_err-on_line.was))

pub loop-done-preserved : goal.loop-done-preserved
loop-done-preserved c =
    row_passed _ _ _ _ _ _ c.loop-done.invariant c.loop-done-test.true _ _ c.in-Some.ensures _
    (row_asked _ _ _ _ _ _ c.loop-done.invariant c.loop-done-test.true _ _ _ c.as_slice.ensures c.ask_row.ensures)
    (sym c.on_line.ensures ∙ c.in_ok-on_line.was) c.requires.0 _ c.first_piece.ensures _ c.push.ensures

pub returns : goal.returns
returns c = lines-ended _ _ _ _ _ _ c.loop-done.invariant.lines c.loop-done-test.false
