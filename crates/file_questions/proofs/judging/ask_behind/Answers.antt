-- `file_questions::judging::ask_behind` meets its contract: a refusal of the rows stands, and then what stands behind them decides.
use mathlib.Core.Path.{ap}
use Rattle.std.proofs.lemmas.Result.{err_from_is_err_and}
use Rattle.file_questions.specs.Steps.{left_of}
use Rattle.file_questions.proofs.FileWalk.{rows-refused, rest_decides}
use Rattle.file_questions.proofs.judging.ask_behind.Goals as goal

pub returns-in_err-rest : goal.returns-in_err-rest
returns-in_err-rest c =
    let told = err_from_is_err_and c.from_residual.result c.from_residual.ensures.1 in
    rw (told.1, told.2)
    (rows-refused _ _ c.requires.lines_left _ c.header_lines-passed.ensures _ c.behind_lines.ensures _ c.ask_rows.ensures _
    (ap (left_of (λ rest. rest.now)) c.in_err-rest.was))

pub returns : goal.returns
returns c =
    rest_decides _ _ c.requires.lines_left _ c.header_lines-passed.ensures _ c.behind_lines.ensures _ c.ask_rows.ensures _
    (ap (left_of (λ rest. rest.now)) c.in_ok-rest.was) _ c.ask_after.ensures
