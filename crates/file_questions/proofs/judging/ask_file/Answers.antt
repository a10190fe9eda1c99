-- `file_questions::judging::ask_file` meets its contract: the length decides, then the header, then what stands behind it.
use mathlib.Core.Path.{sym, ap, ◌∙◌}
use Rattle.std.proofs.lemmas.Result.{err_from_is_err_and}
use Rattle.file_questions.specs.Steps.{passed_says}
use Rattle.file_header.specs.Steps.{at_line}
use Rattle.file_questions.proofs.FileWalk.{length-refused, header_refused, taxa_few, header_several, behind_decides}
use Rattle.file_questions.proofs.judging.ask_file.Goals as goal

pub returns-in_err-on_line : goal.returns-in_err-on_line
returns-in_err-on_line c =
    let told = err_from_is_err_and c.from_residual.result c.from_residual.ensures.1 in
    rw (told.1, told.2) (length-refused _ _ (ap (at_line 0) (sym c.ask_length.ensures) ∙ sym c.on_line.ensures ∙ c.in_err-on_line.was))

pub returns-in_err-header : goal.returns-in_err-header
returns-in_err-header c =
    let told = err_from_is_err_and c.from_residual-in_err-header.result c.from_residual-in_err-header.ensures.1 in
    rw (told.1, told.2)
    (header_refused _ (ap (at_line 0) (sym c.ask_length.ensures) ∙ sym c.on_line.ensures ∙ c.in_ok-on_line.was) _ c.ask_header.ensures _
    c.in_err-header.was)

pub ask_behind-requires : goal.ask_behind-requires
ask_behind-requires c =
    record {
      within_limits =
          taxa_few _ (ap (at_line 0) (sym c.ask_length.ensures) ∙ sym c.on_line.ensures ∙ c.in_ok-on_line.was) _ c.ask_header.ensures _
          c.in_ok-header.was;
      lines_left =
          header_several _ (ap (at_line 0) (sym c.ask_length.ensures) ∙ sym c.on_line.ensures ∙ c.in_ok-on_line.was) _ c.ask_header.ensures _
          c.in_ok-header.was;
    }

pub returns-in_err-ask_behind : goal.returns-in_err-ask_behind
returns-in_err-ask_behind c =
    let told = err_from_is_err_and c.from_residual-in_err-ask_behind.result c.from_residual-in_err-ask_behind.ensures.1 in
    rw (told.1, told.2)
    (ap (passed_says c.in_ok-header.header) (sym c.in_err-ask_behind.was)
    ∙ behind_decides _ (ap (at_line 0) (sym c.ask_length.ensures) ∙ sym c.on_line.ensures ∙ c.in_ok-on_line.was) _ c.ask_header.ensures _
    c.in_ok-header.was _ c.ask_behind.ensures)

pub returns : goal.returns
returns c =
    ap (passed_says c.in_ok-header.header) (sym c.in_ok-ask_behind.was)
    ∙ behind_decides _ (ap (at_line 0) (sym c.ask_length.ensures) ∙ sym c.on_line.ensures ∙ c.in_ok-on_line.was) _ c.ask_header.ensures _
    c.in_ok-header.was _ c.ask_behind.ensures
