-- `file_lines::rows::ask_row` meets its contract: each answer follows from the questions that led to it.
use Rattle.file_form.proofs.File.FirstForm.{fields_count}
use Rattle.file_lines.proofs.RowWalk.{bad_count, bad_name, name_taken, codes_decide}
use Rattle.file_lines.proofs.rows.ask_row.Goals as goal

pub returns-then-separators-header : goal.returns-then-separators-header
returns-then-separators-header c =
    bad_count _ _ _ _ (fields_count _ _ c.separators.ensures) c.if-separators-header.true

pub returns-then-not-name_form : goal.returns-then-not-name_form
returns-then-not-name_form c =
    bad_name _ _ _ _ (fields_count _ _ c.separators.ensures) _ c.first_piece-name.ensures c.if-separators-header.false _ c.name_form.ensures c.if-not-name_form.true

pub returns-then-is_taken : goal.returns-then-is_taken
returns-then-is_taken c =
    name_taken _ _ _ _ (fields_count _ _ c.separators.ensures) _ c.first_piece-name.ensures c.if-separators-header.false _ c.name_form.ensures c.if-not-name_form.false _
    c.is_taken.ensures c.if-is_taken.true

pub returns : goal.returns
returns c =
    codes_decide _ _ _ _ (fields_count _ _ c.separators.ensures) _ c.first_piece-name.ensures c.if-separators-header.false _ c.name_form.ensures c.if-not-name_form.false _
    c.is_taken.ensures c.if-is_taken.false _ c.ask_codes.ensures
