-- `file_questions::judging::ask_length` meets its contract: too long, and empty.
use mathlib.Core.Path.{sym, ◌∙◌}
use borrow.Author.Tests.{eqb-true, eqb-false}
use Rattle.file_questions.proofs.FileWalk.{too_long, empty, right_length}
use Rattle.file_questions.proofs.judging.ask_length.Goals as goal

pub returns-then-file-gt-MOST_BYTES : goal.returns-then-file-gt-MOST_BYTES
returns-then-file-gt-MOST_BYTES c = too_long _ c.if-file-gt-MOST_BYTES.true

pub returns-then-is_empty : goal.returns-then-is_empty
returns-then-is_empty c = empty _ (eqb-true _ 0 (sym c.is_empty.ensures ∙ c.if-is_empty.true))

pub returns : goal.returns
returns c = right_length _ c.if-file-gt-MOST_BYTES.false (eqb-false _ 0 (sym c.is_empty.ensures ∙ c.if-is_empty.false))
