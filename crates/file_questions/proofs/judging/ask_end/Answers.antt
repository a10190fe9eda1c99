-- `file_questions::judging::ask_end` meets its contract: the file ends where no byte is left.
use mathlib.Core.Path.{sym, ◌∙◌}
use borrow.Author.Tests.{eqb-true, eqb-false}
use Rattle.file_questions.proofs.FileWalk.{goes_on, ends}
use Rattle.file_questions.proofs.judging.ask_end.Goals as goal

pub returns-then-not-is_empty : goal.returns-then-not-is_empty
returns-then-not-is_empty c = goes_on _ (eqb-false _ 0 (sym c.is_empty.ensures ∙ c.if-not-is_empty.true))

pub returns : goal.returns
returns c = ends _ (eqb-true _ 0 (sym c.is_empty.ensures ∙ c.if-not-is_empty.false))
