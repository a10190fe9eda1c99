-- `file_header::optional::optional_there` meets its contract: the first field of the first line is one byte, the letter, or another text.
use mathlib.Core.Path.{sym, ◌∙◌}
use native.Mathlib.Omega.{arith}
use Rattle.file_header.proofs.Words.{letter_read}
use Rattle.file_header.proofs.OptionalWalk.{word_decides}
use Rattle.file_header.proofs.optional.optional_there.Goals as goal

pub returns-in_default : goal.returns-in_default
returns-in_default c = sym (letter_read _ _ ∙ grind arith) ∙ word_decides _ _ _ _ c.first_piece.ensures c.field.ensures

pub returns-in_default-2 : goal.returns-in_default-2
returns-in_default-2 c = sym (letter_read _ _ ∙ grind arith) ∙ word_decides _ _ _ _ c.first_piece.ensures c.field.ensures

pub returns : goal.returns
returns c = sym (letter_read _ _ ∙ grind arith) ∙ word_decides _ _ _ _ c.first_piece.ensures c.field.ensures
