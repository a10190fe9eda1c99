-- `file_text::bytes::first_line` meets its contract: the line ends before the text does, or the text is its only piece.
use Rattle.file_text.proofs.FirstLine.{only_line, ended_line}
use Rattle.file_text.proofs.bytes.first_line.Goals as goal

pub returns-then-line-text : goal.returns-then-line-text
returns-then-line-text c = only_line _ _ c.cut_piece.ensures.0 c.if-line-text.true

pub returns : goal.returns
returns c = ended_line _ _ _ c.cut_piece.ensures.0 c.cut_piece.ensures.1 c.if-line-text.false
