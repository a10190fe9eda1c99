-- `file_text::bytes::cut_piece` meets its contract: the piece lent ends at the first separator, and the rest begins behind it.
use native.Mathlib.Omega.{arith}
use Rattle.text_form.proofs.FirstPart.{piece-within}
use Rattle.text_form.proofs.PartWalk.{counts, first, behind}
use Rattle.file_text.proofs.bytes.cut_piece.Goals as goal

pub slice_bounds-result-end : goal.slice_bounds-result-end
slice_bounds-result-end c = counts _ _ _ c.piece_length-length.ensures

pub overflow_add-length : goal.overflow_add-length
overflow_add-length c = omega (arith, piece-within c.args.separator c.args.text.now)

pub returns : goal.returns
returns c = (first _ _ _ c.piece_length-length.ensures, behind _ _ _ _ c.piece_length-length.ensures c.rest_from.ensures)
