-- `matrix_file::writing::write_pieces` meets its contract. The loop's invariant: what the pieces passed say is written, and while a piece is left,
-- the rest of the text is parted into the others.
use mathlib.Core.Path.{◌≡◌}
use mathlib.Core.List.{List}
use Prim.Native.Nat.{ℕ, ◌<◌}
use lib.ListN.{length, drop}
use Rattle.text_form.specs.Bytes.{pieces_at}
use Rattle.matrix_file.specs.Steps.{WritesPiece}
use Rattle.matrix_file.proofs.Lists.WrittenPieces.{PiecesWritten}
use Rattle.matrix_file.proofs.writing.write_pieces.Given as goal

abbrev pub invariant-loop-i : goal.invariant-loop-i
invariant-loop-i g l =
    (length l.out ≡ length l.initial.out)
    × (l.i < l.count → pieces_at l.separator l.rest ≡ drop l.i (pieces_at l.separator l.fn.text))
    × ((says : List ℕ → List _)
    → WritesPiece (goal.F-post g l.write) says
    → PiecesWritten l.width says (pieces_at l.separator l.fn.text) l.initial.out l.i l.out)
