-- The first line of a text, and those behind it.
use mathlib.Core.Path.{◌≡◌, sym, ap, ap₂, ◌∙◌}
use mathlib.Core.List.{List, [], ◌∷◌}
use Prim.Native.Nat.{ℕ}
use native.Mathlib.Omega.{arith}
use lib.ListN.{length}
use Rattle.text_form.specs.Bytes.{line_feed, pieces_at, piece_length, first_piece, behind_piece}
use Rattle.text_form.specs.Lines.{lines_of}
use Rattle.text_form.proofs.FirstPart.{pieces_one, pieces_more, piece-within, first-length}

-- a text whose first line is the whole of it has no other
pub only_line : (text line : List ℕ) → line ≡ first_piece line_feed text → length line ≡ length text → lines_of text ≡ text ∷ []
unfolding lines_of
only_line text line l e = pieces_one line_feed text (sym (ap length l ∙ first-length line_feed text) ∙ e)

-- any other text has its first line, and those behind it
pub ended_line : (text line rest : List ℕ) → line ≡ first_piece line_feed text → rest ≡ behind_piece line_feed text
    → (length line ≡ length text → ⊥) → lines_of text ≡ line ∷ lines_of rest
unfolding lines_of
ended_line text line rest l r h =
    let size : length line ≡ piece_length line_feed text = ap length l ∙ first-length line_feed text in
    pieces_more line_feed text (omega (arith, size, h, piece-within line_feed text))
    ∙ ap₂ (λ x xs. x ∷ pieces_at line_feed xs) (sym l) (sym r)
