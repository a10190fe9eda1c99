-- What stands behind lines of a text, line by line.
use mathlib.Core.Path.{◌≡◌, refl, sym, ap, ◌∙◌}
use mathlib.Core.List.{List, []}
use mathlib.Core.Logic.{by_cases}
use Prim.Native.Nat.{ℕ, suc, ◌+◌, ◌≤◌, ◌<◌}
use native.Mathlib.Decide.{dec_le}
use native.Mathlib.Omega.{arith}
use lib.ListN.{length, drop, length-drop}
use Rattle.std.proofs.lemmas.List.{drop-drop, drop_all}
use Rattle.text_form.specs.Bytes.{line_feed, piece_length, behind_piece}
use Rattle.text_form.specs.Lines.{lines_of}
use Rattle.text_form.proofs.Parts.{lines_some}
use Rattle.text_form.proofs.FirstPart.{Parted, whole, shorter, parted, pieces_more, pieces_several}
use Rattle.file_text.specs.Steps.{BehindLines}

-- behind no line stands the whole text
pub behind_none : (text : List ℕ) → BehindLines text 0 text
behind_none text =
    record { lines = λ some. refl; none = λ few. absurd (omega (arith, few, ap length (lines_some text))) }

-- behind a last piece that no line feed ends stands nothing
behind_last : (rest : List ℕ) → length (lines_of rest) ≤ 1 → behind_piece line_feed rest ≡ []
unfolding lines_of behind_piece
behind_last rest few = by (parted line_feed rest)
  where
    by : Parted line_feed rest → drop (suc (piece_length line_feed rest)) rest ≡ []
    by (whole all) = drop_all (suc (piece_length line_feed rest)) rest (omega (arith, all))
    by (shorter part) =
        absurd (omega (
          arith,
          few,
          ap length (pieces_more line_feed rest part),
          ap length (lines_some (behind_piece line_feed rest)),
        ))

-- one line more
module _ (text : List ℕ) (count : ℕ) (rest : List ℕ) (here : BehindLines text count rest) where
  -- the lines behind it
  lines_next : count + 1 < length (lines_of text) → lines_of (behind_piece line_feed rest) ≡ drop (count + 1) (lines_of text)
  unfolding lines_of
  lines_next more =
      let lines = here.lines (omega (arith, more)) in
      sym (ap (drop 1) (pieces_several line_feed rest (omega (arith, more, ap length lines, length-drop count (lines_of text)))))
      ∙ ap (drop 1) lines
      ∙ drop-drop 1 count (lines_of text)

  -- nothing, where the text has fewer
  none_next : length (lines_of text) ≤ count + 1 → behind_piece line_feed rest ≡ []
  unfolding behind_piece piece_length
  none_next few =
      by_cases
      (dec_le (length (lines_of text)) count)
      (λ fewer. ap (behind_piece line_feed) (here.none fewer))
      (λ last.
      behind_last rest
      (omega (arith, few, ap length (here.lines (omega (arith, last))), length-drop count (lines_of text))))

  -- so the walk goes on behind it
  pub behind_next : (next : List ℕ) → next ≡ behind_piece line_feed rest → BehindLines text (count + 1) next
  behind_next next e = record { lines = λ more. ap lines_of e ∙ lines_next more; none = λ few. e ∙ none_next few }
