-- The lines of a text, the fields of a line, and lines put together to a text.
use Rattle.std.specs.Prelude.{List, [], ◌∷◌, ◌++◌, ℕ}
use Rattle.text_form.specs.Bytes.{tab, line_feed, pieces_at}

-- the lines of a text; the last item is what stands behind the last line feed, and is no line
unfoldable pub lines_of : List ℕ → List (List ℕ)
lines_of text = pieces_at line_feed text

-- the fields of a line
unfoldable pub fields_of : List ℕ → List (List ℕ)
fields_of line = pieces_at tab line

-- lines one after another, each ended by a line feed
unfoldable pub ended : List (List ℕ) → List ℕ
ended [] = []
ended (line ∷ lines) = line ++ line_feed ∷ ended lines
