-- Parting a text at a separator, and joining the pieces again, undo one another.
use mathlib.Core.Path.{◌≡◌, refl, sym, ap, ◌∙◌}
use mathlib.Core.List.{List, [], ◌∷◌, ◌++◌}
use mathlib.Core.Bool.{Bool, true, false, not}
use Prim.Native.Nat.{ℕ}
use lib.Dec.{eqb}
use borrow.Author.Tests.{eq-eqb, eqb-true, not-true}
use Rattle.lists.specs.Tests.{every}
use Rattle.text_form.specs.Bytes.{line_feed, before_first, pieces_at, joined_by}
use Rattle.text_form.specs.Lines.{lines_of, ended}
use Rattle.lists.proofs.Every.{every-head, every-tail}

-- no byte of a text is the separator
abbrev pub lacks : ℕ → List ℕ → Bool
lacks separator = every (λ byte. not (eqb byte separator))

-- at a separator a new piece begins
pub pieces_at_lem : (s b : ℕ) (bs : List ℕ) → eqb b s ≡ true → pieces_at s (b ∷ bs) ≡ [] ∷ pieces_at s bs
unfolding pieces_at
pieces_at_lem s b bs e = rw (e, pieces_at)

-- any other byte goes on with the piece
pub pieces_other : (s b : ℕ) (bs : List ℕ) → eqb b s ≡ false → pieces_at s (b ∷ bs) ≡ before_first b (pieces_at s bs)
unfolding pieces_at
pieces_other s b bs e = rw (e, pieces_at)

-- a text without the separator: its first byte is another one, and the others lack it too
head_not : (s b : ℕ) (bs : List ℕ) → lacks s (b ∷ bs) ≡ true → eqb b s ≡ false
head_not s b bs e = not-true (eqb b s) (every-head (λ byte. not (eqb byte s)) b bs e)

-- its other bytes lack the separator too
tail_lacks : (s b : ℕ) (bs : List ℕ) → lacks s (b ∷ bs) ≡ true → lacks s bs ≡ true
tail_lacks s b bs e = every-tail (λ byte. not (eqb byte s)) b bs e

-- a text without the separator is its only piece
pub pieces_last : (s : ℕ) (piece : List ℕ) → lacks s piece ≡ true → pieces_at s piece ≡ piece ∷ []
unfolding pieces_at
pieces_last s [] e = refl
pieces_last s (b ∷ bs) e =
    pieces_other s b bs (head_not s b bs e) ∙ ap (before_first b) (pieces_last s bs (tail_lacks s b bs e))

-- the first piece ends at the first separator
pub pieces_first : (s : ℕ) (piece rest : List ℕ) → lacks s piece ≡ true → pieces_at s (piece ++ s ∷ rest) ≡ piece ∷ pieces_at s rest
pieces_first s [] rest e = pieces_at_lem s s rest (eq-eqb s s refl)
pieces_first s (b ∷ bs) rest e =
    pieces_other s b (bs ++ s ∷ rest) (head_not s b bs e)
    ∙ ap (before_first b) (pieces_first s bs rest (tail_lacks s b bs e))

-- pieces without the separator are found again when they have been joined
pub pieces_joined : (s : ℕ) (piece : List ℕ) (pieces : List (List ℕ)) → every (lacks s) (piece ∷ pieces) ≡ true
    → pieces_at s (joined_by s (piece ∷ pieces)) ≡ piece ∷ pieces
unfolding joined_by
pieces_joined s piece [] e = pieces_last s piece (every-head (lacks s) piece [] e)
pieces_joined s piece (next ∷ pieces) e =
    pieces_first s piece (joined_by s (next ∷ pieces)) (every-head (lacks s) piece (next ∷ pieces) e)
    ∙ ap (◌∷◌ piece) (pieces_joined s next pieces (every-tail (lacks s) piece (next ∷ pieces) e))

-- lines without a line feed are found again when each has been ended by one; nothing stands behind them
pub pieces_ended : (lines : List (List ℕ)) → every (lacks line_feed) lines ≡ true → pieces_at line_feed (ended lines) ≡ lines ++ ([] ∷ [])
unfolding ended pieces_at
pieces_ended [] e = refl
pieces_ended (line ∷ lines) e =
    pieces_first line_feed line (ended lines) (every-head (lacks line_feed) line lines e)
    ∙ ap (◌∷◌ line) (pieces_ended lines (every-tail (lacks line_feed) line lines e))

-- lines that are each ended by a line feed are lines joined by line feeds, with nothing behind the last one
pub joined-ended : (lines : List (List ℕ)) → joined_by line_feed (lines ++ ([] ∷ [])) ≡ ended lines
unfolding ended joined_by
joined-ended [] = refl
joined-ended (line ∷ []) = refl
joined-ended (line ∷ next ∷ lines) = ap (λ rest. line ++ line_feed ∷ rest) (joined-ended (next ∷ lines))

-- a byte in front of the first piece is a byte in front of the joined text
joined-before : (s b : ℕ) (pieces : List (List ℕ)) → joined_by s (before_first b pieces) ≡ b ∷ joined_by s pieces
unfolding joined_by
joined-before s b [] = refl
joined-before s b (piece ∷ []) = refl
joined-before s b (piece ∷ next ∷ pieces) = refl

-- pieces with a byte put in front have a first one
before-first : (b : ℕ) (pieces : List (List ℕ)) → (first : List ℕ) × (others : List (List ℕ)) × (before_first b pieces ≡ first ∷ others)
before-first b [] = (b ∷ [], [], refl)
before-first b (piece ∷ pieces) = (b ∷ piece, pieces, refl)

-- a text has a first piece
pub pieces_some : (s : ℕ) (bytes : List ℕ) → (first : List ℕ) × (others : List (List ℕ)) × (pieces_at s bytes ≡ first ∷ others)
unfolding pieces_at
pieces_some s [] = ([], [], refl)
pieces_some s (b ∷ bs) = by (eqb b s) refl
  where
    by : (t : Bool) → eqb b s ≡ t → (first : List ℕ) × (others : List (List ℕ)) × (pieces_at s (b ∷ bs) ≡ first ∷ others)
    by true e = ([], pieces_at s bs, pieces_at_lem s b bs e)
    by false e =
        let found = before-first b (pieces_at s bs) in
        (found.0, found.1, pieces_other s b bs e ∙ found.2)

-- an empty piece in front of a text's pieces is a separator in front of the text
joined_new : (s : ℕ) (bytes : List ℕ) → joined_by s ([] ∷ pieces_at s bytes) ≡ s ∷ joined_by s (pieces_at s bytes)
unfolding joined_by
joined_new s bytes = rw (pieces_some s bytes).2

-- a text is its pieces joined
pub joined_pieces : (s : ℕ) (bytes : List ℕ) → joined_by s (pieces_at s bytes) ≡ bytes
unfolding joined_by pieces_at
joined_pieces s [] = refl
joined_pieces s (b ∷ bs) = by (eqb b s) refl (joined_pieces s bs)
  where
    by : (t : Bool) → eqb b s ≡ t → joined_by s (pieces_at s bs) ≡ bs → joined_by s (pieces_at s (b ∷ bs)) ≡ b ∷ bs
    by true e ih =
        ap (joined_by s) (pieces_at_lem s b bs e)
        ∙ joined_new s bs
        ∙ ap (λ text. s ∷ text) ih
        ∙ ap (λ first. first ∷ bs) (sym (eqb-true b s e))
    by false e ih =
        ap (joined_by s) (pieces_other s b bs e) ∙ joined-before s b (pieces_at s bs) ∙ ap (◌∷◌ b) ih

-- of a text's lines there is always one
pub lines_some : (text : List ℕ) → lines_of text ≡ (pieces_some line_feed text).0 ∷ (pieces_some line_feed text).1
unfolding lines_of
lines_some text = (pieces_some line_feed text).2
