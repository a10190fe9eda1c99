-- The first piece of a text, found byte by byte, and the pieces behind it.
use mathlib.Core.Path.{◌≡◌, refl, sym, ap, ◌∙◌}
use mathlib.Core.List.{List, [], ◌∷◌}
use mathlib.Core.Bool.{Bool, true, false}
use Prim.Native.Nat.{ℕ, suc, ◌-◌, ◌≤◌, ◌<◌}
use native.Mathlib.Omega.{arith}
use borrow.Author.Tests.{ltb-true, ltb-false}
use lib.Dec.{eqb, ltb}
use lib.ListN.{length, get_or, take, drop, length-drop}
use lib.Seq.{take_all, take-length, length-take-le}
use Rattle.text_form.specs.Bytes.{before_first, pieces_at, piece_length, first_piece, behind_piece}
use Rattle.text_form.proofs.Parts.{pieces_at_lem, pieces_other}

-- at a separator the first piece is empty
piece_at : (s b : ℕ) (bs : List ℕ) → eqb b s ≡ true → piece_length s (b ∷ bs) ≡ 0
unfolding piece_length
piece_at s b bs e = rw e

-- any other byte belongs to it
piece-other : (s b : ℕ) (bs : List ℕ) → eqb b s ≡ false → piece_length s (b ∷ bs) ≡ suc (piece_length s bs)
unfolding piece_length
piece-other s b bs e = rw e

-- a text is at least as long as its first piece
pub piece-within : (s : ℕ) (text : List ℕ) → piece_length s text ≤ length text
unfolding piece_length
piece-within s [] = omega arith
piece-within s (b ∷ bs) = by (eqb b s) refl (piece-within s bs)
  where
    by : (t : Bool) → eqb b s ≡ t → piece_length s bs ≤ length bs → piece_length s (b ∷ bs) ≤ suc (length bs)
    by true e h = omega (arith, piece_at s b bs e)
    by false e h = omega (arith, piece-other s b bs e)

-- a text whose first piece is the whole of it has no other piece
pub pieces_one : (s : ℕ) (text : List ℕ) → piece_length s text ≡ length text → pieces_at s text ≡ text ∷ []
unfolding pieces_at
pieces_one s [] h = refl
pieces_one s (b ∷ bs) h = by (eqb b s) refl (pieces_one s bs)
  where
    by : (t : Bool) → eqb b s ≡ t → (piece_length s bs ≡ length bs → pieces_at s bs ≡ bs ∷ []) → pieces_at s (b ∷ bs) ≡ (b ∷ bs) ∷ []
    by true e rest = absurd (omega (arith, piece_at s b bs e))
    by false e rest =
        pieces_other s b bs e ∙ ap (before_first b) (rest (omega (arith, piece-other s b bs e)))

-- any other text is its first piece, and what stands behind the first separator
pub pieces_more : (s : ℕ) (text : List ℕ) → piece_length s text < length text
    → pieces_at s text ≡ first_piece s text ∷ pieces_at s (behind_piece s text)
unfolding first_piece behind_piece
pieces_more s [] h = absurd (omega arith)
pieces_more s (b ∷ bs) h = by (eqb b s) refl (pieces_more s bs)
  where
    by : (t : Bool) → eqb b s ≡ t
        → (piece_length s bs < length bs → pieces_at s bs ≡ take (piece_length s bs) bs ∷ pieces_at s (drop (suc (piece_length s bs)) bs))
        → pieces_at s (b ∷ bs) ≡ take (piece_length s (b ∷ bs)) (b ∷ bs) ∷ pieces_at s (drop (suc (piece_length s (b ∷ bs))) (b ∷ bs))
    by true e rest = rw (piece_at s b bs e) (pieces_at_lem s b bs e)
    by false e rest =
        rw (piece-other s b bs e) (pieces_other s b bs e ∙ ap (before_first b) (rest (omega (arith, piece-other s b bs e))))

-- the piece of a list from place k to its end is what is left from k on
pub piece_to_end : {A : Type 0} (k : ℕ) (xs : List A) → take (length xs - k) (drop k xs) ≡ drop k xs
piece_to_end k xs = take_all (length xs - k) (drop k xs) (omega (arith, length-drop k xs))

-- the first piece is as long as it is found to be
pub first-length : (s : ℕ) (text : List ℕ) → length (first_piece s text) ≡ piece_length s text
unfolding first_piece
first-length s text = length-take-le (piece_length s text) text (piece-within s text)

-- a text whose first piece is the whole of it is its first piece
pub first-whole : (s : ℕ) (text : List ℕ) → piece_length s text ≡ length text → first_piece s text ≡ text
unfolding first_piece
first-whole s text h = ap (λ k. take k text) h ∙ take-length text

-- a text is its only piece, or its first piece is shorter
pub data Parted (s : ℕ) (text : List ℕ) : Type 0 where
  whole : piece_length s text ≡ length text → Parted s text
  shorter : piece_length s text < length text → Parted s text

-- each text is one of the two
pub parted : (s : ℕ) (text : List ℕ) → Parted s text
parted s text = by (ltb (piece_length s text) (length text)) refl
  where
    by : (t : Bool) → ltb (piece_length s text) (length text) ≡ t → Parted s text
    by true e = shorter (ltb-true (piece_length s text) (length text) e)
    by false e = whole (omega (arith, ltb-false (piece_length s text) (length text) e, piece-within s text))

-- the first of a text's pieces is its first piece
pub first_of_pieces : (s : ℕ) (text : List ℕ) → get_or (pieces_at s text) 0 [] ≡ first_piece s text
first_of_pieces s text = by (parted s text)
  where
    by : Parted s text → get_or (pieces_at s text) 0 [] ≡ first_piece s text
    by (whole h) = ap (λ pieces. get_or pieces 0 []) (pieces_one s text h) ∙ sym (first-whole s text h)
    by (shorter h) = ap (λ pieces. get_or pieces 0 []) (pieces_more s text h)

-- of several pieces, the others are those of what stands behind the first
pub pieces_several : (s : ℕ) (text : List ℕ) → 2 ≤ length (pieces_at s text)
    → pieces_at s text ≡ first_piece s text ∷ pieces_at s (behind_piece s text)
pieces_several s text several = by (parted s text)
  where
    by : Parted s text → pieces_at s text ≡ first_piece s text ∷ pieces_at s (behind_piece s text)
    by (whole h) = absurd (omega (arith, ap length (pieces_one s text h)))
    by (shorter h) = pieces_more s text h
