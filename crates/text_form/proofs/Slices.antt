-- The pieces of a text in std's words on slices: `split`, `position`, `filter` and `==`.
use mathlib.Core.Path.{◌≡◌, refl, sym, ap, ap₂, ◌∙◌}
use mathlib.Core.Bool.{Bool, true, false, not, cond, ◌&&◌}
use mathlib.Core.List.{List, [], ◌∷◌}
use Prim.Native.Nat.{ℕ, zero, suc, ◌+◌}
use native.Mathlib.Omega.{arith}
use borrow.Author.Tests.{ltb-false}
use denote.Ref.{Bor}
use lib.Dec.{eqb, ltb}
use lib.ListN.{length, get_or}
use Rattle.std.specs.Prelude.{Option, None, Some}
use Rattle.std.specs.Option.{option_map, unwrap_or}
use Rattle.std.specs.List.{slice_split, slice_get, onto_first, position_or_len, count_by, list_all}
use Rattle.std.specs.Cmp.Lexicographic.{pointwise}
use Rattle.std.proofs.lemmas.List.Splits.{length-slice_split}
use Rattle.lists.specs.Tests.{every, same_numbers as same_text}
use Rattle.lists.proofs.Both.{eqb-sym}
use Rattle.text_form.specs.Bytes.{tab, before_first, pieces_at, piece_length}
use Rattle.text_form.specs.Lines.{fields_of}
use Rattle.text_form.proofs.Parts.{pieces_at_lem, pieces_other}
use Rattle.text_form.proofs.FirstPart.{piece-within}

-- a byte put in front of the first piece is std's `onto_first`
before_onto : (b : ℕ) (pieces : List (List ℕ)) → before_first b pieces ≡ onto_first b pieces
before_onto b [] = refl
before_onto b (piece ∷ pieces) = refl

-- the pieces at a separator are those that `split` gives
pub pieces_split : (s : ℕ) (text : List ℕ) → pieces_at s text ≡ slice_split (λ byte. eqb byte s) text
unfolding pieces_at
pieces_split s [] = refl
pieces_split s (b ∷ bs) = by (eqb b s) refl (pieces_split s bs)
  where
    by : (t : Bool) → eqb b s ≡ t → pieces_at s bs ≡ slice_split (λ byte. eqb byte s) bs
        → pieces_at s (b ∷ bs) ≡ slice_split (λ byte. eqb byte s) (b ∷ bs)
    by true e rest = rw e (pieces_at_lem s b bs e ∙ ap (◌∷◌ []) rest)
    by false e rest = rw e (pieces_other s b bs e ∙ before_onto b (pieces_at s bs) ∙ ap (onto_first b) rest)

-- the length of the first piece is the index of the first separator, or that of the text
pub piece_position : (s : ℕ) (text : List ℕ) → position_or_len (λ byte. eqb byte s) text ≡ piece_length s text
unfolding piece_length
piece_position s [] = refl
piece_position s (b ∷ bs) = by (eqb b s) (piece_position s bs)
  where
    by : (t : Bool) → position_or_len (λ byte. eqb byte s) bs ≡ piece_length s bs
        → cond (not t) (1 + position_or_len (λ byte. eqb byte s) bs) 0 ≡ cond t 0 (suc (piece_length s bs))
    by true e = refl
    by false e = omega arith

-- so it is what a search for a separator finds
pub piece_found : (s : ℕ) (text : List ℕ) (r : Option ℕ)
    → r ≡ cond (ltb (position_or_len (λ byte. eqb byte s) text) (length text)) (Some (position_or_len (λ byte. eqb byte s) text)) None
    → unwrap_or r (length text) ≡ piece_length s text
piece_found s text r e =
    ap (λ x. unwrap_or x (length text))
    (e ∙ ap (λ k. cond (ltb k (length text)) (Some k) None) (piece_position s text))
    ∙ by (ltb (piece_length s text) (length text)) refl
  where
    by : (t : Bool) → ltb (piece_length s text) (length text) ≡ t → unwrap_or (cond t (Some (piece_length s text)) None) (length text) ≡ piece_length s text
    by true e = refl
    by false e = let past = ltb-false (piece_length s text) (length text) e in omega (arith, piece-within s text)

-- an item of a list of texts, or the empty text
item_or : (texts : List (List ℕ)) (place : ℕ) → unwrap_or (slice_get texts place) [] ≡ get_or texts place []
item_or [] place = refl
item_or (text ∷ texts) zero = refl
item_or (text ∷ texts) (suc place) = item_or texts place

-- what a reference to a text, or else to the empty text, points to
lent_or : (r : Option (Bor (List ℕ))) (none : Bor (List ℕ)) → none.now ≡ []
    → (unwrap_or r none).now ≡ unwrap_or (option_map (λ lent. lent.now) r) []
lent_or None none e = e
lent_or (Some lent) none e = refl

-- a field of a line is the piece at its place
pub field_found : (line : List ℕ) (place : ℕ) (r : Option (Bor (List ℕ))) (none found : Bor (List ℕ))
    → option_map (λ lent. lent.now) r ≡ slice_get (slice_split (λ byte. eqb byte tab) line) place → none.now ≡ [] → found ≡ unwrap_or r none
    → found.now ≡ get_or (fields_of line) place []
unfolding fields_of
field_found line place r none found e n f =
    ap (λ lent. lent.now) f
    ∙ lent_or r none n
    ∙ ap (λ x. unwrap_or x []) (e ∙ ap (λ pieces. slice_get pieces place) (sym (pieces_split tab line)))
    ∙ item_or (pieces_at tab line) place

-- there is one piece more than there are separators
pub pieces_counted : (s : ℕ) (text : List ℕ) → count_by (λ byte. eqb byte s) text + 1 ≡ length (pieces_at s text)
pieces_counted s text = sym (ap length (pieces_split s text) ∙ length-slice_split (λ byte. eqb byte s) text)

-- two texts are the same if `==` says so
pub same_pointwise : (xs ys : List ℕ) → pointwise eqb xs ys ≡ same_text xs ys
unfolding same_text
same_pointwise [] [] = refl
same_pointwise [] (y ∷ ys) = refl
same_pointwise (x ∷ xs) [] = refl
same_pointwise (x ∷ xs) (y ∷ ys) = ap (λ rest. eqb x y && rest) (same_pointwise xs ys)

-- whether they are does not depend on their order
pub same_turned : (xs ys : List ℕ) → same_text xs ys ≡ same_text ys xs
unfolding same_text
same_turned [] [] = refl
same_turned [] (y ∷ ys) = refl
same_turned (x ∷ xs) [] = refl
same_turned (x ∷ xs) (y ∷ ys) = ap₂ ◌&&◌ (eqb-sym x y) (same_turned xs ys)

-- every byte passes a test if `all` says so
pub every_all : (test : ℕ → Bool) (xs : List ℕ) → list_all test xs ≡ every test xs
unfolding every
every_all test [] = refl
every_all test (x ∷ xs) = ap (λ rest. test x && rest) (every_all test xs)
