-- A loop over pieces of a text that writes what each says at a fixed width behind what the piece before says: the codes of a row, a name, a branch
-- record or an ancestor for a line, a code or a weight for a field.
use mathlib.Core.Path.{◌≡◌, sym, ap, ap₂, ◌∙◌}
use mathlib.Core.List.{List, [], ◌∷◌, ◌++◌, map, map-append}
use Prim.Native.Nat.{ℕ, ◌+◌, ◌-◌, ◌*◌, ◌≤◌, ◌<◌}
use native.Mathlib.Nat.{zero-add, mul-le-mul_right}
use native.Mathlib.Numerals.{add-one}
use native.Mathlib.Omega.{arith}
use borrow.Rule.Slice.PartMut.{put_mid}
use lib.ListN.{length, get_or, take, drop, length-take, length-drop, length-map}
use lib.Seq.{take_all, take-suc, drop-cons, length-take-le}
use Rattle.lists.specs.Over.{over, stripes}
use Rattle.lists.proofs.Over.{over-lent}
use Rattle.lists.proofs.Stripes.{stripes-snoc}
use Rattle.matrix_form.specs.Shape.{columns}
use Rattle.text_form.specs.Bytes.{tab, pieces_at, first_piece, behind_piece}
use Rattle.text_form.specs.Lines.{fields_of}
use Rattle.file_form.specs.Rows.{name_in}
use Rattle.file_form.specs.Job.{name_size}
use Rattle.file_form.proofs.Rows.Names.{name_length, name_first}
use Rattle.text_form.proofs.FirstPart.{Parted, whole, shorter, parted, first_of_pieces, pieces_one, pieces_more}
use Rattle.lists.proofs.Rests.{rest-next}
use Rattle.matrix_file.proofs.Lists.RowFormed.{RowFormed}

-- a line of the right form has at most 128 codes
pub codes_few : (line : List ℕ) → RowFormed line → length (drop 1 (fields_of line)) ≤ columns
codes_few line formed = let few = formed.few in omega (arith, length-drop 1 (fields_of line))

-- the name of a line of the right form, its first piece, has at most 16 bytes
pub name_short : (line : List ℕ) → RowFormed line → length (first_piece tab line) ≤ name_size
name_short line formed = omega (arith, ap length (name_first line), name_length (name_in line) formed.named)

-- behind i of the first `count` pieces of a text, the rest is parted into the pieces from there on
module _ (separator count i : ℕ) (text rest : List ℕ) (enough : count ≤ length (pieces_at separator text)) (below : i < count)
    (walk : pieces_at separator rest ≡ drop i (pieces_at separator text)) where
  -- its first piece is the next one
  pub next_piece : first_piece separator rest ≡ get_or (pieces_at separator text) i []
  next_piece =
      sym (first_of_pieces separator rest)
      ∙ ap (λ pieces. get_or pieces 0 []) (walk ∙ drop-cons (pieces_at separator text) i [] (omega (arith, enough, below)))

  -- and what stands behind its separator is parted into those behind it, if one is left
  pub next_rest : i + 1 < count → pieces_at separator (behind_piece separator rest) ≡ drop (i + 1) (pieces_at separator text)
  next_rest more = by (parted separator rest)
    where
      by : Parted separator rest → pieces_at separator (behind_piece separator rest) ≡ drop (i + 1) (pieces_at separator text)
      by (whole all) =
          absurd (omega (arith, more, enough, ap length (pieces_one separator rest all), ap length walk, length-drop i (pieces_at separator text)))
      by (shorter part) = sym (rest-next (pieces_at separator text) i _ _ (sym walk ∙ pieces_more separator rest part))

-- the place of an item, in a list with room for `count` of them
module _ {A : Type 0} (width count i : ℕ) (below : i < count) (out : List A) (room : count * width ≤ length out) where
  -- the list has room for it
  pub item_room : i * width + width ≤ length out
  item_room = let next : i + 1 ≤ count = omega arith in omega (arith, mul-le-mul_right width next)

  -- so has what is left of the list there
  pub piece_room : width ≤ length (take (length out - i * width) (drop (i * width) out))
  piece_room = omega (arith, item_room, length-take (length out - i * width) (drop (i * width) out), length-drop (i * width) out)

-- what pieces say, written one behind another at a fixed width
module _ {A : Type 0} (width : ℕ) (says : List ℕ → List A) (pieces : List (List ℕ)) (old : List A) where
  -- what the first i pieces say is written
  abbrev pub PiecesWritten : ℕ → List A → Type 0
  PiecesWritten i new = new ≡ stripes width 0 (map says (take i pieces)) old

  -- one piece more: what it says is written over what stands behind the items before it
  pub piece_written : (i : ℕ) (piece : List ℕ) → i < length pieces → piece ≡ get_or pieces i [] → (new last : List A) → PiecesWritten i new
      → i * width ≤ length new → last ≡ over 0 (says piece) (take (length new - i * width) (drop (i * width) new))
      → PiecesWritten (i + 1) (put_mid (i * width) (length new - i * width) new last)
  piece_written i piece below p new last inv room w =
      let place : i * width ≡ 0 + length (map says (take i pieces)) * width =
      ap (λ k. k * width) (sym (length-map (take i pieces) says ∙ length-take-le i pieces (omega arith))) ∙ sym (zero-add _) in
      let more : map says (take i pieces) ++ (says piece ∷ []) ≡ map says (take (i + 1) pieces) =
      sym (map-append says (take i pieces) (piece ∷ []))
      ∙ ap (λ x. map says (take i pieces ++ (x ∷ []))) p
      ∙ ap (map says) (sym (take-suc pieces i [] below) ∙ ap (λ k. take k pieces) (sym (add-one i))) in
      ap (put_mid (i * width) (length new - i * width) new) w
      ∙ over-lent (i * width) (says piece) new room
      ∙ ap₂ (λ k xs. over k (says piece) xs) place inv
      ∙ sym (stripes-snoc width 0 (map says (take i pieces)) (says piece) old)
      ∙ ap (λ items. stripes width 0 items old) more

-- what stands behind the first tab of a line with so many tabs
module _ (line : List ℕ) (tabs : ℕ) (e : tabs + 1 ≡ length (fields_of line)) (rest : List ℕ) (r : rest ≡ behind_piece tab line) where
  -- as many fields stand behind the first one
  pub fields_count : length (drop 1 (fields_of line)) ≡ tabs
  fields_count = omega (arith, e, length-drop 1 (fields_of line))

  -- they are the first pieces of it
  pub fields_behind : take tabs (pieces_at tab rest) ≡ drop 1 (fields_of line)
  unfolding fields_of
  fields_behind = ap (λ text. take tabs (pieces_at tab text)) r ∙ by (parted tab line)
    where
      by : Parted tab line → take tabs (pieces_at tab (behind_piece tab line)) ≡ drop 1 (pieces_at tab line)
      by (whole all) =
          let one = pieces_one tab line all in
          let none : tabs ≡ 0 = omega (arith, e, ap length one) in
          ap (λ k. take k (pieces_at tab (behind_piece tab line))) none ∙ ap (drop 1) (sym one)
      by (shorter part) =
          let more = pieces_more tab line part in
          take_all tabs (pieces_at tab (behind_piece tab line)) (omega (arith, e, ap length more)) ∙ ap (drop 1) (sym more)

  -- which has so many
  pub fields_enough : tabs ≤ length (pieces_at tab rest)
  fields_enough = omega (arith, fields_count, ap length fields_behind, length-take tabs (pieces_at tab rest))
