-- A name padded with zeros, read up to its first zero, is the name; so lent bytes that hold the names of taxa print them.
use mathlib.Core.Path.{◌≡◌, refl, sym, ap, ◌∙◌}
use mathlib.Core.Logic.{by_cases}
use mathlib.Core.Bool.{Bool, true, false, false≢true, ◌&&◌, ◌||◌}
use mathlib.Core.List.{List, [], ◌∷◌, ◌++◌}
use Prim.Native.Nat.{ℕ, zero, suc, ◌-◌, ◌≤◌, ◌<◌}
use native.Mathlib.Omega.{arith}
use native.Mathlib.Decide.{dec_le}
use lib.Dec.{leb, eqb}
use lib.ListN.{length, get_or, replicate}
use borrow.Author.Tests.{leb-true, eqb-true, ne_eqb}
use Rattle.lists.specs.Filled.{filled}
use Rattle.lists.specs.Tests.{every}
use Rattle.lists.proofs.Both.{and_left, and_right}
use Rattle.lists.proofs.Every.{every-head, every-tail}
use Rattle.text_form.specs.Bytes.{underscore, is_digit, is_letter, piece_length, first_piece, in_name}
use Rattle.file_form.specs.Job.{name_size, name_form}
use Rattle.file_form.specs.Written.{padded}
use Rattle.listing_form.specs.Lines.{node_name}
use Rattle.file_form.specs.Written.{names_in}
use Rattle.lines.proofs.Fields.{node_taxon, node_lent, node_htu}
use Rattle.listing.specs.Handed.{HoldsNames}

-- what passes one of two tests passes the first or the second
either : {P : Type 0} (a b : Bool) → (a || b) ≡ true → (a ≡ true → P) → (b ≡ true → P) → P
either true b e f g = f refl
either false b e f g = g e

-- a letter is not zero
letter_some : (byte : ℕ) → is_letter byte ≡ true → 1 ≤ byte
unfolding is_letter
letter_some byte e =
    either (leb 65 byte && leb byte 90) (leb 97 byte && leb byte 122) e
    (λ upper. omega (arith, leb-true 65 byte (and_left (leb 65 byte) (leb byte 90) upper)))
    (λ lower. omega (arith, leb-true 97 byte (and_left (leb 97 byte) (leb byte 122) lower)))

-- a byte of a name is not zero
byte_some : (byte : ℕ) → in_name byte ≡ true → 1 ≤ byte
unfolding in_name is_digit
byte_some byte e =
    either (is_letter byte) (is_digit byte || eqb byte underscore) e (letter_some byte) λ other.
    either (is_digit byte) (eqb byte underscore) other
    (λ digit. omega (arith, leb-true 48 byte (and_left (leb 48 byte) (leb byte 57) digit)))
    (λ line. omega (arith, eqb-true byte underscore line))

-- zeros read up to the first one are nothing
zeros : (count : ℕ) → first_piece 0 (replicate count 0) ≡ []
unfolding first_piece piece_length
zeros zero = refl
zeros (suc count) = refl

-- a byte that is no separator belongs to the first part
part_goes_on : (s b : ℕ) (bs : List ℕ) → (b ≡ s → ⊥) → first_piece s (b ∷ bs) ≡ b ∷ first_piece s bs
unfolding first_piece piece_length
part_goes_on s b bs e = rw (ne_eqb b s e)

-- bytes of a name, with zeros behind them
bytes_unpadded : (text : List ℕ) (count : ℕ) → every in_name text ≡ true → first_piece 0 (text ++ replicate count 0) ≡ text
bytes_unpadded [] count e = zeros count
bytes_unpadded (byte ∷ text) count e =
    let some = byte_some byte (every-head in_name byte text e) in
    part_goes_on 0 byte (text ++ replicate count 0) (λ none. omega arith)
    ∙ ap (λ rest. byte ∷ rest) (bytes_unpadded text count (every-tail in_name byte text e))

-- a padded name is read as the name
pub name_unpadded : (name : List ℕ) → name_form name ≡ true → first_piece 0 (padded name) ≡ name
unfolding name_form filled
name_unpadded [] e = absurd (false≢true e)
name_unpadded (byte ∷ text) e =
    let some = letter_some byte (and_left (is_letter byte) _ e) in
    let rest = and_left (every in_name text) _ (and_right (is_letter byte) _ e) in
    part_goes_on 0 byte (text ++ replicate (name_size - suc (length text)) 0) (λ none. omega arith)
    ∙ ap (λ others. byte ∷ others) (bytes_unpadded text (name_size - suc (length text)) rest)

-- a name has at most 16 bytes
pub name_short : (name : List ℕ) → name_form name ≡ true → length name ≤ name_size
unfolding name_form
name_short [] e = absurd (false≢true e)
name_short (byte ∷ text) e = leb-true (length (byte ∷ text)) 16 (and_right (every in_name text) _ (and_right (is_letter byte) _ e))

module _ (n : ℕ) (names : List (List ℕ)) (lent : List ℕ) (h : HoldsNames n names lent) where
  -- every node is printed the same by the names and by the lent bytes that hold them
  pub same_names : (v : ℕ) → node_name n (names_in n lent) v ≡ node_name n names v
  unfolding node_name
  same_names zero = refl
  same_names (suc v) =
      by_cases (dec_le (suc v) n)
      (λ taxon.
      let place : suc v - 1 < n = omega arith in
      sym (node_lent n lent (suc v) (λ e. omega arith) taxon)
      ∙ ap (first_piece 0) (h.held (suc v - 1) place)
      ∙ name_unpadded (get_or names (suc v - 1) []) (h.formed (suc v - 1) place)
      ∙ sym (node_taxon n names (suc v) (omega arith) taxon))
      (λ htu.
      let above : n < suc v = omega arith in
      node_htu n (names_in n lent) (suc v) above ∙ sym (node_htu n names (suc v) above))
