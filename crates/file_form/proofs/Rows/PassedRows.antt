-- Rows that pass their questions are within the limits, and written in the one way.
use mathlib.Core.Path.{◌≡◌, refl, sym, ap, ap₂, ◌∙◌}
use mathlib.Core.List.{List, [], ◌∷◌, map, zip_with}
use mathlib.Core.Bool.{true}
use Prim.Native.Nat.{ℕ, suc}
use native.Mathlib.Omega.{arith}
use lib.Dec.{eqb}
use lib.ListN.{length, length-map, take, drop}
use borrow.Author.Tests.{eq-eqb, eqb-true, le-leb}
use Rattle.lists.specs.Tests.{every}
use Rattle.matrix_form.specs.Shape.{in_range, most_taxa, most_characters}
use Rattle.matrix_form.specs.Questions.{all_in_range, one_to, within_limits, ask_code}
use Rattle.matrix_form.specs.declared.refusal.Refusal.TheVariants.{NameForm, NameTaken, FieldCount, CodeForm, CodeRange}
use Rattle.std.specs.Prelude.{Ok}
use Rattle.matrix_form.specs.Outcomes.{ask_each}
use Rattle.file_form.specs.declared.header.Header.{Header}
use Rattle.text_form.specs.Bytes.{tab, joined_by}
use Rattle.text_form.specs.Decimal.{decimal, code_form, code_of}
use Rattle.file_form.specs.Job.{name_form, differs_from_all, has_codes, row_text}
use Rattle.text_form.specs.Lines.{fields_of}
use Rattle.file_form.specs.Rows.{name_in, codes_in, ask_field, ask_codes, ask_row, row_sort}
use Rattle.lists.proofs.Both.{and_right, and_both}
use Rattle.text_form.proofs.Parts.{pieces_some, joined_pieces}
use Rattle.text_form.proofs.Codes.{decimal_of_code}
use Rattle.file_form.proofs.Rows.Within.{RowWithin, RowsWithin, rows_none, rows_more}
use Rattle.matrix_form.proofs.Each.{and_then_passed}
use Rattle.matrix_form.proofs.Passing.{ask_passed, one_to-true}
use Rattle.file_form.specs.Formed.{row_form}
use Rattle.file_form.proofs.File.InTurn.{AllPass, LinesPassed}

-- codes that pass are from -999 to 999 and written in the one way
codes_read : (fields : List (List ℕ)) → ask_codes fields ≡ Ok tt
    → (all_in_range (map code_of fields) ≡ true) × (map decimal (map code_of fields) ≡ fields)
unfolding ask_codes ask_each ask_field ask_code all_in_range every
codes_read [] e = (refl, refl)
codes_read (field ∷ fields) e =
    let both = and_then_passed (ask_field field) (ask_codes fields) e in
    let form = ask_passed (code_form field) CodeForm _ both.0 in
    let near = ask_passed (in_range (code_of field)) CodeRange _ form.1 in
    let others = codes_read fields both.1 in
    (and_both near.0 others.0, ap₂ ◌∷◌ (decimal_of_code field form.0) others.1)

-- a name and codes are the fields of a line
fields_split : (line : List ℕ) → fields_of line ≡ name_in line ∷ drop 1 (fields_of line)
unfolding name_in fields_of
fields_split line = rw (pieces_some tab line).2

-- a row that passes was answered "yes" four times
module _ (header : Header) (earlier : List (List ℕ)) (line : List ℕ) (e : ask_row header earlier line ≡ Ok tt) where
  -- the four answers
  pub row-answers :
      (length (fields_of line) ≡ suc header.m) × (name_form (name_in line) ≡ true) × (differs_from_all (name_in line) earlier ≡ true)
      × (ask_codes (drop 1 (fields_of line)) ≡ Ok tt)
  unfolding ask_row
  row-answers =
      let count = ask_passed (eqb (length (fields_of line)) (suc header.m)) FieldCount _ e in
      let formed = ask_passed (name_form (name_in line)) NameForm _ count.1 in
      let differs = ask_passed (differs_from_all (name_in line) earlier) NameTaken _ formed.1 in
      (eqb-true (length (fields_of line)) (suc header.m) count.0, formed.0, differs.0, differs.1)

  -- it is within the limits
  pub row_within : RowWithin header.m earlier (name_in line) (codes_in line)
  unfolding codes_in has_codes
  row_within =
      let count = row-answers.0 in
      let split = ap length (fields_split line) in
      record {
        formed = row-answers.1;
        apart = row-answers.2;
        full = eq-eqb (length (map code_of (drop 1 (fields_of line)))) header.m (length-map (drop 1 (fields_of line)) code_of ∙ omega arith);
        near = (codes_read (drop 1 (fields_of line)) row-answers.3).0;
      }

  -- and written in the one way
  pub row_written : row_text (name_in line) (codes_in line) ≡ line
  unfolding codes_in row_text fields_of
  row_written =
      ap (λ codes. joined_by tab (name_in line ∷ codes)) (codes_read (drop 1 (fields_of line)) row-answers.3).1
      ∙ ap (joined_by tab) (sym (fields_split line))
      ∙ joined_pieces tab line

-- some lines and what their rows say, behind these earlier names: within the limits and written in the one way
pub record RowsRead (header : Header) (earlier : List (List ℕ)) (left : ℕ) (lines : List (List ℕ)) : Type 0 where
  pub count : length (take left lines) ≡ left
  pub within : RowsWithin header.m earlier (map name_in (take left lines)) (map codes_in (take left lines))
  pub written : zip_with row_text (map name_in (take left lines)) (map codes_in (take left lines)) ≡ take left lines

-- rows that pass are within the limits
rows-within : (header : Header) (earlier lines : List (List ℕ)) → AllPass (row_sort header) earlier lines
    → RowsWithin header.m (map name_in earlier) (map name_in lines) (map codes_in lines)
rows-within header earlier [] pass = rows_none header.m (map name_in earlier)
rows-within header earlier (line ∷ lines) pass =
    rows_more (row_within header (map name_in earlier) line pass.0) (rows-within header (line ∷ earlier) lines pass.1)

-- and written in the one way
rows-written : (header : Header) (earlier lines : List (List ℕ)) → AllPass (row_sort header) earlier lines
    → zip_with row_text (map name_in lines) (map codes_in lines) ≡ lines
unfolding zip_with
rows-written header earlier [] pass = refl
rows-written header earlier (line ∷ lines) pass =
    ap₂ ◌∷◌ (row_written header (map name_in earlier) line pass.0) (rows-written header (line ∷ earlier) lines pass.1)

-- rows that pass were read so
pub rows_read : (header : Header) (earlier : List (List ℕ)) (left : ℕ) (lines : List (List ℕ))
    → LinesPassed (row_sort header) earlier left lines → RowsRead header (map name_in earlier) left lines
rows_read header earlier left lines passed =
    record {
      count = passed.count;
      within = rows-within header earlier (take left lines) passed.pass;
      written = rows-written header earlier (take left lines) passed.pass;
    }

-- codes that pass have the right form
codes-formed : (fields : List (List ℕ)) → ask_codes fields ≡ Ok tt → every code_form fields ≡ true
unfolding ask_codes ask_each ask_field every
codes-formed [] e = refl
codes-formed (field ∷ fields) e =
    let both = and_then_passed (ask_field field) (ask_codes fields) e in
    and_both (ask_passed (code_form field) CodeForm _ both.0).0 (codes-formed fields both.1)

-- a row that passes is well formed
row-formed : (header : Header) (earlier : List (List ℕ)) (line : List ℕ) → within_limits header.n header.m ≡ true
    → ask_row header earlier line ≡ Ok tt → row_form line ≡ true
unfolding row_form within_limits
row-formed header earlier line limits e =
    let answers = row-answers header earlier line e in
    let count = answers.0 in
    let some = one_to-true most_characters header.m (and_right (one_to most_taxa header.n) (one_to most_characters header.m) limits) in
    and_both
    (and_both (le-leb 2 (length (fields_of line)) (omega arith)) (le-leb (length (fields_of line)) (suc most_characters) (omega arith)))
    (and_both answers.1 (codes-formed (drop 1 (fields_of line)) answers.3))

-- rows that pass are well formed
pub rows-formed : (header : Header) (earlier lines : List (List ℕ)) → within_limits header.n header.m ≡ true
    → AllPass (row_sort header) earlier lines → every row_form lines ≡ true
unfolding every
rows-formed header earlier [] limits pass = refl
rows-formed header earlier (line ∷ lines) limits pass =
    and_both (row-formed header (map name_in earlier) line limits pass.0) (rows-formed header (line ∷ earlier) lines limits pass.1)
