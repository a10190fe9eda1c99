-- A row that is written as document 01 wants it says what was written, and passes its questions.
use mathlib.Core.Path.{◌≡◌, refl, ap, ap₂, ◌∙◌, subst⁻¹}
use mathlib.Core.List.{List, [], ◌∷◌, map, zip_with}
use mathlib.Core.Bool.{true}
use Prim.Native.Nat.{ℕ, suc}
use native.Mathlib.Omega.{arith}
use lib.IntN.{ℤ, pos, negsuc}
use lib.ListN.{length, length-map}
use borrow.Author.Tests.{eq-eqb, eqb-true, le-leb, leb-true}
use Rattle.matrix_form.specs.Shape.{in_range}
use Rattle.matrix_form.specs.Questions.{all_in_range, ask_code}
use Rattle.std.specs.Prelude.{Ok}
use Rattle.matrix_form.specs.Outcomes.{ask_each}
use Rattle.file_form.specs.declared.header.Header.{Header}
use Rattle.lists.specs.Tests.{every}
use Rattle.text_form.specs.Bytes.{line_feed}
use Rattle.text_form.specs.Decimal.{decimal, code_form, code_of}
use Rattle.file_form.specs.Job.{name_form, has_codes, row_text}
use Rattle.text_form.specs.Lines.{fields_of}
use Rattle.file_form.specs.Rows.{name_in, codes_in, ask_field, ask_codes, ask_row, row_sort}
use Rattle.lists.proofs.Both.{and_left, and_right, and_both}
use Rattle.lists.proofs.Every.{every-head, every-tail, every-cons}
use Rattle.text_form.proofs.Parts.{lacks}
use Rattle.text_form.proofs.Digits.{digits_form, number_of_digits}
use Rattle.text_form.proofs.Codes.{digits_code_form, code_of-decimal}
use Rattle.text_form.proofs.Plain.{plain, decimals_plain, line_fields, line_lacks}
use Rattle.file_form.proofs.Rows.Names.{name_plain}
use Rattle.file_form.proofs.File.InTurn.{AllPass}
use Rattle.file_form.proofs.Rows.Within.{RowWithin, RowsWithin, rows-first, rows-others}

-- codes are read back from what is written
codes_back : (codes : List ℤ) → map code_of (map decimal codes) ≡ codes
codes_back [] = refl
codes_back (code ∷ codes) = ap₂ ◌∷◌ (code_of-decimal code) (codes_back codes)

-- a code from -999 to 999 is written in the right form
decimal_form : (code : ℤ) → in_range code ≡ true → code_form (decimal code) ≡ true
unfolding in_range decimal code_form
decimal_form (pos n) e =
    let small = leb-true n _ e in
    digits_code_form n ∙ digits_form n (omega arith)
decimal_form (negsuc n) e =
    let small = leb-true (suc n) _ e in
    and_both (digits_form (suc n) (omega arith)) (rw number_of_digits (le-leb 1 (suc n) (omega arith)))

-- codes from -999 to 999 pass their questions
codes_pass : (codes : List ℤ) → all_in_range codes ≡ true → ask_codes (map decimal codes) ≡ Ok tt
unfolding ask_codes ask_each ask_field ask_code all_in_range every
codes_pass [] e = refl
codes_pass (code ∷ codes) e =
    let near = and_left (in_range code) (all_in_range codes) e in
    rw (decimal_form code near, code_of-decimal code, near) (codes_pass codes (and_right (in_range code) (all_in_range codes) e))

-- the line of a row whose name is well formed
module _ (name : List ℕ) (codes : List ℤ) (formed : name_form name ≡ true) where
  -- its fields hold neither a tab nor a line feed
  fields_plain : every plain (name ∷ map decimal codes) ≡ true
  fields_plain = every-cons plain name (map decimal codes) (name_plain name formed) (decimals_plain codes)

  -- the fields of a row's line are its name and its codes
  pub row_fields : fields_of (row_text name codes) ≡ name ∷ map decimal codes
  unfolding row_text
  row_fields = line_fields name (map decimal codes) fields_plain

  -- its name and its codes are read back
  pub row_name : name_in (row_text name codes) ≡ name
  unfolding name_in
  row_name = rw row_fields

  -- and so are its codes
  pub row-codes : codes_in (row_text name codes) ≡ codes
  unfolding codes_in
  row-codes = rw row_fields (codes_back codes)

  -- a row's line holds no line feed
  pub row_lacks : lacks line_feed (row_text name codes) ≡ true
  unfolding row_text
  row_lacks = line_lacks name (map decimal codes) fields_plain

-- a row's line passes its questions
pub row_passes : (header : Header) (earlier : List (List ℕ)) (name : List ℕ) (codes : List ℤ)
    → RowWithin header.m earlier name codes → ask_row header earlier (row_text name codes) ≡ Ok tt
unfolding ask_row has_codes name_in
row_passes header earlier name codes within =
    let count : length (map decimal codes) ≡ header.m = length-map codes decimal ∙ eqb-true (length codes) header.m within.full in
    let same = eq-eqb (suc (length (map decimal codes))) (suc header.m) (ap suc count) in
    rw (row_fields name codes within.formed, same, within.formed, within.apart) (codes_pass codes within.near)

-- the lines of rows hold no line feed
pub rows_lack : (names : List (List ℕ)) (rows : List (List ℤ)) → every name_form names ≡ true
    → every (lacks line_feed) (zip_with row_text names rows) ≡ true
unfolding zip_with every
rows_lack [] rows e = refl
rows_lack (name ∷ names) [] e = refl
rows_lack (name ∷ names) (codes ∷ rows) e =
    every-cons (lacks line_feed) (row_text name codes) (zip_with row_text names rows)
    (row_lacks name codes (every-head name_form name names e))
    (rows_lack names rows (every-tail name_form name names e))

-- rows within the limits pass their questions
pub rows_pass : (header : Header) (earlier names : List (List ℕ)) (rows : List (List ℤ))
    → RowsWithin header.m (map name_in earlier) names rows → AllPass (row_sort header) earlier (zip_with row_text names rows)
unfolding zip_with
rows_pass header earlier [] rows within = tt
rows_pass header earlier (name ∷ names) [] within = tt
rows_pass header earlier (name ∷ names) (codes ∷ rows) within =
    let first = rows-first within in (
      row_passes header (map name_in earlier) name codes first,
      rows_pass header (row_text name codes ∷ earlier) names rows
          (subst⁻¹ (λ said. RowsWithin header.m (said ∷ map name_in earlier) names rows) (row_name name codes first.formed)
          (rows-others within)),
    )

-- names and codes are read back from the rows' lines
pub names_back : {m : ℕ} {earlier : List (List ℕ)} (names : List (List ℕ)) (rows : List (List ℤ)) → RowsWithin m earlier names rows
    → map name_in (zip_with row_text names rows) ≡ names
unfolding zip_with
names_back [] rows within = refl
names_back (name ∷ names) [] within = absurd (omega arith)
names_back (name ∷ names) (codes ∷ rows) within =
    ap₂ ◌∷◌ (row_name name codes (rows-first within).formed) (names_back names rows (rows-others within))

-- and the codes
pub rows_back : {m : ℕ} {earlier : List (List ℕ)} (names : List (List ℕ)) (rows : List (List ℤ)) → RowsWithin m earlier names rows
    → map codes_in (zip_with row_text names rows) ≡ rows
unfolding zip_with
rows_back [] [] within = refl
rows_back [] (codes ∷ rows) within = absurd (omega arith)
rows_back (name ∷ names) [] within = absurd (omega arith)
rows_back (name ∷ names) (codes ∷ rows) within =
    ap₂ ◌∷◌ (row-codes name codes (rows-first within).formed) (rows_back names rows (rows-others within))
