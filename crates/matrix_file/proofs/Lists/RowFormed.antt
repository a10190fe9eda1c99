-- What a row's line of the right form is made of.
use mathlib.Core.Path.{◌≡◌, ap, ◌∙◌}
use mathlib.Core.List.{List, []}
use mathlib.Core.Bool.{true, ◌&&◌}
use Prim.Native.Nat.{ℕ, suc, ◌≤◌, ◌<◌}
use borrow.Author.Tests.{leb-true}
use lib.Dec.{leb}
use lib.ListN.{length, get_or, take, drop}
use Rattle.lists.specs.Tests.{every}
use Rattle.matrix_form.specs.Shape.{most_characters}
use Rattle.text_form.specs.Decimal.{code_form}
use Rattle.file_form.specs.Job.{name_form}
use Rattle.text_form.specs.Lines.{lines_of, fields_of}
use Rattle.file_form.specs.Rows.{name_in}
use Rattle.file_form.specs.Formed.{row_form, RowsFormed}
use Rattle.lists.proofs.Both.{and_left, and_right}
use Rattle.lists.proofs.Every.{every_at}

-- what a row's line of the right form is made of
pub record RowFormed (line : List ℕ) : Type 0 where
  pub several : 2 ≤ length (fields_of line)
  pub few : length (fields_of line) ≤ suc most_characters
  pub named : name_form (name_in line) ≡ true
  pub coded : every code_form (drop 1 (fields_of line)) ≡ true

-- a line of the right form is made so
pub row-formed : (line : List ℕ) → row_form line ≡ true → RowFormed line
unfolding row_form
row-formed line e =
    let count = and_left (leb 2 (length (fields_of line)) && leb (length (fields_of line)) (suc most_characters)) _ e in
    let rest = and_right (leb 2 (length (fields_of line)) && leb (length (fields_of line)) (suc most_characters)) _ e in
    record {
      several = leb-true 2 (length (fields_of line)) (and_left (leb 2 (length (fields_of line))) _ count);
      few = leb-true (length (fields_of line)) (suc most_characters) (and_right (leb 2 (length (fields_of line))) _ count);
      named = and_left (name_form (name_in line)) _ rest;
      coded = and_right (name_form (name_in line)) _ rest;
    }

-- a line of rows that are well formed is one
pub line-formed : (rows : List ℕ) (n : ℕ) → RowsFormed n rows → (line : List ℕ) (i : ℕ) → i < length (take n (lines_of rows))
    → line ≡ get_or (take n (lines_of rows)) i [] → RowFormed line
line-formed rows n formed line i h l =
    row-formed line (ap row_form l ∙ every_at row_form (take n (lines_of rows)) formed.formed i [] h)
