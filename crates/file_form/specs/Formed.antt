-- Lines of a text that are well formed: the `V` line, rows and `C` lines, and the record that a `C` line says. Laws about accepted files
-- speak of them.
use Rattle.std.specs.Prelude.{◌≡◌, List, [], Bool, true, ◌&&◌, ℕ, suc, ◌+◌, ◌<◌, leb, length, get_or, take, drop}
use Rattle.lists.specs.Tests.{every}
use Rattle.matrix_form.specs.Shape.{most_characters}
use Rattle.matrix_form.specs.Outcomes.{Asked}
use Rattle.matrix_form.specs.declared.refusal.Refusal.TheVariants.{WeightForm}
use Rattle.file_form.specs.declared.header.Header.{Header}
use Rattle.file_form.specs.Optional.{optional_fields, ask_optional}
use Rattle.file_form.specs.Weights.{weights_form}
use Rattle.tree_form.specs.LentNumbers.{record_numbers}
use Rattle.text_form.specs.Decimal.{number_of, code_form}
use Rattle.file_form.specs.Job.{name_form}
use Rattle.text_form.specs.Lines.{lines_of, fields_of}
use Rattle.file_form.specs.Rows.{name_in}
use Rattle.file_form.specs.Branches.{branch_form, ancestor_in}

-- the question put to the `V` line, the first of the lines behind line 1: if it is there, is it well formed?
unfoldable pub ask_weights : Header → List (List ℕ) → Asked
ask_weights header behind = ask_optional header.weighed (weights_form header.m (optional_fields behind)) WeightForm behind

-- a row's line: a name and 1 to 128 codes, all of the right form
unfoldable pub row_form : List ℕ → Bool
row_form line =
    (leb 2 (length (fields_of line)) && leb (length (fields_of line)) (suc most_characters))
    && (name_form (name_in line) && every code_form (drop 1 (fields_of line)))

-- a text has n lines ended by a line feed, each a row's
pub record RowsFormed (n : ℕ) (rows : List ℕ) : Type 0 where
  pub count : n < length (lines_of rows)
  pub formed : every row_form (take n (lines_of rows)) ≡ true

-- a text has so many lines ended by a line feed, each the `C` line of its node
pub record BranchesFormed (count : ℕ) (text : List ℕ) : Type 0 where
  pub more : count < length (lines_of text)
  pub formed : (k : ℕ) → k < count → branch_form (k + 2) (fields_of (get_or (lines_of text) k [])) ≡ true

-- the record that a `C` line says
abbrev pub record_in : List ℕ → List ℕ
record_in line = record_numbers (number_of (get_or (fields_of line) 1 [])) (ancestor_in line)
