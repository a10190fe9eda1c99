-- The rows of a matrix file: what a row's line says, and the questions put to it (5 to 10).
use Rattle.std.specs.Prelude.{List, [], map, ℕ, suc, eqb, ℤ, length, get_or, drop}
use Rattle.matrix_form.specs.Questions.{ask_code}
use Rattle.matrix_form.specs.Outcomes.{Asked, ask, ask_each}
use Rattle.matrix_form.specs.declared.refusal.Refusal.TheVariants.{LineMissing, NameForm, NameTaken, FieldCount, CodeForm}
use Rattle.file_form.specs.declared.header.Header.{Header}
use Rattle.text_form.specs.Decimal.{code_form, code_of}
use Rattle.file_form.specs.Job.{name_form, differs_from_all}
use Rattle.text_form.specs.Lines.{fields_of}
use Rattle.file_form.specs.Lines.{LineSort}

-- the name that a row's line says: its first field
unfoldable pub name_in : List ℕ → List ℕ
name_in line = get_or (fields_of line) 0 []

-- the codes that it says: the other fields
unfoldable pub codes_in : List ℕ → List ℤ
codes_in line = map code_of (drop 1 (fields_of line))

-- the questions put to the field of a code: is its form right? then those put to the code
unfoldable pub ask_field : List ℕ → Asked
ask_field field = ask (code_form field) CodeForm (ask_code (code_of field))

-- those put to the fields of codes, from the left
unfoldable pub ask_codes : List (List ℕ) → Asked
ask_codes fields = ask_each ask_field fields

-- a row's line has exactly m + 1 fields; its name is well formed and differs from every earlier one; its codes
unfoldable pub ask_row : Header → List (List ℕ) → List ℕ → Asked
ask_row header earlier line =
    ask (eqb (length (fields_of line)) (suc header.m)) FieldCount
    (ask (name_form (name_in line)) NameForm
    (ask (differs_from_all (name_in line) earlier) NameTaken (ask_codes (drop 1 (fields_of line)))))

-- the rows of a file with this header: the names of the rows before are handed to a row's questions
abbrev pub row_sort : Header → LineSort
row_sort header = record { missing = LineMissing; asks = λ earlier line. ask_row header (map name_in earlier) line }
