-- The questions on the codes of a row, field by field.
use mathlib.Core.Path.{◌≡◌, sym, ap, ◌∙◌}
use mathlib.Core.List.{List}
use Prim.Native.Nat.{ℕ, ◌+◌, ◌<◌}
use native.Mathlib.Omega.{arith}
use lib.Dec.{eqb}
use lib.IntN.{ℤ}
use lib.ListN.{length, get_or, drop}
use Rattle.std.specs.Prelude.{None, Some, Ok, Err}
use Rattle.std.specs.List.{slice_split}
use Rattle.text_form.specs.Bytes.{tab}
use Rattle.text_form.specs.Decimal.{code_form, code_of}
use Rattle.text_form.specs.Lines.{fields_of}
use Rattle.file_form.specs.Rows.{ask_field, ask_codes}
use Rattle.text_form.proofs.Slices.{pieces_split}
use Rattle.matrix_form.specs.declared.refusal.Refusal.{Refusal}
use Rattle.matrix_form.specs.declared.refusal.Refusal.TheVariants.{CodeForm}
use Rattle.matrix_form.specs.Outcomes.{Asked, ask}
use Rattle.matrix_form.specs.Questions.{ask_code}
use Rattle.matrix_form.proofs.Each.{turn-refused, turn_passed, turns_ended}
use Rattle.file_text.specs.Steps.{read_as}
use Rattle.file_text.proofs.ReadAs.{formed_read, formless_read}

-- the questions on the field of a code
module _ (field : List ℕ) where
  -- its form is not right
  pub bad_form : None ≡ read_as code_form code_of field → Err CodeForm ≡ ask_field field
  unfolding ask_field
  bad_form e = sym (ap (λ b. ask b CodeForm (ask_code (code_of field))) (formless_read code_form code_of field e))

  -- its form is right: the code decides
  pub code_decides : (code : ℤ) → Some code ≡ read_as code_form code_of field → (answer : Asked) → answer ≡ ask_code code → answer
      ≡ ask_field field
  unfolding ask_field
  code_decides code e answer a =
      let read = formed_read code_form code_of field code e in
      a ∙ sym (ap (λ b. ask b CodeForm (ask_code (code_of field))) read.0 ∙ ap ask_code (sym read.1))

-- a turn of a loop over the fields of a line behind the first one, behind `count` of them, where those that are left decide
module _ (line : List ℕ) (count : ℕ) (left : ask_codes (drop 1 (fields_of line)) ≡ ask_codes (drop count (drop 1 (fields_of line)))) where
  -- the fields, and the pieces that the loop goes over
  abbrev fields : List (List ℕ)
  fields = drop 1 (fields_of line)

  -- they are the same
  abbrev pieces : List (List ℕ)
  pieces = drop 1 (slice_split (λ byte. eqb byte tab) line)

  -- that is a law of pieces
  same : pieces ≡ fields
  unfolding fields_of
  same = ap (drop 1) (sym (pieces_split tab line))

  module _ (field : List ℕ) (turn : (count < length pieces) × (field ≡ get_or pieces count field)) where
    -- the field is that of the same place
    its_index : (count < length fields) × (field ≡ get_or fields count field)
    its_index = (omega (arith, turn.0, ap length same), turn.1 ∙ ap (λ all. get_or all count field) same)

    -- it is refused
    pub walk-refused : (refusal : Refusal) → ask_field field ≡ Err refusal → Err refusal ≡ ask_codes fields
    unfolding ask_codes
    walk-refused refusal e = turn-refused ask_field fields count left field field its_index.0 its_index.1 refusal e

    -- it passes
    pub walk_passed : ask_field field ≡ Ok tt → ask_codes fields ≡ ask_codes (drop (count + 1) fields)
    unfolding ask_codes
    walk_passed e = turn_passed ask_field fields count left field field its_index.0 its_index.1 e

  -- no field is left
  pub walk_ended : count ≡ length pieces → Ok tt ≡ ask_codes fields
  unfolding ask_codes
  walk_ended e = turns_ended ask_field fields count left (omega (arith, e, ap length same))
