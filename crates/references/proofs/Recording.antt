-- A finished tree as branch records, written into a lent list: what the call answers, and what the list then holds.
use Rattle.std.specs.Prelude.{Ok, Err}
use mathlib.Core.Path.{◌≡◌, ◌∙◌}
use mathlib.Core.List.{List}
use Prim.Native.Nat.{ℕ, ◌≤◌}
use lib.ListN.{length}
use borrow.Author.Tests.{ne_eqb}
use lib.Dec.{eqb}
use Rattle.matrix_form.specs.Questions.{ask_matrix}
use Rattle.matrix_form.specs.declared.refusal.Refusal.{Refusal}
use Rattle.matrix_form.specs.declared.refusal.Refusal.TheVariants.{ListSize}
use Rattle.matrix_form.proofs.Passing.{ask_passed, matrix_passed}
use Rattle.matrix_form.proofs.Each.{and_then_passed}
use Rattle.tree_form.specs.declared.branch.Branch.{Branch}
use Rattle.tree_form.specs.Ancestors.{ancestor}
use Rattle.tree_form.specs.Asking.{branches_size, ask_finished, ask_records}
use Rattle.tree_form.specs.Branches.{with_records}
use Rattle.wagner.specs.Steps.{length_in}
use Rattle.wagner.proofs.Lengths.{records_agree, length_in-plain}
use Rattle.references.specs.Written.{code_difference, records_say, RecordsWritten}
use Rattle.matrix_form.specs.Shape.{MatrixLists}

module _ (lists : MatrixLists) (n m : ℕ) (tree : List ℕ) where
  -- a list of another size than 125 is 12
  pub other_size : (room : ℕ) → (room ≡ branches_size → ⊥) → ask_records lists n m tree room ≡ Err ListSize
  unfolding ask_records ask_finished
  other_size room other = rw (ne_eqb room branches_size other)

  -- a refusal writes nothing
  pub written_refused : (old : List Branch) (refusal : Refusal) → ask_records lists n m tree (length old) ≡ Err refusal
      → RecordsWritten lists n m tree old old (Err refusal)
  unfolding records_say
  written_refused old refusal told = record { says = rw told; records = rw told }

  -- what passes has at most 128 characters
  narrow : (room : ℕ) → ask_records lists n m tree room ≡ Ok tt → m ≤ 128
  unfolding ask_records ask_finished
  narrow room passed =
      let full = ask_passed (eqb room branches_size) ListSize _ passed in
      (matrix_passed lists n m (and_then_passed (ask_matrix lists n m) _ full.1).0).characters

  -- so the lengths by the first 128 characters are those of the rows
  same_records : (room : ℕ) (old : List Branch) → length old ≡ branches_size → ask_records lists n m tree room ≡ Ok tt
      → with_records (length_in lists m) n tree old ≡ with_records (code_difference lists m) n tree old
  unfolding code_difference
  same_records room old size passed =
      records_agree (length_in lists m) (code_difference lists m) n tree old size
      (λ v low h high. length_in-plain lists m v (ancestor tree v) (narrow room passed))

  -- where the questions pass, the records over the old ones are written
  pub written_passed : (old new : List Branch) → length old ≡ branches_size → ask_records lists n m tree branches_size ≡ Ok tt
      → new ≡ with_records (length_in lists m) n tree old → RecordsWritten lists n m tree old new (Ok tt)
  unfolding records_say
  written_passed old new size passed are = record {
    says = rw (size, passed);
    records = rw (size, passed) (are ∙ same_records branches_size old size passed);
  }
