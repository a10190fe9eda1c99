-- What a read into lent lists brings, and what the lists then hold.
use Rattle.std.specs.Prelude.{◌≡◌, Bool, ◌&&◌, List, ℕ, eqb, length, Result, Ok, Err}
use Rattle.matrix_form.specs.Shape.{matrix_size, columns}
use Rattle.matrix_form.specs.Refusals.{refusal_number}
use Rattle.matrix_form.specs.Outcomes.{Asked, ask, Outcome, value, refused, on_line, afterwards, then_with}
use Rattle.matrix_form.specs.declared.refusal.Refusal.TheVariants.{ListSize}
use Rattle.tree_form.specs.LentNumbers.{lent_numbers}
use Rattle.file_form.specs.declared.header.Header.{Header}
use Rattle.file_form.specs.declared.answer.Refused.{Refused}
use Rattle.file_form.specs.Job.{Job}
use Rattle.file_form.specs.Reading.{read_answer, job_in}
use Rattle.file_form.specs.Written.{names_size, LentLists, job_written}

-- what an answer says in document 01's terms: the header, or the number of the refusal and the line
abbrev pub read_says : Result Header Refused → Outcome Header
read_says (Ok header) = value header
read_says (Err r) = refused (refusal_number r.refusal) r.line

-- of what a file brings, the header alone
abbrev pub with_header : Outcome Job → Outcome Header
with_header outcome = then_with outcome (λ job. value job.header)

-- four lent lists have their full size, by their lengths
unfoldable pub full_size : ℕ → ℕ → ℕ → ℕ → Bool
full_size matrix weights names branches =
    eqb matrix matrix_size && (eqb weights columns && (eqb names names_size && eqb branches lent_numbers))

-- the question whether they have
unfoldable pub ask_size : LentLists → Asked
ask_size lists =
    ask (full_size (length lists.matrix) (length lists.weights) (length lists.names) (length lists.branches)) ListSize (Ok tt)

-- what a read into lent lists brings: 12 if one has not its full size, else what the file brings
unfoldable pub read_outcome : List ℕ → LentLists → Outcome Job
read_outcome file lists = on_line 0 (ask_size lists) (read_answer file)

-- what the lent lists then hold: what an accepted file says is written over them, and a refusal leaves them as before
unfoldable pub lists_after : List ℕ → LentLists → LentLists
lists_after file old = afterwards (read_outcome file old) (job_written (job_in file) old) old

-- a read says its outcome, and leaves the lists so
pub record ReadDone (file : List ℕ) (old new : LentLists) (r : Result Header Refused) : Type 0 where
  pub says : read_says r ≡ with_header (read_outcome file old)
  pub lists : new ≡ lists_after file old
