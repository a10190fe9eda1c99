-- The branching that a read of an `F` file hands back can be lent as it is: its index is that of the file's own branching.
use mathlib.Core.Path.{◌≡◌, sym, ap, ◌∙◌, subst}
use mathlib.Core.List.{List}
use Prim.Native.Nat.{ℕ}
use borrow.Author.Tests.{eq-eqb}
use lib.ListN.{length}
use Rattle.std.specs.Prelude.{Result, Ok}
use Rattle.matrix_form.specs.Outcomes.{value}
use Rattle.matrix_form.specs.Questions.{ask_matrix}
use Rattle.matrix_form.proofs.Passing.{matrix_passes}
use Rattle.file_form.specs.Job.{Job}
use Rattle.file_form.specs.Reading.{read_answer}
use Rattle.file_form.specs.Calls.{ReadDone}
use Rattle.file_form.specs.Written.{LentLists, job_written}
use Rattle.file_form.specs.declared.header.Header.{Header}
use Rattle.file_form.specs.declared.header.Kind.TheVariants.{Own}
use Rattle.file_form.specs.declared.answer.Refused.{Refused}
use Rattle.file_form.proofs.Lists.ReadLists.{job_lent, job_weighed, read_accepting}
use Rattle.difference_form.specs.Rows.{weighing}
use Rattle.tree_form.specs.Ancestors.{tree_with}
use Rattle.tree_form.specs.Asking.{ask_branching}
use Rattle.tree_form.specs.LentNumbers.{lent_numbers}
use Rattle.tree_form.proofs.LentNumbers.{length-records_in, length-records_written}
use Rattle.fit_form.specs.Fit.{fitted_total}
use Rattle.consistency_form.specs.Floor.{floor}
use Rattle.consistency_form.specs.Index.{index}
use Rattle.consistency_form.specs.Calls.{index_answer}
use Rattle.rivals.proofs.Own.{own-lent}
use Rattle.rivals.proofs.Reading.{read_rows}
use Rattle.export_form.specs.Answers.{indexed}
use Rattle.export_form.specs.Calls.{index_exported}
use Rattle.export_form.specs.declared.answers.Indexed.{Indexed}
use Rattle.matrix_form.specs.Shape.{matrix_of}
use Rattle.matrix_form.specs.Spans.{singles, spans_of}

-- the index of a job's rows on its own branching, by lent weights
abbrev own_index : List ℕ → Job → Indexed
own_index weights job =
    indexed
    (value
    (index (floor (weighing weights).step (singles job.rows) job.n job.m)
    (fitted_total (weighing weights).step (tree_with job.ancestors) (singles job.rows) job.n job.m)))

-- a read of an `F` file, and then the call for an index on what it has written
pub own-indexed : (file : List ℕ) (old new : LentLists) (r : Result Header Refused) (header : Header) → ReadDone file old new r → r ≡ Ok header
    → header.kind ≡ Own
    → (job : Job)
    × (read_answer file ≡ value job)
    × (index_exported (matrix_of new.matrix new.weights) header.n header.m new.branches ≡ own_index new.weights job)
unfolding index_exported index_answer ask_branching spans_of
own-indexed file old new r header done e own =
    let told = read_accepting file old new r header done e in
    let job = told.job in
    let sizes = told.sizes in
    let written = job_written job old in
    let lent =
    own-lent job told.within (ap (λ (said : Header). said.kind) told.says ∙ own) old.branches sizes.3 in
    let asked : ask_matrix (matrix_of written.matrix written.weights) job.n job.m ≡ Ok tt =
    (matrix_passes _ _ _).1
    (job_lent job told.within old.matrix sizes.0, job_weighed job told.within old.weights sizes.1) in
    let full = eq-eqb (length written.branches) lent_numbers (length-records_written job.ancestors old.branches ∙ sizes.3) in
    let found : index_exported (matrix_of written.matrix written.weights) job.n job.m written.branches ≡ own_index written.weights job =
    rw (full, length-records_in written.branches, asked, lent.0, lent.1, read_rows job told.within old.matrix sizes.0) in (
      job,
      told.read,
      subst (λ (said : Header). index_exported (matrix_of new.matrix new.weights) said.n said.m new.branches ≡ own_index new.weights job)
          told.says
          (subst
          (λ (lists : LentLists).
          index_exported (matrix_of lists.matrix lists.weights) job.n job.m lists.branches ≡ own_index lists.weights job)
          (sym told.written) found),
    )
