-- The branching that an `F` file brings (document 02, M-103): it is one of the file's taxa, rivals over inner states are measured on it, and
-- the records that a read hands back are it.
use mathlib.Core.Path.{◌≡◌, sym, ap, ◌∙◌, subst}
use mathlib.Core.Bool.{true}
use mathlib.Core.List.{List}
use Prim.Native.Nat.{ℕ}
use lib.ListN.{length}
use Rattle.matrix_form.specs.Outcomes.{value}
use Rattle.file_form.specs.Job.{Job, JobWithinLimits}
use Rattle.file_form.specs.Branches.{branch_count, branched}
use Rattle.file_form.specs.Reading.{read_answer}
use Rattle.file_form.specs.Calls.{ReadDone}
use Rattle.file_form.specs.Written.{LentLists}
use Rattle.file_form.specs.declared.header.Header.{Header}
use Rattle.file_form.specs.declared.header.Kind.TheVariants.{Own}
use Rattle.file_form.specs.declared.answer.Refused.{Refused}
use Rattle.std.specs.Prelude.{Result, Ok}
use Rattle.file_form.proofs.File.Accepted.{accepted_exactly}
use Rattle.file_form.proofs.Lists.ReadLists.{read_accepting}
use Rattle.difference_form.specs.Rows.{weighing}
use Rattle.tree_form.specs.Ancestors.{tree_with}
use Rattle.tree_form.specs.Growing.{branching}
use Rattle.tree_form.specs.Branches.{ancestors_of, lent_branching}
use Rattle.tree_form.specs.LentNumbers.{lent_numbers, records_in, records_written}
use Rattle.tree_form.proofs.LentNumbers.{written_ancestors, written_branching}
use Rattle.matrix_form.specs.Spans.{singles}
use Rattle.fit_form.specs.Rival.{FitIsLeast}
use Rattle.rivals.specs.Accepted.{file_read}
use Rattle.rivals.proofs.Demand.{no_rival, taxa-limits}

-- an `F` job within the limits
module _ (job : Job) (within : JobWithinLimits job) (own : job.kind ≡ Own) where
  -- its ancestors are a branching of its taxa
  pub own-branching : branching job.n (tree_with job.ancestors) ≡ true
  own-branching = ap (λ kind. branched kind job.n job.ancestors) (sym own) ∙ within.branching_said

  -- there is one for each of nodes 2 to 2n-2
  own-count : length job.ancestors ≡ branch_count Own job.n
  own-count = within.branches_counted ∙ ap (λ kind. branch_count kind job.n) own

  -- the records that are written of it are that branching, lent
  pub own-lent : (old : List ℕ) → length old ≡ lent_numbers
      → (lent_branching job.n (records_in (records_written job.ancestors old)) ≡ true)
      × (ancestors_of job.n (records_in (records_written job.ancestors old)) ≡ tree_with job.ancestors)
  own-lent old full =
      let most = (taxa-limits job.n job.m within.limits).1 in (
        written_branching job.n job.ancestors old most own-count full ∙ own-branching,
        written_ancestors job.n job.ancestors old most own-count full,
      )

-- for every `F` file that a read accepts: on its own branching our chosen states have the least total, and a range has exactly the states
-- of assignments of least length
pub own-least : (file : List ℕ) (job : Job) → read_answer file ≡ value job → job.kind ≡ Own
    → FitIsLeast (weighing job.weights).step (tree_with job.ancestors) (singles job.rows) job.n job.m
own-least file job e own =
    (no_rival job.n job.m job.weights job.rows (file_read file job e)).fit (tree_with job.ancestors)
    (own-branching job ((accepted_exactly file job).0 e).0 own)

-- a read of an `F` file hands its branching back: the lent records then are a branching, that of the file
pub own_handed_back : (file : List ℕ) (old new : LentLists) (r : Result Header Refused) (header : Header) → ReadDone file old new r → r ≡ Ok header
    → header.kind ≡ Own
    → (job : Job)
    × (read_answer file ≡ value job)
    × (lent_branching header.n (records_in new.branches) ≡ true)
    × (ancestors_of header.n (records_in new.branches) ≡ tree_with job.ancestors)
own_handed_back file old new r header done e own =
    let told = read_accepting file old new r header done e in
    let job = told.job in
    let lent =
    own-lent job told.within (ap (λ (said : Header). said.kind) told.says ∙ own) old.branches told.sizes.3 in
    subst
    (λ (numbers : List ℕ).
    (found : Job)
    × (read_answer file ≡ value found)
    × (lent_branching header.n (records_in numbers) ≡ true)
    × (ancestors_of header.n (records_in numbers) ≡ tree_with found.ancestors))
    (sym (ap (λ (lists : LentLists). lists.branches) told.written))
    (subst
    (λ (said : Header).
    (found : Job)
    × (read_answer file ≡ value found)
    × (lent_branching said.n (records_in (records_written job.ancestors old.branches)) ≡ true)
    × (ancestors_of said.n (records_in (records_written job.ancestors old.branches)) ≡ tree_with found.ancestors))
    told.says (job, told.read, lent.0, lent.1))
