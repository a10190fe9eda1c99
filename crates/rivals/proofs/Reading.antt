-- After an accepted read the lent matrix has the rows of the file, so the claim about the file is the claim about the matrix.
use mathlib.Core.Path.{◌≡◌, sym, ap, ◌∙◌, subst, subst⁻¹}
use mathlib.Core.Logic.{by_cases}
use mathlib.Core.List.{List, []}
use Prim.Native.Nat.{ℕ, suc, ◌+◌, ◌-◌, ◌≤◌, ◌<◌}
use native.Mathlib.Omega.{arith}
use native.Mathlib.Decide.{dec_le}
use lib.IntN.{ℤ}
use lib.ListN.{length, get_or, replicate, length-replicate, get_or-eq_default}
use lib.Seq.{ext_get_or}
use Rattle.lists.proofs.Filled.{get_d_replicate}
use Rattle.lists.proofs.Over.{over-inside, over-behind}
use Rattle.matrix_form.specs.NodeRows.{rows_of}
use Rattle.matrix_form.specs.Shape.{matrix_size, columns, weight_at}
use Rattle.matrix_form.proofs.Passing.{matrix_passes}
use Rattle.file_form.specs.Job.{Job, JobWithinLimits}
use Rattle.file_form.specs.declared.header.Header.{Header}
use Rattle.file_form.specs.Calls.{ReadDone}
use Rattle.file_form.specs.Written.{matrix_written, weights_written, LentLists}
use Rattle.file_form.specs.declared.answer.Refused.{Refused}
use Rattle.std.specs.Prelude.{Result, Ok}
use Rattle.file_form.proofs.Lists.ReadLists.{job_row, job_lent, job_weighed, read_accepting}
use Rattle.difference_form.specs.Rows.{weighing}
use Rattle.difference_form.proofs.Laws.Measure.{measure_weights}
use Rattle.matrix_form.proofs.NodeRows.{length-rows_of}
use Rattle.rivals.specs.Accepted.{matrix_lent}
use Rattle.rivals.specs.Demand.{NoRivalDoesBetter}
use Rattle.rivals.proofs.Rows.{row_at}
use Rattle.rivals.proofs.Demand.{no_rival}

-- the rows of a matrix into which a job has been written are those of the job
pub read_rows : (job : Job) → JobWithinLimits job → (old : List ℤ) → length old ≡ matrix_size
    → rows_of (matrix_written job.rows old) job.m job.n ≡ job.rows
read_rows job within old full =
    ext_get_or [] (rows_of written job.m job.n) job.rows (length-rows_of written job.m job.n ∙ sym within.row_count) same
  where
    written : List ℤ
    written = matrix_written job.rows old

    same : (i : ℕ) → i < length (rows_of written job.m job.n) → get_or (rows_of written job.m job.n) i [] ≡ get_or job.rows i []
    same i below =
        let small : i < job.n = omega (arith, length-rows_of written job.m job.n) in
        let place : i + 1 - 1 ≡ i = omega arith in
        row_at written job.m job.n i small
        ∙ job_row job within old full (i + 1) (omega arith) (omega arith)
        ∙ ap (λ k. get_or job.rows k []) place

-- weights written over a list of ones weigh every character as they do alone
pub written_measure : (weights : List ℕ) → length weights ≤ columns
    → weighing (weights_written weights (replicate columns 1)) ≡ weighing weights
unfolding weight_at
written_measure weights room = measure_weights (weights_written weights ones) weights same
  where
    ones : List ℕ
    ones = replicate columns 1

    same : (i : ℕ) → weight_at (weights_written weights ones) i ≡ weight_at weights i
    same i =
        by_cases
        (dec_le (suc i) (length weights))
        (λ inside.
        let place : i ≡ 0 + i = omega arith in
        ap (λ (k : ℕ). get_or (weights_written weights ones) k 1) place
        ∙ over-inside 1 0 weights ones i inside (omega (arith, length-replicate {A = ℕ} columns 1)))
        (λ past.
        over-behind 1 0 weights ones i (omega arith)
        ∙ get_d_replicate 1 columns i
        ∙ sym (get_or-eq_default weights 1 (omega arith)))

-- no rival does better on a matrix that the call has read, by the weights that it has read
pub no_rival_read : (file : List ℕ) (old new : LentLists) (r : Result Header Refused) (header : Header) → ReadDone file old new r → r ≡ Ok header
    → NoRivalDoesBetter (weighing new.weights) header.n header.m (rows_of new.matrix header.m header.n)
no_rival_read file old new r header done e =
    let accepting = read_accepting file old new r header done e in
    let job = accepting.job in
    let lent = job_lent job accepting.within old.matrix accepting.sizes.0 in
    let weighed = job_weighed job accepting.within old.weights accepting.sizes.1 in
    let claim = no_rival _ _ _ _ (matrix_lent _ _ _ ((matrix_passes _ _ _).1 (lent, weighed))) in
    subst (λ (said : Header). NoRivalDoesBetter (weighing new.weights) said.n said.m (rows_of new.matrix said.m said.n))
    accepting.says
    (subst⁻¹
    (λ (lists : LentLists). NoRivalDoesBetter (weighing lists.weights) job.n job.m (rows_of lists.matrix job.m job.n))
    accepting.written claim)
