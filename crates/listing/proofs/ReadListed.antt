-- What a read into lists of full size tells of what is printed: the listing of the job that the lists then hold, or the line of the refusal.
use mathlib.Core.Path.{◌≡◌, sym, ap, ◌∙◌, subst, subst⁻¹}
use mathlib.Core.Bool.{true}
use mathlib.Core.List.{List}
use Prim.Native.Nat.{ℕ}
use lib.IntN.{ℤ}
use native.Mathlib.Omega.{arith}
use lib.ListN.{length, replicate, length-replicate}
use Rattle.matrix_form.specs.Shape.{columns, matrix_size}
use Rattle.matrix_form.specs.NodeRows.{rows_of}
use Rattle.matrix_form.specs.Questions.{LentMatrix, LentWeights}
use Rattle.matrix_form.specs.Refusals.{refusal_number}
use Rattle.matrix_form.specs.Outcomes.{value, refused}
use Rattle.file_form.specs.Reading.{read_answer}
use Rattle.file_form.specs.Calls.{read_says, read_outcome, ReadDone}
use Rattle.file_form.specs.Written.{names_size, weights_written, LentLists}
use Rattle.file_form.specs.declared.header.Header.{Header}
use Rattle.file_form.specs.declared.answer.Refused.{Refused}
use Rattle.std.specs.Prelude.{Result, Ok, Err}
use Rattle.file_form.proofs.File.Outcomes.{then_refused}
use Rattle.file_form.proofs.Lists.ReadLists.{job_lent, job_weighed, Accepting, read_accepting}
use Rattle.file_form.proofs.Lists.Sizes.{full-lists, sized, full as outcome-full}
use Rattle.tree_form.specs.Branches.{ancestors_of}
use Rattle.tree_form.specs.LentNumbers.{lent_numbers, records_in}
use Rattle.rivals.proofs.Own.{own-lent, own_handed_back}
use Rattle.difference_form.specs.Rows.{weighing}
use Rattle.rivals.proofs.Reading.{read_rows, written_measure}
use Rattle.listing_form.specs.Lines.{joined}
use Rattle.listing_form.specs.Kinds.{refusal_line}
use Rattle.lines.specs.declared.put.Listing.{Listing}
use Rattle.lines.specs.Puts.{Puts}
use Rattle.lines.proofs.Puts.{put_same}
use Rattle.listing_form.specs.Meant.{measure_meant}
use Rattle.listing_form.specs.Listing.{listing, printed, output}
use Rattle.listing.specs.Handed.{HoldsNames}
use Rattle.listing.specs.Found.{held_job, HoldsJob, ListsJob, BranchingLent}
use Rattle.listing.proofs.HandedTexts.{refusal_text}
use Rattle.listing.proofs.ReadNames.{names-held}
use Rattle.listing_form.proofs.Printed.{output-printed}
use Rattle.listing_form.proofs.Totals.{limits}

-- a read of a file into lists of full size
module _ (file : List ℕ) (old new : LentLists) (r : Result Header Refused) (done : ReadDone file old new r) (full : length old.matrix ≡ matrix_size)
    (ones : old.weights ≡ replicate columns 1) (room : length old.names ≡ names_size) (records : length old.branches ≡ lent_numbers) where
  -- there are 128 weights
  weights-full : length old.weights ≡ columns
  weights-full = ap length ones ∙ length-replicate {A = ℕ} columns 1

  -- the lists have their full size
  sizes-full : sized old ≡ true
  sizes-full = full-lists _ _ _ _ (full, weights-full, room, records)

  -- a refused file brings its refusal
  refused_answer : (report : Refused) → r ≡ Err report → read_answer file ≡ refused (refusal_number report.refusal) report.line
  refused_answer report e =
      sym (outcome-full file old sizes-full)
      ∙ then_refused (read_outcome file old) (λ job. job.header) (refusal_number report.refusal) report.line (sym done.says ∙ ap read_says e)

  -- so the line of the refusal is what is printed
  pub refused-printed : (report : Refused) → r ≡ Err report → refusal_line (refusal_number report.refusal) report.line ≡ output file
  refused-printed report e =
      refusal_text (refusal_number report.refusal) report.line
      ∙ sym (output-printed file _ (refused_answer report e))

  -- an accepted file: what the read tells
  module _ (header : Header) (e : r ≡ Ok header) where
    abbrev told : Accepting file old new header
    told = read_accepting file old new r header done e

    -- the matrix is then a lent matrix
    pub accepted_lent : LentMatrix new.matrix header.n header.m
    accepted_lent =
        subst (λ said. LentMatrix new.matrix said.n said.m) told.says
        (subst⁻¹ (λ (lists : LentLists). LentMatrix lists.matrix told.job.n told.job.m) told.written
        (job_lent told.job told.within old.matrix full))

    -- its weights are lent ones
    pub accepted_weighed : LentWeights new.weights header.m
    accepted_weighed =
        subst (λ said. LentWeights new.weights said.m) told.says
        (subst⁻¹ (λ (lists : LentLists). LentWeights lists.weights told.job.m) told.written
        (job_weighed told.job told.within old.weights weights-full))

    -- and the branching of an `F` file is one
    pub accepted_branching : BranchingLent header new.branches
    accepted_branching own = (own_handed_back file old new r header done e own).2

    -- the weights weigh as the job's do
    weighed-same : weighing new.weights ≡ weighing told.job.weights
    weighed-same =
        ap weighing (ap (λ (lists : LentLists). lists.weights) told.written ∙ ap (weights_written told.job.weights) ones)
        ∙ written_measure told.job.weights (omega (
          arith,
          told.within.weight_count,
          (limits told.job.n told.job.m
              told.within.limits).characters,
        ))

    -- its rows are those of the job
    accepted_rows : told.job.rows ≡ rows_of new.matrix told.job.m told.job.n
    accepted_rows =
        sym (read_rows told.job told.within old.matrix full)
        ∙ sym (ap (λ (lists : LentLists). rows_of lists.matrix told.job.m told.job.n) told.written)

    -- the lent lists hold its names, its weights and its branching
    accepted_held : HoldsJob told.job.header new told.job.names told.job.weights told.job.ancestors
    accepted_held =
        record {
          named =
              subst⁻¹ (λ (lists : LentLists). HoldsNames told.job.n told.job.names lists.names) told.written
              (names-held told.job told.within old.names room);
          weighed = weighed-same;
          branched =
              λ own.
              ap (λ (lists : LentLists). ancestors_of told.job.n (records_in lists.branches)) told.written
              ∙ (own-lent told.job told.within own old.branches records).1;
        }

    -- the listing of the job that the lists hold is what is printed
    job_printed :
        joined
        (listing (measure_meant told.job)
        (held_job told.job.header told.job.weights told.job.names new.matrix told.job.ancestors))
        ≡ output file
    unfolding printed
    job_printed =
        ap
        (λ (rows : List (List ℤ)). joined (listing (measure_meant told.job) (record {
          header = told.job.header;
          weights = told.job.weights;
          names = told.job.names;
          rows = rows;
          ancestors = told.job.ancestors;
        })))
        (sym accepted_rows)
        ∙ sym (output-printed file (value told.job) told.read)

    -- so where the job's listing was put, what is printed was put
    pub accepted_printed : {before after : Listing} → ListsJob header new before after → Puts (output file) before after
    accepted_printed {before} {after} listed =
        let lists : ListsJob told.job.header new before after = subst⁻¹ (λ said. ListsJob said new before after) told.says listed in
        put_same job_printed (lists.is told.job.names told.job.weights told.job.ancestors accepted_held)
