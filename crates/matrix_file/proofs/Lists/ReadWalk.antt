-- A read into lent lists, step by step: lists of wrong size, a refused file, and an accepted one that is written.
use mathlib.Core.Path.{◌≡◌, refl, sym, ap, ap₂, ◌∙◌}
use mathlib.Core.Logic.Iff
use mathlib.Core.Bool.{true, false, ◌||◌, not}
use mathlib.Core.List.{List, map, map-map}
use Prim.Native.Nat.{ℕ, ◌≤◌, ◌<◌, min}
use native.Mathlib.Omega.{arith}
use lib.ListN.{length, take, drop}
use Rattle.lists.proofs.Both.{implies_iff}
use Rattle.matrix_form.specs.Shape.{columns}
use Rattle.matrix_form.specs.Refusals.{refusal_number}
use Rattle.matrix_form.specs.Outcomes.{value, refused, afterwards}
use Rattle.matrix_form.specs.declared.refusal.Refusal.TheVariants.{ListSize}
use Rattle.file_form.specs.declared.header.Header.{Header}
use Rattle.std.specs.Prelude.{Result, Ok, Err}
use Rattle.file_form.specs.declared.answer.Refused.{Refused}
use Rattle.text_form.specs.Bytes.{line_feed, behind_piece}
use Rattle.file_form.specs.Job.{Job}
use Rattle.text_form.specs.Lines.{lines_of}
use Rattle.file_form.specs.Optional.{optional_fields}
use Rattle.file_form.specs.Weights.{weights_form, weights_said}
use Rattle.file_form.specs.Header.{header_in, header_lines, behind_header}
use Rattle.file_form.specs.Rows.{name_in, codes_in}
use Rattle.tree_form.specs.LentNumbers.{records_for}
use Rattle.file_form.specs.Branches.{branch_count}
use Rattle.file_form.specs.Reading.{read_answer, job_in}
use Rattle.file_form.proofs.Lists.Sizes.{sized, full}
use Rattle.file_form.specs.Calls.{read_says, with_header, ask_size, read_outcome, lists_after, ReadDone}
use Rattle.file_form.specs.Formed.{RowsFormed, BranchesFormed, record_in}
use Rattle.matrix_file.specs.Steps.{padded_in}
use Rattle.file_form.specs.Written.{padded, LentLists, job_written}
use Rattle.file_form.proofs.File.Outcomes.{then_passed, then_refused}
use Rattle.file_form.proofs.File.AcceptedRows.{accepted_job, accepted_most, accepted_behind, accepted_header, accepted_weights}
use Rattle.file_form.proofs.File.AcceptedRows.{accepted_text, accepted_fields, accepted_formed, accepted_codes, accepted_names}
use Rattle.file_form.proofs.File.AcceptedRows.{accepted_branches, accepted_records}
use Rattle.file_form.proofs.BranchLines.Nodes.{count_whole}
use Rattle.file_text.specs.Steps.{BehindLines}

-- lent lists
module _ (file : List ℕ) (lists : LentLists) where
  -- a refusal, with lists as they were
  done : (answer : Result Header Refused) (number line : ℕ) → read_says answer ≡ refused number line → read_outcome file lists ≡ refused number line
      → ReadDone file lists lists answer
  unfolding lists_after
  done answer number line a e =
      record {
        says = a ∙ sym (ap with_header e);
        lists = sym (ap (λ outcome. afterwards outcome (job_written (job_in file) lists) lists) e);
      }

  -- one has not its full size
  pub read_unsized : (answer : Result Header Refused) → answer ≡ Err (record { refusal = ListSize; line = 0 }) → sized lists ≡ false → ReadDone file lists lists answer
  unfolding read_outcome ask_size
  read_unsized answer a h = done answer 12 0 (ap read_says a) (rw h)

  -- it was asked
  module _ (h : sized lists ≡ true) (answer : Result Header Refused) (a : read_says answer ≡ with_header (read_answer file)) where
    -- it is refused
    pub read_refused : (e : Refused) → answer ≡ Err e → ReadDone file lists lists (Err e)
    read_refused e r =
        done (Err e) (refusal_number e.refusal) e.line refl
        (full file lists h ∙ then_refused (read_answer file) (λ job. job.header) (refusal_number e.refusal) e.line (sym a ∙ ap read_says r))

    -- it is accepted, and what it says is written
    pub read_written : (header : Header) → answer ≡ Ok header → (new : LentLists) → new ≡ job_written (job_in file) lists
        → ReadDone file lists new (Ok header)
    unfolding lists_after
    read_written header e new w =
        let found = then_passed (read_answer file) (λ job. value job.header) header (sym a ∙ ap read_says e) in
        let outcome : read_outcome file lists ≡ value found.0 = full file lists h ∙ found.1 in
        record {
          says = sym (ap with_header outcome ∙ found.2);
          lists = w ∙ sym (ap (λ x. afterwards x (job_written (job_in file) lists) lists) outcome);
        }

-- an accepted file with a header, whose job is written into lists of full size
module _ (file : List ℕ) (header : Header) (a : value header ≡ with_header (read_answer file)) where
  -- the job that it says
  found : (job : Job) × (read_answer file ≡ value job) × (value job.header ≡ value header)
  found = then_passed (read_answer file) (λ job. value job.header) header (sym a)

  -- the header is that of the job
  same : found.0.header ≡ header
  same = cc found.2

  -- and what is read without a question
  read : header_in (lines_of file) ≡ header
  read = accepted_header file found.0 found.1 ∙ same

  -- it has the job's n
  taxa : found.0.n ≡ header.n
  taxa = ap (λ said. said.n) same

  -- at most 64
  pub taxa-most : header.n ≤ 64
  taxa-most = omega (arith, taxa, (accepted_most file found.0 found.1).0)

  -- the job is what is read without a question
  said : job_in file ≡ found.0
  said = accepted_job file found.0 found.1

  module _ (passed : ℕ) (p : passed ≡ header_lines header) where
    -- lines stand behind the header
    read_behind : passed < length (lines_of file)
    read_behind = rw (p, sym read) (accepted_behind file found.0 found.1)

    module _ (rows : List ℕ) (r : BehindLines file passed rows) where
      -- the rows stand behind the header
      behind : lines_of rows ≡ behind_header (header_in (lines_of file)) (lines_of file)
      behind = r.lines read_behind ∙ ap (λ k. drop k (lines_of file)) (p ∙ ap header_lines (sym read))

      -- they are well formed
      pub rows_given : RowsFormed header.n rows
      rows_given = rw taxa at (accepted_formed file found.0 found.1 rows behind)

      -- they are those of the job
      pub codes_said : (job_in file).rows ≡ map codes_in (take header.n (lines_of rows))
      codes_said =
          ap (λ job. job.rows) said
          ∙ accepted_codes file found.0 found.1 rows behind
          ∙ ap (λ n. map codes_in (take n (lines_of rows))) taxa

      -- and so are the names, padded
      pub names_said : map padded (job_in file).names ≡ map padded_in (take header.n (lines_of rows))
      names_said =
          ap (map padded)
          (ap (λ job. job.names) said
          ∙ accepted_names file found.0 found.1 rows behind
          ∙ ap (λ n. map name_in (take n (lines_of rows))) taxa)
          ∙ map-map padded name_in (take header.n (lines_of rows))

      -- and what stands behind them
      module _ (rest : List ℕ) (d : BehindLines rows header.n rest) (count : ℕ)
          (c : count ≡ min (branch_count header.kind header.n) 125) where
        -- as many `C` lines as the job has
        job_count : branch_count found.0.kind found.0.n ≡ count
        job_count =
            ap (λ read. branch_count read.kind read.n) same ∙ sym (c ∙ count_whole header.kind header.n taxa-most)

        -- they stand behind the job's n rows
        job_rest : lines_of rest ≡ drop found.0.n (lines_of rows)
        job_rest = d.lines rows_given.count ∙ ap (λ n. drop n (lines_of rows)) (sym taxa)

        -- they are well formed
        pub branches_given : BranchesFormed count rest
        branches_given = rw job_count at (accepted_branches file found.0 found.1 rows behind rest job_rest)

        -- they are at most 125
        pub branches_few : count ≤ 125
        branches_few = omega (arith, c)

        -- the records that they say are those of the job
        pub records_said : records_for (job_in file).ancestors ≡ map record_in (take count (lines_of rest))
        records_said =
            ap (λ job. records_for job.ancestors) said
            ∙ accepted_records file found.0 found.1 rows behind rest job_rest
            ∙ ap (λ k. map record_in (take k (lines_of rest))) job_count

  module _ (text : List ℕ) (t : text ≡ behind_piece line_feed file) where
    -- it has the lines behind line 1
    lines : lines_of text ≡ drop 1 (lines_of file)
    lines = ap lines_of t ∙ accepted_text file found.0 found.1

    -- the fields of a `V` line, if it is there, are m weights
    fields : header.weighed ≡ true → weights_form header.m (optional_fields (lines_of text)) ≡ true
    fields there =
        ap₂ (λ said behind. weights_form said.m (optional_fields behind)) (sym read) lines
        ∙ accepted_fields file found.0 found.1 (ap (λ said. said.weighed) read ∙ there)

    -- and there is room for them
    pub weights_given : (size : ℕ) → size ≡ columns
        → ((not header.weighed || weights_form header.m (optional_fields (lines_of text))) ≡ true) × (header.m ≤ size)
    weights_given size full = (
      (implies_iff Iff.rfl Iff.rfl).1 fields,
      omega (arith, ap (λ said. said.m) same, (accepted_most file found.0 found.1).1),
    )

    -- they are those of the job
    pub weights_said_lem : (job_in file).weights ≡ weights_said header.weighed header.m (optional_fields (lines_of text))
    weights_said_lem =
        ap (λ job. job.weights) said
        ∙ accepted_weights file found.0 found.1
        ∙ ap₂ (λ said behind. weights_said said.weighed said.m (optional_fields behind)) read (sym lines)
