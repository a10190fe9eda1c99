-- The weights, the rows and the `C` lines of an accepted file: they are well formed, and they are those of the job that it says.
use mathlib.Core.Path.{◌≡◌, sym, ap, ap₂, ◌∙◌}
use mathlib.Core.Bool.{true}
use mathlib.Core.List.{List, [], ◌∷◌, ◌++◌, map, zip_with}
use Prim.Native.Nat.{ℕ, ◌≤◌, ◌<◌}
use native.Mathlib.Omega.{arith}
use lib.ListN.{length, take, drop, length-append, length-drop}
use Rattle.lists.specs.Numbers.{numbers}
use Rattle.lists.specs.Tests.{every}
use Rattle.matrix_form.specs.Shape.{most_taxa, most_characters}
use Rattle.matrix_form.specs.Outcomes.{value}
use Rattle.tree_form.specs.LentNumbers.{records_for}
use Rattle.text_form.specs.Bytes.{line_feed, behind_piece}
use Rattle.file_form.specs.Job.{Job}
use Rattle.text_form.specs.Lines.{lines_of}
use Rattle.file_form.specs.Optional.{optional_fields}
use Rattle.file_form.specs.Weights.{weights_form}
use Rattle.file_form.specs.Header.{header_in, header_lines, behind_header}
use Rattle.file_form.specs.Rows.{name_in, codes_in}
use Rattle.file_form.specs.Branches.{branch_count, ancestor_in, branch_text}
use Rattle.file_form.specs.Reading.{row_lines, behind_rows, branch_lines, weights_of, job_of, job_in, read_answer}
use Rattle.file_form.specs.Formed.{row_form, RowsFormed, BranchesFormed, record_in}
use Rattle.file_form.proofs.File.FileOfRead.{FilePassed, file_passed, file_of_read}
use Rattle.file_form.proofs.File.HeaderRead.{several-lines, weights-formed, header_behind}
use Rattle.text_form.proofs.FirstPart.{pieces_several}
use Rattle.file_form.proofs.Rows.Within.{limits-high}
use Rattle.file_form.proofs.BranchLines.Passed.{BranchesRead}
use Rattle.file_form.proofs.BranchLines.Written.{records_back}

-- a file that is accepted with a job
module _ (file : List ℕ) (job : Job) (e : read_answer file ≡ value job) where
  -- what it was answered
  passed : FilePassed file job
  passed = file_passed file job e

  -- it is what the file says, read without a question
  pub accepted_job : job_in file ≡ job
  unfolding job_in
  accepted_job = passed.behind.is

  -- it has at most 64 taxa and 128 characters
  pub accepted_most : (job.n ≤ most_taxa) × (job.m ≤ most_characters)
  accepted_most = limits-high job.n job.m (file_of_read file job e).0.limits

  -- lines stand behind the header
  pub accepted_behind : header_lines (header_in (lines_of file)) < length (lines_of file)
  accepted_behind = header_behind (lines_of file) (several-lines (lines_of file) passed.form) passed.weights

  -- its weights are those of the line behind line 1, or 1 for each character
  pub accepted_weights : job.weights ≡ weights_of (header_in (lines_of file)) (lines_of file)
  unfolding job_of
  accepted_weights = sym (ap (λ read. read.weights) passed.behind.is)

  -- a `V` line has m weights
  pub accepted_fields : (header_in (lines_of file)).weighed ≡ true
      → weights_form (header_in (lines_of file)).m (optional_fields (drop 1 (lines_of file))) ≡ true
  accepted_fields = weights-formed (lines_of file) (several-lines (lines_of file) passed.form) passed.weights

  -- the header read without a question is that of the job
  pub accepted_header : header_in (lines_of file) ≡ job.header
  unfolding job_of
  accepted_header = ap (λ (job : Job). job.header) passed.behind.is

  -- what stands behind the first line feed has the lines behind line 1
  pub accepted_text : lines_of (behind_piece line_feed file) ≡ drop 1 (lines_of file)
  unfolding lines_of
  accepted_text = sym (ap (drop 1) (pieces_several line_feed file (several-lines (lines_of file) passed.form)))

  -- a text of the lines behind the header
  module _ (rows : List ℕ) (r : lines_of rows ≡ behind_header (header_in (lines_of file)) (lines_of file)) where
    -- its header has the job's n
    taxa : (header_in (lines_of file)).n ≡ job.n
    taxa = ap (λ header. header.n) accepted_header

    -- its rows are the first n lines of the text
    said : row_lines (header_in (lines_of file)) (lines_of file) ≡ take job.n (lines_of rows)
    said = ap (λ lines. take (header_in (lines_of file)).n lines) (sym r) ∙ ap (λ n. take n (lines_of rows)) taxa

    -- its rows are well formed
    pub accepted_formed : RowsFormed job.n rows
    accepted_formed =
        record {
          count =
              omega (
                arith,
                taxa,
                ap length (r ∙ passed.behind.all),
                length-append (row_lines (header_in (lines_of file)) (lines_of file)) (branch_lines (header_in (lines_of file)) (lines_of file) ++ ([] ∷ [])),
                length-append (branch_lines (header_in (lines_of file)) (lines_of file)) ([] ∷ []),
                passed.behind.rows.count,
              );
          formed = ap (every row_form) (sym said) ∙ passed.behind.formed;
        }

    -- and they are those of the job
    pub accepted_codes : job.rows ≡ map codes_in (take job.n (lines_of rows))
    unfolding job_of
    accepted_codes = sym (ap (λ read. read.rows) passed.behind.is) ∙ ap (map codes_in) said

    -- and so are the names
    pub accepted_names : job.names ≡ map name_in (take job.n (lines_of rows))
    unfolding job_of
    accepted_names = sym (ap (λ read. read.names) passed.behind.is) ∙ ap (map name_in) said

    -- a text of the lines behind the rows
    module _ (rest : List ℕ) (d : lines_of rest ≡ drop job.n (lines_of rows)) where
      -- how many `C` lines there are
      abbrev count : ℕ
      count = branch_count job.kind job.n

      -- they are the lines behind the rows of the file
      behind : lines_of rest ≡ behind_rows job.header (lines_of file)
      behind = d ∙ ap (drop job.n) r ∙ ap (λ header. drop job.n (behind_header header (lines_of file))) accepted_header

      -- what was read of them
      found : BranchesRead 2 count (lines_of rest)
      found = rw (accepted_header, sym behind) at passed.behind.branches

      -- they are well formed
      pub accepted_branches : BranchesFormed count rest
      accepted_branches =
          record {
            more =
                omega (
                  arith,
                  ap length d,
                  length-drop job.n (lines_of rows),
                  ap length (r ∙ passed.behind.all),
                  length-append (row_lines (header_in (lines_of file)) (lines_of file)) (branch_lines (header_in (lines_of file)) (lines_of file) ++ ([] ∷ [])),
                  length-append (branch_lines (header_in (lines_of file)) (lines_of file)) ([] ∷ []),
                  passed.behind.rows.count,
                  passed.behind.branches.count,
                  taxa,
                  ap (λ header. branch_count header.kind header.n) accepted_header,
                );
            formed = found.formed;
          }

      -- the ancestors that they say are those of the job
      accepted_ancestors : job.ancestors ≡ map ancestor_in (take count (lines_of rest))
      unfolding job_of
      accepted_ancestors =
          sym (ap (λ read. read.ancestors) passed.behind.is)
          ∙ ap (λ header. map ancestor_in (branch_lines header (lines_of file))) accepted_header
          ∙ ap (λ lines. map ancestor_in (take count lines)) (sym behind)

      -- and so are the records
      pub accepted_records : records_for job.ancestors ≡ map record_in (take count (lines_of rest))
      unfolding records_for
      accepted_records =
          sym (records_back 2 job.ancestors)
          ∙ ap (map record_in)
          (ap₂ (λ k above. zip_with branch_text (numbers 2 k) above) (file_of_read file job e).0.branches_counted accepted_ancestors
          ∙ found.written)
