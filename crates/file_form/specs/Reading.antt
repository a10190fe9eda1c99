-- Reading a matrix file: the questions 1 to 11 and 14 to 17 in the papers' order, and what an accepted file says.
use Rattle.std.specs.Prelude.{List, [], ◌∷◌, map, Bool, true, false, ℕ, leb, length, take, drop}
use Rattle.matrix_form.specs.Outcomes.{ask, Outcome, value, on_line, then_with}
use Rattle.matrix_form.specs.declared.refusal.Refusal.TheVariants.{FileTooLong, FileEmpty, FileGoesOn}
use Rattle.matrix_form.specs.Outcomes.{Asked}
use Rattle.std.specs.Prelude.{Ok}
use Rattle.file_form.specs.declared.header.Header.{Header}
use Rattle.file_form.specs.Job.{Job, most_bytes}
use Rattle.text_form.specs.Lines.{lines_of}
use Rattle.file_form.specs.Lines.{ask_lines}
use Rattle.file_form.specs.Optional.{optional_fields}
use Rattle.file_form.specs.Weights.{weights_said}
use Rattle.file_form.specs.Header.{header_in, row_line, behind_header, ask_header}
use Rattle.file_form.specs.Rows.{name_in, codes_in, row_sort}
use Rattle.file_form.specs.Branches.{branch_count, ancestor_in, branch_sort, ask_tree}

-- the lines of the rows of a file with this header
abbrev pub row_lines : Header → List (List ℕ) → List (List ℕ)
row_lines header lines = take header.n (behind_header header lines)

-- the lines behind the rows of a file with this header
abbrev pub behind_rows : Header → List (List ℕ) → List (List ℕ)
behind_rows header lines = drop header.n (behind_header header lines)

-- the `C` lines of a file with this header
abbrev pub branch_lines : Header → List (List ℕ) → List (List ℕ)
branch_lines header lines = take (branch_count header.kind header.n) (behind_rows header lines)

-- the weights that the lines of a file with this header say: those of the line behind line 1, or 1 for each character
abbrev pub weights_of : Header → List (List ℕ) → List ℕ
weights_of header lines = weights_said header.weighed header.m (optional_fields (drop 1 lines))

-- what the lines of a file with this header say: the weights, n rows, and the branching of an `F` file
unfoldable pub job_of : Header → List (List ℕ) → Job
job_of header lines =
    record {
      header = header;
      weights = weights_of header lines;
      names = map name_in (row_lines header lines);
      rows = map codes_in (row_lines header lines);
      ancestors = map ancestor_in (branch_lines header lines);
    }

-- what a file says, read without a question
unfoldable pub job_in : List ℕ → Job
job_in file = job_of (header_in (lines_of file)) (lines_of file)

-- nothing stands behind the last line (of a file's lines this last item is always there)
unfoldable pub nothing_more : List (List ℕ) → Bool
nothing_more [] = false
nothing_more ([] ∷ []) = true
nothing_more ([] ∷ next ∷ lines) = false
nothing_more ((byte ∷ bytes) ∷ lines) = false

-- does the file end in front of this line? if so, what follows
unfoldable pub ask_end : {A : Type 0} → Outcome A → ℕ → List (List ℕ) → Outcome A
ask_end rest line lines = on_line line (ask (nothing_more lines) FileGoesOn (Ok tt)) rest

-- the questions put to what stands behind the rows of a file that says a job, from this line on: its `C` lines, then the end of the file,
-- then whether its branching is one
unfoldable pub ask_after : Job → ℕ → List (List ℕ) → Outcome Job
ask_after job line lines =
    ask_lines branch_sort [] line (branch_count job.kind job.n) lines
    (ask_end (on_line 0 (ask_tree job.kind job.n job.ancestors) (value job)))

-- the questions put to what stands behind the header of a file's lines: its rows, and then what stands behind them
unfoldable pub ask_behind : Header → List (List ℕ) → Outcome Job
ask_behind header lines =
    ask_lines (row_sort header) [] (row_line header 1) header.n (behind_header header lines) (ask_after (job_of header lines))

-- the questions put to a file's lines: the header, and then what stands behind it
unfoldable pub ask_file : List (List ℕ) → Outcome Job
ask_file lines = then_with (ask_header lines) (λ header. ask_behind header lines)

-- the questions put to a file's length
unfoldable pub ask_length : List ℕ → Asked
ask_length file = ask (leb (length file) most_bytes) FileTooLong (ask (leb 1 (length file)) FileEmpty (Ok tt))

-- a file's bytes, read: the job that it says, or the number of the refusal and the line
unfoldable pub read_answer : List ℕ → Outcome Job
read_answer file = on_line 0 (ask_length file) (ask_file (lines_of file))
