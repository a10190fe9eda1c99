-- An accepted file is the file of the job that it says, and the job is within the limits.
use mathlib.Core.Path.{◌≡◌, refl, sym, ap, ap₂, ◌∙◌, subst}
use mathlib.Core.List.{List, [], ◌∷◌, ◌++◌, map, zip_with, append_assoc}
use mathlib.Core.Bool.{Bool, true, false, false≢true}
use Prim.Native.Nat.{ℕ, zero, suc, ◌+◌, ◌≤◌}
use borrow.Author.Tests.{leb-true}
use lib.Dec.{leb, eqb}
use lib.ListN.{length, length-map, get_or, take, drop, take-append-drop}
use Rattle.lists.specs.Tests.{every, same_numbers as same_text}
use Rattle.lists.proofs.Both.{and_right}
use Rattle.lists.specs.Numbers.{numbers}
use Rattle.matrix_form.specs.Outcomes.{value, on_line}
use Rattle.matrix_form.specs.Questions.{within_limits}
use Rattle.matrix_form.specs.declared.refusal.Refusal.TheVariants.{FileTooLong, FileGoesOn, NotBranching}
use Rattle.std.specs.Prelude.{Ok}
use Rattle.matrix_form.proofs.Passing.{ask_passed}
use Rattle.file_form.specs.declared.header.Header.{Header}
use Rattle.text_form.specs.Bytes.{line_feed, joined_by}
use Rattle.file_form.specs.Optional.{optional_there, optional_fields, lines_taken, optional_line, letter_free}
use Rattle.file_form.specs.Weights.{letter_v, weight_form, weight_text, weights_form, weights_said}
use Rattle.text_form.specs.Lines.{ended, lines_of}
use Rattle.file_form.specs.Job.{Job, most_bytes, JobWithinLimits, weight_line, file_of}
use Rattle.file_form.specs.Header.{row_line, first_fields, header_in, behind_header, first_line_form, order_known, ask_header}
use Rattle.file_form.specs.Rows.{name_in, codes_in, row_sort}
use Rattle.file_form.specs.Branches.{branch_count, ancestor_in, branch_text, branch_texts, branch_sort, branched, ask_tree}
use Rattle.file_form.specs.Reading.{row_lines, behind_rows, branch_lines, job_of, nothing_more, ask_end, ask_after, ask_behind}
use Rattle.file_form.specs.Reading.{ask_file, ask_length, read_answer}
use Rattle.file_form.specs.Formed.{ask_weights, row_form}
use Rattle.file_form.proofs.File.Outcomes.{line_passed, then_passed}
use Rattle.file_form.proofs.File.InTurn.{lines_passed}
use Rattle.file_form.proofs.File.WeightFields.{weights_written_lem, said_count, said_known, said_ones}
use Rattle.file_form.proofs.File.HeaderRead.{header_passed, several-lines, lines_split, order_fits, first_written}
use Rattle.file_form.proofs.File.HeaderRead.{weights-formed, drop-behind, header_split}
use Rattle.text_form.proofs.Parts.{joined_pieces, joined-ended}
use Rattle.file_form.proofs.Rows.PassedRows.{RowsRead, rows_read, rows-formed}
use Rattle.file_form.proofs.BranchLines.Passed.{BranchesRead, branches_read_lem}

-- nothing behind the last line is one empty piece
nothing-more : (lines : List (List ℕ)) → nothing_more lines ≡ true → lines ≡ [] ∷ []
unfolding nothing_more
nothing-more [] e = absurd (false≢true e)
nothing-more ([] ∷ []) e = refl
nothing-more ([] ∷ next ∷ lines) e = absurd (false≢true e)
nothing-more ((byte ∷ bytes) ∷ lines) e = absurd (false≢true e)

-- what lines tell whose piece behind the header passes: its rows and its `C` lines were read, nothing stands behind these, the branching is
-- one, and the lines say the job
pub record BehindPassed (header : Header) (lines : List (List ℕ)) (job : Job) : Type 0 where
  pub rows : RowsRead header [] header.n (behind_header header lines)
  pub formed : every row_form (row_lines header lines) ≡ true
  pub branches : BranchesRead 2 (branch_count header.kind header.n) (behind_rows header lines)
  pub branching_said : branched header.kind header.n (map ancestor_in (branch_lines header lines)) ≡ true
  pub all : behind_header header lines ≡ row_lines header lines ++ (branch_lines header lines ++ ([] ∷ []))
  pub is : job_of header lines ≡ job

-- lines that pass tell so
pub behind_passed : (header : Header) (lines : List (List ℕ)) (job : Job) → within_limits header.n header.m ≡ true
    → ask_behind header lines ≡ value job → BehindPassed header lines job
unfolding ask_behind ask_after ask_end job_of
behind_passed header lines job limits e =
    let said = job_of header lines in
    let behind = behind_header header lines in
    let rest = behind_rows header lines in
    let count = branch_count header.kind header.n in
    let above = map ancestor_in (branch_lines header lines) in
    let read = lines_passed (row_sort header) [] (row_line header 1) header.n behind (ask_after said) job e in
    let branches =
    lines_passed branch_sort [] (row_line header 1 + header.n) count rest
    (ask_end (on_line 0 (ask_tree header.kind header.n above) (value said))) job read.1 in
    let end = line_passed (row_line header 1 + header.n + count) _ (on_line 0 (ask_tree header.kind header.n above) (value said)) job
    branches.1 in
    let none = ask_passed (nothing_more (drop count rest)) FileGoesOn (Ok tt) end.0 in
    let tree = line_passed 0 (ask_tree header.kind header.n above) (value said) job end.1 in
    record {
      rows = rows_read header [] header.n behind read.0;
      formed = rows-formed header [] (take header.n behind) limits read.0.pass;
      branches = branches_read_lem 2 count [] rest refl branches.0.count branches.0.pass;
      branching_said = (ask_passed (branched header.kind header.n above) NotBranching (Ok tt) tree.0).0;
      all =
          sym (take-append-drop header.n behind)
          ∙ ap (λ others. take header.n behind ++ others)
          (sym (take-append-drop count rest) ∙ ap (λ others. take count rest ++ others) (nothing-more (drop count rest) none.0));
      is = cc tree.1;
    }

-- what a file that passes tells
pub record FilePassed (file : List ℕ) (job : Job) : Type 0 where
  pub short : length file ≤ most_bytes
  pub form : first_line_form (lines_of file) ≡ true
  pub order : order_known (first_fields (lines_of file)) ≡ true
  pub limits : within_limits (header_in (lines_of file)).n (header_in (lines_of file)).m ≡ true
  pub weights : ask_weights (header_in (lines_of file)) (drop 1 (lines_of file)) ≡ Ok tt
  pub behind : BehindPassed (header_in (lines_of file)) (lines_of file) job

-- a file that passes tells so
pub file_passed : (file : List ℕ) (job : Job) → read_answer file ≡ value job → FilePassed file job
unfolding read_answer ask_length ask_file
file_passed file job e =
    let start = line_passed 0 (ask_length file) (ask_file (lines_of file)) job e in
    let short = ask_passed (leb (length file) most_bytes) FileTooLong _ start.0 in
    let read = then_passed (ask_header (lines_of file)) (λ header. ask_behind header (lines_of file)) job start.1 in
    let first = header_passed (lines_of file) read.0 read.1 in
    record {
      short = leb-true (length file) most_bytes short.0;
      form = first.form;
      order = first.order;
      limits = first.limits;
      weights = first.weights;
      behind =
          behind_passed (header_in (lines_of file)) (lines_of file) job first.limits
          (ap (λ header. ask_behind header (lines_of file)) first.is ∙ read.2);
    }

-- where no `V` line was found, row 1 has another name
name_free : (weighed : Bool) (n : ℕ) (behind : List (List ℕ)) → weighed ≡ optional_there letter_v behind
    → letter_free weighed letter_v (map name_in (take n (drop (lines_taken weighed) behind))) ≡ true
unfolding letter_free optional_there name_in same_text
name_free true n behind found = refl
name_free false zero behind found = refl
name_free false (suc n) [] found = refl
name_free false (suc n) (line ∷ lines) found = rw (sym found)

-- the `V` line is written in the one way
line_written : (weighed : Bool) (m : ℕ) (fields : List (List ℕ)) → (weighed ≡ true → weights_form m fields ≡ true)
    → optional_line weighed letter_v (map weight_text (weights_said weighed m fields)) ≡ optional_line weighed letter_v fields
unfolding weights_said weights_form optional_line
line_written true m fields formed =
    ap (optional_line true letter_v) (weights_written_lem fields (and_right (eqb (length fields) m) (every weight_form fields) (formed refl)))
line_written false m fields formed = refl

-- a file that passes
module _ (file : List ℕ) (job : Job) (passed : FilePassed file job) where
  -- its lines
  abbrev lines : List (List ℕ)
  lines = lines_of file

  -- its header
  abbrev header : Header
  header = header_in (lines_of file)

  -- the fields of a `V` line, if it is there
  abbrev fields : List (List ℕ)
  fields = optional_fields (drop 1 (lines_of file))

  -- they are m weights
  formed : header.weighed ≡ true → weights_form header.m fields ≡ true
  formed = weights-formed lines (several-lines lines passed.form) passed.weights

  -- there is an ancestor for each `C` line
  ancestors-count : length (map ancestor_in (branch_lines header lines)) ≡ branch_count header.kind header.n
  ancestors-count = length-map (branch_lines header lines) ancestor_in ∙ passed.behind.branches.count

  -- its `C` lines are those of the job
  branches_written : branch_texts (map ancestor_in (branch_lines header lines)) ≡ branch_lines header lines
  unfolding branch_texts
  branches_written =
      ap (λ count. zip_with branch_text (numbers 2 count) (map ancestor_in (branch_lines header lines))) ancestors-count
      ∙ passed.behind.branches.written

  -- the lines of its rows and its `C` lines
  abbrev texts : List (List ℕ)
  texts = row_lines header lines ++ branch_lines header lines

  -- its lines behind line 1 are the `V` line of the job, if it has one, its rows and `C` lines, and nothing behind these
  lines_written : drop 1 lines ≡ (weight_line (job_of header lines) ++ texts) ++ ([] ∷ [])
  unfolding job_of
  lines_written =
      header_split lines (several-lines lines passed.form) passed.weights
      ∙ ap₂ ◌++◌ (sym (line_written header.weighed header.m fields formed))
      (passed.behind.all ∙ sym (append_assoc (row_lines header lines) (branch_lines header lines) ([] ∷ [])))
      ∙ sym (append_assoc (weight_line (job_of header lines)) texts ([] ∷ []))

  -- it is the file of the job that it says
  file_written : file ≡ file_of (job_of header lines)
  unfolding job_of file_of lines_of
  file_written =
      sym (joined_pieces line_feed file)
      ∙ ap (joined_by line_feed) (lines_split lines passed.form)
      ∙ ap (λ behind. joined_by line_feed (get_or lines 0 [] ∷ behind)) lines_written
      ∙ joined-ended (get_or lines 0 [] ∷ weight_line (job_of header lines) ++ texts)
      ∙ sym (ap₂ (λ first others. ended (first ∷ weight_line (job_of header lines) ++ others))
      (first_written lines passed.form passed.order (job_of header lines) refl)
      (ap₂ ◌++◌ passed.behind.rows.written branches_written))

  -- the job that it says is within the limits
  job_within : JobWithinLimits (job_of header lines)
  unfolding job_of header_in
  job_within =
      let read = passed.behind.rows in
      let within = read.within in
      record {
        formed =
            record {
              limits = passed.limits;
              order_fits = order_fits lines passed.form passed.order;
              weight_count = said_count header.m fields header.weighed formed;
              weights_known = said_known header.m fields header.weighed formed;
              weights_unsaid = said_ones header.m fields header.weighed;
              name_count = length-map (row_lines header lines) name_in ∙ read.count;
              names_formed = within.formed;
              names_differ = within.differ;
              name_free =
                  ap (λ behind. letter_free header.weighed letter_v (map name_in (take header.n behind)))
                  (sym (drop-behind (lines_taken header.weighed) lines))
                  ∙ name_free header.weighed header.n (drop 1 lines) refl;
              row_count = length-map (row_lines header lines) codes_in ∙ read.count;
              rows_full = within.full;
              codes_in_range = within.near;
              branches_counted = ancestors-count;
              branching_said = passed.behind.branching_said;
            };
        short = subst (λ text. length text ≤ most_bytes) file_written passed.short;
      }

-- an accepted file is the file of its job, which is within the limits
pub file_of_read : (file : List ℕ) (job : Job) → read_answer file ≡ value job → JobWithinLimits job × (file ≡ file_of job)
file_of_read file job e =
    let passed = file_passed file job e in
    subst (λ said. JobWithinLimits said × (file ≡ file_of said)) passed.behind.is (job_within file job passed, file_written file job passed)
