-- The line that a refusal gives is at most 192: a line behind line 1, the `V` line, 64 rows and 125 `C` lines.
use mathlib.Core.Path.{◌≡◌, refl}
use mathlib.Core.Bool.{true}
use mathlib.Core.List.{List, [], ◌∷◌}
use Prim.Native.Nat.{ℕ, zero, suc, ◌+◌, ◌≤◌}
use native.Mathlib.Nat.{add-zero}
use native.Mathlib.Omega.{arith}
use lib.ListN.{drop}
use Rattle.matrix_form.specs.Outcomes.{ask, Outcome, value, refused, on_line, then_with}
use Rattle.matrix_form.specs.Questions.{within_limits}
use Rattle.matrix_form.specs.declared.refusal.Refusal.TheVariants.{FirstLine, UnknownOrder, BeyondLimits, FileGoesOn}
use Rattle.matrix_form.specs.Outcomes.{Asked}
use Rattle.std.specs.Prelude.{Ok, Err}
use Rattle.tree_form.specs.Asking.{branches_size}
use Rattle.file_form.specs.declared.header.Header.{Header}
use Rattle.text_form.specs.Lines.{lines_of}
use Rattle.file_form.specs.Lines.{LineSort, ask_lines}
use Rattle.file_form.specs.Header.{header_in, row_line, behind_header, first_line_form, first_fields, order_known, ask_first_line}
use Rattle.file_form.specs.Header.{ask_header}
use Rattle.matrix_form.proofs.Passing.{ask_passed}
use Rattle.file_header.proofs.OptionalWalk.{taken_most}
use Rattle.file_form.specs.Formed.{ask_weights}
use Rattle.file_form.specs.Rows.{row_sort}
use Rattle.file_form.specs.Job.{Job}
use Rattle.file_questions.specs.Steps.{behind_rows_most}
use Rattle.file_form.specs.Branches.{branch_count, branch_sort, ask_tree}
use Rattle.file_form.specs.Reading.{job_of, nothing_more, ask_end, ask_after, ask_behind, ask_file, ask_length, read_answer}
use Rattle.file_form.proofs.BranchLines.Nodes.{count_most}
use Rattle.listing_form.proofs.Totals.{Limits, limits}

-- the highest line that a refusal gives
abbrev pub most_lines : ℕ
most_lines = behind_rows_most + branches_size

-- the line of a refusal, if there is one, is within a bound
pub data LineWithin {A : Type 0} (most : ℕ) : Outcome A → Type 0 where
  none : {a : A} → LineWithin most (value a)
  some : {number line : ℕ} → line ≤ most → LineWithin most (refused number line)

-- a line's questions and those that follow
on_line_within : {A : Type 0} (most line : ℕ) (asked : Asked) (rest : Outcome A) → line ≤ most → (asked ≡ Ok tt → LineWithin most rest)
    → LineWithin most (on_line line asked rest)
on_line_within most line (Ok _) rest h later = later refl
on_line_within most line (Err refusal) rest h later = some h

-- one line on, and one less to go
one_on : (line left : ℕ) → suc line + left ≡ line + suc left
one_on line left = omega arith

-- the questions on lines of a sort: no line behind the last one's, if none is given by what follows them
lines_within : {A : Type 0} (most : ℕ) (sort : LineSort) (earlier : List (List ℕ)) (line left : ℕ) (lines : List (List ℕ))
    (follow : ℕ → List (List ℕ) → Outcome A) → line + left ≤ most → ((others : List (List ℕ)) → LineWithin most (follow (line + left) others))
    → LineWithin most (ask_lines sort earlier line left lines follow)
unfolding ask_lines
lines_within most sort earlier line zero lines follow h own = rw add-zero at (own lines)
lines_within most sort earlier line (suc left) [] follow h own = some {line = line} (omega arith)
lines_within most sort earlier line (suc left) (behind ∷ []) follow h own = some {line = line} (omega arith)
lines_within most sort earlier line (suc left) (text ∷ next ∷ lines) follow h own =
    on_line_within most line (sort.asks earlier text) (ask_lines sort (text ∷ earlier) (suc line) left (next ∷ lines) follow) (omega arith)
    (λ e. lines_within most sort (text ∷ earlier) (suc line) left (next ∷ lines) follow (omega arith) (λ others. rw (one_on line left) (own others)))

-- the questions on what stands behind the rows of a job of at most 64 taxa
after_lines : (job : Job) (line : ℕ) (lines : List (List ℕ)) → job.n ≤ 64 → line ≤ behind_rows_most → LineWithin most_lines (ask_after job line lines)
unfolding ask_after ask_end
after_lines job line lines h low =
    let count = branch_count job.kind job.n in
    let tree = ask_tree job.kind job.n job.ancestors in
    let most = count_most job.kind job.n in
    lines_within most_lines branch_sort [] line count lines (ask_end (on_line 0 tree (value job))) (omega arith)
    (λ others.
    on_line_within most_lines (line + count) (ask (nothing_more others) FileGoesOn (Ok tt)) (on_line 0 tree (value job)) (omega arith)
    (λ e. on_line_within most_lines 0 tree (value job) (omega arith) (λ passed. none)))

-- line 1 that passes its questions has n and m within their limits
first-limits : (lines : List (List ℕ)) → ask_first_line lines ≡ Ok tt → within_limits (header_in lines).n (header_in lines).m ≡ true
unfolding ask_first_line
first-limits lines passed =
    let form = ask_passed (first_line_form lines) FirstLine _ passed in
    let order = ask_passed (order_known (first_fields lines)) UnknownOrder _ form.1 in
    (ask_passed (within_limits (header_in lines).n (header_in lines).m) BeyondLimits (Ok tt) order.1).0

-- the questions on what stands behind a header of at most 64 taxa
behind-lines : (header : Header) (lines : List (List ℕ)) → header.n ≤ 64 → LineWithin most_lines (ask_behind header lines)
unfolding ask_behind job_of
behind-lines header lines h =
    let taken = taken_most header.weighed in
    lines_within most_lines (row_sort header) [] (row_line header 1) header.n (behind_header header lines) (ask_after (job_of header lines)) (omega arith)
    (λ others. after_lines (job_of header lines) (row_line header 1 + header.n) others h (omega arith))

-- two lines' questions with what they bring, and what follows it
then_lines : {A B : Type 0} (most : ℕ) (first second : Asked) (a : A) (follow : A → Outcome B) → 2 ≤ most
    → (first ≡ Ok tt → LineWithin most (follow a)) → LineWithin most (then_with (on_line 1 first (on_line 2 second (value a))) follow)
then_lines most (Ok _) (Ok _) a follow h later = later refl
then_lines most (Ok _) (Err refusal) a follow h later = some {line = 2} h
then_lines most (Err refusal) second a follow h later = some {line = 1} (omega arith)

-- the questions on a file
pub file-line : (file : List ℕ) → LineWithin most_lines (read_answer file)
unfolding read_answer ask_file ask_header ask_weights
file-line file =
    let lines : List (List ℕ) = lines_of file in
    let header : Header = header_in lines in
    let first : Asked = ask_first_line lines in
    on_line_within most_lines 0 (ask_length file) (ask_file lines) (omega arith) λ e.
    then_lines most_lines first (ask_weights header (drop 1 lines)) header (λ header. ask_behind header lines) (omega arith) λ passed.
    let inside : Limits header.n header.m =
    limits header.n header.m (first-limits lines passed) in
    behind-lines header lines inside.taxa
