-- The questions put to a file, as they are put one after another: its length, the header, the rows, the `C` lines, the end and the
-- branching.
use mathlib.Core.Path.{◌≡◌, refl, sym, ap, ap₂, ◌∙◌}
use mathlib.Core.List.{List, [], ◌∷◌, map}
use mathlib.Core.Bool.{Bool, true, false, and-eq-true_iff}
use Prim.Native.Nat.{ℕ, ◌+◌, ◌≤◌, ◌<◌}
use native.Mathlib.Omega.{arith}
use borrow.Author.Tests.{le-leb, lt-leb}
use lib.Dec.{eqb}
use lib.ListN.{length, take, drop}
use Rattle.std.specs.Prelude.{Result, Ok, Err}
use Rattle.matrix_form.specs.Refusals.{refusal_number}
use Rattle.matrix_form.specs.declared.refusal.Refusal.TheVariants.{FileTooLong, FileEmpty, FileGoesOn}
use Rattle.matrix_form.specs.Outcomes.{Asked, ask, Outcome, value, refused, on_line, then_with}
use Rattle.matrix_form.specs.Questions.{within_limits, one_to}
use Rattle.matrix_form.proofs.Passing.{one_to-true}
use Rattle.file_form.specs.declared.header.Header.{Header}
use Rattle.text_form.specs.Bytes.{line_feed, before_first, pieces_at}
use Rattle.text_form.specs.Lines.{lines_of}
use Rattle.file_form.specs.Lines.{ask_lines}
use Rattle.file_form.specs.Header.{header_lines, ask_header}
use Rattle.file_form.specs.Rows.{row_sort}
use Rattle.file_form.specs.Job.{Job, most_bytes}
use Rattle.file_form.specs.Branches.{branch_count, ancestor_in, branch_sort, ask_tree}
use Rattle.file_form.specs.Reading.{behind_rows, job_of, nothing_more, ask_end, ask_after, ask_behind, ask_file, ask_length}
use Rattle.file_form.specs.Reading.{read_answer}
use Rattle.file_form.proofs.File.HeaderRead.{HeaderPassed, header_passed, several-lines, header_behind}
use Rattle.text_form.proofs.Parts.{pieces_some, pieces_at_lem, pieces_other}
use Rattle.file_form.specs.declared.answer.Refused.{Refused}
use Rattle.file_form.specs.Calls.{read_says, with_header}
use Rattle.file_questions.specs.Steps.{passed_says, lines_say, LinesAsked, RestAsked}
use Rattle.file_text.specs.Steps.{BehindLines}
use Rattle.file_header.specs.Steps.{at_line}
use Rattle.file_header.proofs.Answering.{asked_refused, asked_passed}

-- a file that is too long
pub too_long : (file : List ℕ) → most_bytes < length file → Err FileTooLong ≡ ask_length file
unfolding ask_length
too_long file h = rw (lt-leb (length file) most_bytes h)

-- an empty file
pub empty : (file : List ℕ) → length file ≡ 0 → Err FileEmpty ≡ ask_length file
unfolding ask_length
empty file h = rw h

-- a file of the right length
pub right_length : (file : List ℕ) → length file ≤ most_bytes → (length file ≡ 0 → ⊥) → Ok tt ≡ ask_length file
unfolding ask_length
right_length file low some = rw (le-leb (length file) most_bytes low, le-leb 1 (length file) (omega arith))

-- something stands behind the last line
more_than_nothing : (b : ℕ) (bs : List ℕ) → nothing_more (pieces_at line_feed (b ∷ bs)) ≡ false
unfolding nothing_more
more_than_nothing b bs = by (eqb b line_feed) refl
  where
    rest : (first : List ℕ) × (others : List (List ℕ)) × (pieces_at line_feed bs ≡ first ∷ others)
    rest = pieces_some line_feed bs

    by : (t : Bool) → eqb b line_feed ≡ t → nothing_more (pieces_at line_feed (b ∷ bs)) ≡ false
    by true e = ap nothing_more (pieces_at_lem line_feed b bs e ∙ ap (◌∷◌ []) rest.2)
    by false e = ap nothing_more (pieces_other line_feed b bs e ∙ ap (before_first b) rest.2)

-- the file goes on
pub goes_on : (rest : List ℕ) → (length rest ≡ 0 → ⊥) → Err FileGoesOn ≡ ask (nothing_more (lines_of rest)) FileGoesOn (Ok tt)
unfolding lines_of
goes_on [] h = absurd (h refl)
goes_on (byte ∷ bytes) h = sym (ap (λ x. ask x FileGoesOn (Ok tt)) (more_than_nothing byte bytes))

-- it ends
pub ends : (rest : List ℕ) → length rest ≡ 0 → Ok tt ≡ ask (nothing_more (lines_of rest)) FileGoesOn (Ok tt)
unfolding lines_of nothing_more pieces_at
ends [] h = refl
ends (byte ∷ bytes) h = absurd (omega arith)

-- what follows the `C` lines of a file that says a job: the end of the file, and whether its branching is one
abbrev after_branches : Job → ℕ → List (List ℕ) → Outcome Job
after_branches job = ask_end (on_line 0 (ask_tree job.kind job.n job.ancestors) (value job))

-- the header or a refusal on a line, and of what the file's lines bring the header alone
header_says : (line : ℕ) (asked : Asked) (job : Job)
    → passed_says job.header (at_line line asked) ≡ with_header (on_line line asked (value job))
header_says line (Ok _) job = refl
header_says line (Err refusal) job = refl

-- what stands behind the rows of a file, once its `C` lines have been asked
module _ (rest : List ℕ) (line : ℕ) (header : Header) (count : ℕ) (c : count ≡ branch_count header.kind header.n)
    (answer : Result (List ℕ) Refused) (asked : LinesAsked branch_sort rest count line answer) where
  -- what they bring, of a job with this header
  branches_say : (job : Job) → job.header ≡ header → lines_say answer (line + count) (after_branches job) ≡ ask_after job line (lines_of rest)
  unfolding ask_after
  branches_say job h =
      asked.says (after_branches job)
      ∙ ap (λ k. ask_lines branch_sort [] line k (lines_of rest) (after_branches job)) (c ∙ ap (λ said. branch_count said.kind said.n) (sym h))

  -- they are refused
  pub branches-refused : (e : Refused) → answer ≡ Err e → RestAsked rest line header (Err e)
  branches-refused e a =
      record {
        says = λ job h above. ap with_header (sym (ap (λ x. lines_say x (line + count) (after_branches job)) a) ∙ branches_say job h);
      }

  -- they end, and the end of the file was asked
  module _ (behind : List ℕ) (a : answer ≡ Ok behind) (end : Asked) (q : end ≡ ask (nothing_more (lines_of behind)) FileGoesOn (Ok tt)) where
    -- the end decides, and then the branching
    end_decides : (job : Job) → job.header ≡ header
        → ask_after job line (lines_of rest) ≡ on_line (line + count) end (on_line 0 (ask_tree job.kind job.n job.ancestors) (value job))
    unfolding ask_end
    end_decides job h =
        sym (branches_say job h)
        ∙ ap (λ x. lines_say x (line + count) (after_branches job)) a
        ∙ ap (λ x. on_line (line + count) x (on_line 0 (ask_tree job.kind job.n job.ancestors) (value job))) (sym q)

    -- the file goes on
    pub end_refused : (e : Refused) → at_line (line + count) end ≡ Err e → RestAsked rest line header (Err e)
    end_refused e r =
        record { says = λ job h above. ap with_header (asked_refused (line + count) end _ e r ∙ sym (end_decides job h)) }

    -- it ends: the branching decides
    pub tree_decides : {yes : Unit {0}} → at_line (line + count) end ≡ Ok yes → (tree : Asked)
        → tree ≡ ask_tree header.kind header.n (map ancestor_in (take count (lines_of rest)))
        → (r : Result (Unit {0}) Refused) → r ≡ at_line 0 tree → RestAsked rest line header r
    tree_decides {yes} t tree w r said =
        record {
          says =
              λ job h above.
              ap (passed_says header) said
              ∙ ap₂ (λ found x. passed_says found (at_line 0 x)) (sym h)
              (w
              ∙ ap₂ (λ found ancestors. ask_tree found.kind found.n ancestors) (sym h)
              (ap (λ k. map ancestor_in (take k (lines_of rest))) c ∙ sym above))
              ∙ header_says 0 (ask_tree job.kind job.n job.ancestors) job
              ∙ sym (ap with_header
              (end_decides job h
              ∙ ap (λ x. on_line (line + count) x (on_line 0 (ask_tree job.kind job.n job.ancestors) (value job)))
              (asked_passed (line + count) end {yes = yes} t)));
        }

-- what stands behind the header of a file, once its rows have been asked
module _ (file : List ℕ) (header : Header) (left : header_lines header < length (lines_of file)) (passed : ℕ)
    (p : passed ≡ header_lines header) (rows : List ℕ) (b : BehindLines file passed rows) (answer : Result (List ℕ) Refused)
    (asked : LinesAsked (row_sort header) rows header.n (passed + 1) answer) where
  -- the rows' text has the lines behind the header
  r : lines_of rows ≡ drop passed (lines_of file)
  r = b.lines (omega (arith, left, p))

  -- the job that its lines say
  abbrev job : Job
  job = job_of header (lines_of file)

  -- what the rows bring, and then what stands behind them
  rows_say : lines_say answer (passed + 1 + header.n) (ask_after job) ≡ ask_behind header (lines_of file)
  unfolding ask_behind
  rows_say =
      asked.says (ask_after job)
      ∙ ap₂ (λ k lines. ask_lines (row_sort header) [] (k + 1) header.n lines (ask_after job)) p (r ∙ ap (λ k. drop k (lines_of file)) p)

  -- the rows are refused
  pub rows-refused : (e : Refused) → answer ≡ Err e → passed_says header (Err e) ≡ with_header (ask_behind header (lines_of file))
  rows-refused e a = ap with_header (sym (ap (λ x. lines_say x (passed + 1 + header.n) (ask_after job)) a) ∙ rows_say)

  -- they end: what stands behind them decides
  pub rest_decides : (rest : List ℕ) → answer ≡ Ok rest → (said : Result (Unit {0}) Refused)
      → RestAsked rest (passed + 1 + header.n) header said → passed_says header said ≡ with_header (ask_behind header (lines_of file))
  unfolding job_of
  rest_decides rest a said found =
      let lines : lines_of rest ≡ behind_rows header (lines_of file) =
      asked.ends rest a ∙ ap (drop header.n) (r ∙ ap (λ k. drop k (lines_of file)) p) in
      found.says job refl (ap (λ all. map ancestor_in (take (branch_count header.kind header.n) all)) (sym lines))
      ∙ ap with_header (sym (ap (λ x. lines_say x (passed + 1 + header.n) (ask_after job)) a) ∙ rows_say)

-- a file whose length is refused
pub length-refused : (file : List ℕ) (e : Refused) → at_line 0 (ask_length file) ≡ Err e
    → refused (refusal_number e.refusal) e.line ≡ with_header (read_answer file)
unfolding read_answer
length-refused file e h = ap with_header (asked_refused 0 (ask_length file) (ask_file (lines_of file)) e h)

-- a file of the right length, whose header has been asked
module _ (file : List ℕ) {yes : Unit {0}} (l : at_line 0 (ask_length file) ≡ Ok yes) (answer : Result Header Refused)
    (a : read_says answer ≡ ask_header (lines_of file)) where
  -- the header and what stands behind it decide
  sized : read_answer file ≡ then_with (read_says answer) (λ header. ask_behind header (lines_of file))
  unfolding read_answer ask_file
  sized =
      ap (λ asked. on_line 0 asked (ask_file (lines_of file))) (asked_passed 0 (ask_length file) {yes = yes} l)
      ∙ ap (λ outcome. then_with outcome (λ header. ask_behind header (lines_of file))) (sym a)

  -- the header is refused
  pub header_refused : (e : Refused) → answer ≡ Err e → refused (refusal_number e.refusal) e.line ≡ with_header (read_answer file)
  header_refused e h = sym (ap with_header (sized ∙ ap (λ r. then_with (read_says r) (λ header. ask_behind header (lines_of file))) h))

  module _ (header : Header) (h : answer ≡ Ok header) where
    -- what it was answered
    passed : HeaderPassed (lines_of file) header
    passed = header_passed (lines_of file) header (sym a ∙ ap read_says h)

    -- lines stand behind it
    pub header_several : header_lines header < length (lines_of file)
    header_several = rw passed.is at (header_behind (lines_of file) (several-lines (lines_of file) passed.form) passed.weights)

    -- it has at most 64 taxa
    pub taxa_few : header.n ≤ 64
    unfolding within_limits
    taxa_few =
        let limits : within_limits header.n header.m ≡ true =
        ap (λ read. within_limits read.n read.m) (sym passed.is) ∙ passed.limits in
        let both = (and-eq-true_iff (one_to 64 header.n) (one_to 128 header.m)).0 limits in
        (one_to-true 64 header.n both.0).1

    -- what stands behind it decides
    pub behind_decides : (r : Result (Unit {0}) Refused) → passed_says header r ≡ with_header (ask_behind header (lines_of file))
        → passed_says header r ≡ with_header (read_answer file)
    behind_decides r o = o ∙ sym (ap with_header (sized ∙ ap (λ x. then_with (read_says x) (λ header. ask_behind header (lines_of file))) h))
