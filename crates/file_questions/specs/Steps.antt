-- No public contract cites this file. What a walk over lines of a sort, the rows or the `C` lines of a file, answers.
use mathlib.Core.List.{List, [], map}
use Rattle.std.specs.Prelude.{◌≡◌, ℕ, ◌+◌, length, take, drop, Result, Ok, Err, List}
use Rattle.matrix_form.specs.Shape.{most_taxa}
use Rattle.matrix_form.specs.Outcomes.{Outcome, value, refused}
use Rattle.matrix_form.specs.Refusals.{refusal_number}
use Rattle.file_form.specs.declared.header.Header.{Header}
use Rattle.file_form.specs.declared.answer.Refused.{Refused}
use Rattle.file_form.specs.Job.{Job}
use Rattle.text_form.specs.Lines.{lines_of}
use Rattle.file_form.specs.Lines.{LineSort, ask_lines}
use Rattle.file_form.specs.Header.{optional_lines}
use Rattle.file_form.specs.Branches.{branch_count, ancestor_in}
use Rattle.file_form.specs.Reading.{ask_after}
use Rattle.file_form.specs.Calls.{with_header}

-- what an answer with no value says in document 01's terms, of a file with this header
abbrev pub passed_says : Header → Result (Unit {0}) Refused → Outcome Header
passed_says header (Ok _) = value header
passed_says header (Err r) = refused (refusal_number r.refusal) r.line

-- what lines of a text bring, as a walk answers that leaves this rest: what follows them, or the refusal
abbrev pub lines_say : Result (List ℕ) Refused → ℕ → (ℕ → List (List ℕ) → Outcome Job) → Outcome Job
lines_say (Ok rest) next follow = follow next (lines_of rest)
lines_say (Err r) next follow = refused (refusal_number r.refusal) r.line

-- the line behind the rows has at most this number: line 1, the optional lines and 64 rows stand in front of it
abbrev pub behind_rows_most : ℕ
behind_rows_most = 2 + length optional_lines + most_taxa

-- what a walk leaves of a text, as it stands in what the walk hands back, or its refusal
abbrev pub left_of : {A E : Type 0} → (A → List ℕ) → Result A E → Result (List ℕ) E
left_of rest (Ok found) = Ok (rest found)
left_of rest (Err e) = Err e

-- a walk over so many lines of a sort, the first of them in this line of the file, answers their questions, whatever follows them, and ends
-- behind them
pub record LinesAsked (sort : LineSort) (text : List ℕ) (count first : ℕ) (r : Result (List ℕ) Refused) : Type 0 where
  pub says :
      (follow : ℕ → List (List ℕ) → Outcome Job)
      → lines_say r (first + count) follow
      ≡ ask_lines sort [] first count (lines_of text) follow
  pub ends : (rest : List ℕ) → r ≡ Ok rest → lines_of rest ≡ drop count (lines_of text)

-- what stands behind the rows was asked: an answer says what it brings, of a job with this header and the branching that its lines say
pub record RestAsked (rest : List ℕ) (line : ℕ) (header : Header) (r : Result (Unit {0}) Refused) : Type 0 where
  pub says : (job : Job) → job.header ≡ header
      → job.ancestors ≡ map ancestor_in (take (branch_count header.kind header.n) (lines_of rest))
      → passed_says header r ≡ with_header (ask_after job line (lines_of rest))
