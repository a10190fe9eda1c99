-- A walk over lines of one sort, line by line, puts the questions that the definition puts.
use mathlib.Core.Path.{◌≡◌, refl, sym, ap, ap₂, ◌∙◌}
use mathlib.Core.List.{List, [], ◌∷◌, ◌++◌, reverse, reverse-append}
use Prim.Native.Nat.{ℕ, suc, ◌+◌, ◌-◌, ◌≤◌, ◌<◌}
use native.Mathlib.Nat.{add-zero, sub-zero}
use native.Mathlib.Numerals.{add-one}
use native.Mathlib.Omega.{arith}
use lib.ListN.{take, drop}
use lib.Seq.{take-suc}
use Rattle.std.specs.Prelude.{Ok, Err}
use Rattle.matrix_form.specs.Outcomes.{Asked, Outcome, on_line}
use Rattle.file_form.specs.Job.{Job}
use Rattle.text_form.specs.Lines.{lines_of}
use Rattle.file_form.specs.Lines.{LineSort, ask_lines}
use Rattle.text_form.proofs.Parts.{lines_some}
use Rattle.file_form.specs.declared.answer.Refused.{Refused}
use Rattle.file_header.specs.Steps.{at_line}
use Rattle.file_header.proofs.Answering.{asked_refused, asked_passed}
use Rattle.file_questions.specs.Steps.{LinesAsked}
use Rattle.lists.proofs.Rests.{rest_below, rest_at, rest-next}

-- the lines that a walk has passed, the last one first
abbrev pub lines_before : List ℕ → ℕ → List (List ℕ)
lines_before text done = reverse (take done (lines_of text))

-- what a walk knows when it has passed `done` lines and keeps the rest: the lines that are left decide, whatever follows them
pub record LinesLeft (sort : LineSort) (text : List ℕ) (count first : ℕ) (rest : List ℕ) (done : ℕ) : Type 0 where
  pub some : done ≤ count
  pub walk : lines_of rest ≡ drop done (lines_of text)
  pub decide :
      (follow : ℕ → List (List ℕ) → Outcome Job)
      → ask_lines sort [] first count (lines_of text) follow
      ≡ ask_lines sort (lines_before text done) (first + done) (count - done) (lines_of rest) follow

-- at the start
pub lines-start : (sort : LineSort) (text : List ℕ) (count first : ℕ) → LinesLeft sort text count first text 0
lines-start sort text count first =
    record {
      some = omega arith;
      walk = refl;
      decide =
          λ follow.
          ap₂ (λ number left. ask_lines sort [] number left (lines_of text) follow) (sym (add-zero first)) (sym (sub-zero count));
    }

-- one line of the walk
module _ (sort : LineSort) (text : List ℕ) (count first : ℕ) (rest : List ℕ) (done : ℕ) (left : LinesLeft sort text count first rest done)
    (h : done < count) where
  -- how many lines are left behind it
  abbrev fewer : ℕ
  fewer = count - (done + 1)

  -- the lines that are left decide
  this_line : (follow : ℕ → List (List ℕ) → Outcome Job)
      → ask_lines sort [] first count (lines_of text) follow
      ≡ ask_lines sort (lines_before text done) (first + done) (suc fewer) (lines_of rest) follow
  this_line follow =
      left.decide follow ∙ ap (λ k. ask_lines sort (lines_before text done) (first + done) k (lines_of rest) follow) (omega arith)

  -- a last piece that no line feed ends is no line
  pub line_missing : lines_of rest ≡ rest ∷ []
      → LinesAsked sort text count first (Err (record { refusal = sort.missing; line = first + done }))
  unfolding ask_lines
  line_missing l =
      record {
        says =
            λ follow.
            sym (this_line follow ∙ ap (λ lines. ask_lines sort (lines_before text done) (first + done) (suc fewer) lines follow) l);
        ends = λ place e. cc;
      }

  -- a line, and the lines behind it
  module _ (line behind : List ℕ) (l : lines_of rest ≡ line ∷ lines_of behind) where
    -- it is the next one of the text
    these : drop done (lines_of text) ≡ line ∷ lines_of behind
    these = sym left.walk ∙ l

    -- it is the last one passed
    pub before_more : lines_before text (done + 1) ≡ line ∷ lines_before text done
    before_more =
        ap (λ k. reverse (take k (lines_of text))) (add-one done)
        ∙ ap reverse
        (take-suc (lines_of text) done [] (rest_below (lines_of text) done line (lines_of behind) these)
        ∙ ap (λ x. take done (lines_of text) ++ (x ∷ [])) (rest_at (lines_of text) done line (lines_of behind) these []))
        ∙ reverse-append (take done (lines_of text)) (line ∷ [])

    -- its own questions were put
    module _ (answer : Asked) (q : answer ≡ sort.asks (lines_before text done) line) where
      -- they decide, and then those on the lines behind it
      asked : (follow : ℕ → List (List ℕ) → Outcome Job)
          → ask_lines sort [] first count (lines_of text) follow
          ≡ on_line (first + done) answer (ask_lines sort (line ∷ lines_before text done) (suc (first + done)) fewer (lines_of behind) follow)
      unfolding ask_lines
      asked follow =
          let more = lines_some behind in
          this_line follow
          ∙ ap (λ lines. ask_lines sort (lines_before text done) (first + done) (suc fewer) lines follow) (l ∙ ap (◌∷◌ line) more)
          ∙ ap₂
          (λ x lines. on_line (first + done) x (ask_lines sort (line ∷ lines_before text done) (suc (first + done)) fewer lines follow)) (sym q)
          (sym more)

      -- it is refused
      pub line_refused : (e : Refused) → at_line (first + done) answer ≡ Err e → LinesAsked sort text count first (Err e)
      line_refused e same =
          record { says = λ follow. asked_refused (first + done) answer _ e same ∙ sym (asked follow); ends = λ place never. cc }

      -- it passes: the walk goes on behind it
      pub line_passed : {yes : Unit {0}} → at_line (first + done) answer ≡ Ok yes → LinesLeft sort text count first behind (done + 1)
      line_passed {yes} e =
          record {
            some = omega arith;
            walk = sym (rest-next (lines_of text) done line (lines_of behind) these);
            decide =
                λ follow.
                let number : suc (first + done) ≡ first + (done + 1) = omega arith in
                asked follow
                ∙ ap (λ x. on_line (first + done) x (ask_lines sort (line ∷ lines_before text done) (suc (first + done)) fewer (lines_of behind) follow))
                (asked_passed (first + done) answer {yes = yes} e)
                ∙ ap₂ (λ earlier k. ask_lines sort earlier k fewer (lines_of behind) follow) (sym before_more) number;
          }

-- all lines passed: what follows them decides
pub lines-ended : (sort : LineSort) (text : List ℕ) (count first : ℕ) (rest : List ℕ) (done : ℕ) → LinesLeft sort text count first rest done
    → count ≤ done → LinesAsked sort text count first (Ok rest)
unfolding ask_lines
lines-ended sort text count first rest done left h =
    let all : done ≡ count = let some = left.some in omega arith in
    let none : count - done ≡ 0 = omega arith in
    record {
      says =
          λ follow.
          sym (left.decide follow
          ∙ ap (λ k. ask_lines sort (lines_before text done) (first + done) k (lines_of rest) follow) none
          ∙ ap (λ k. follow (first + k) (lines_of rest)) all);
      ends =
          λ place e.
          let here : rest ≡ place = cc in
          ap lines_of (sym here) ∙ left.walk ∙ ap (λ k. drop k (lines_of text)) all;
    }
