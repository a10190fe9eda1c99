-- Answers with the line where they refuse, against the outcomes that the definitions speak of.
use mathlib.Core.Path.{◌≡◌, refl, sym, ap, ◌∙◌}
use Prim.Native.Nat.{ℕ}
use Rattle.std.specs.Prelude.{Result, Ok, Err}
use Rattle.matrix_form.specs.Refusals.{refusal_number}
use Rattle.matrix_form.specs.declared.refusal.Refusal.{Refusal}
use Rattle.matrix_form.specs.Outcomes.{Asked, Outcome, refused, on_line}
use Rattle.file_form.specs.declared.answer.Refused.{Refused}
use Rattle.file_header.specs.Steps.{with_value, at_line}

module _ {A : Type 0} (line : ℕ) (asked : Asked) (a : A) where
  -- questions that are refused on a line
  pub line_refused : {B : Type 0} (rest : Outcome B) (e : Refused) → at_line line (with_value asked a) ≡ Err e
      → refused (refusal_number e.refusal) e.line ≡ on_line line asked rest
  line_refused rest e h = by asked h
    where
      by : (x : Asked) → at_line line (with_value x a) ≡ Err e → refused (refusal_number e.refusal) e.line ≡ on_line line x rest
      by (Ok _) h = cc
      by (Err refusal) h =
          let same : record { refusal = refusal; line = line } ≡ e = cc h in
          ap (λ (r : Refused). refused (refusal_number r.refusal) r.line) (sym same)

  -- questions that pass
  pub line_passed : (b : A) → at_line line (with_value asked a) ≡ Ok b → (asked ≡ Ok tt) × (b ≡ a)
  line_passed b h = by asked h
    where
      by : (x : Asked) → at_line line (with_value x a) ≡ Ok b → (x ≡ Ok tt) × (b ≡ a)
      by (Ok _) h = (refl, cc)
      by (Err refusal) h = cc

-- questions that are refused on a line are so without the value too
pub refused_alone : {A : Type 0} (line : ℕ) (asked : Asked) (a : A) (e : Refused) → at_line line (with_value asked a) ≡ Err e
    → at_line line asked ≡ Err e
refused_alone line (Ok _) a e h = cc
refused_alone line (Err refusal) a e h =
    let same : record { refusal = refusal; line = line } ≡ e = cc h in
    ap Err same

-- an answer without a value is that of its questions
pub without_value : (asked : Asked) → with_value asked tt ≡ asked
without_value (Ok _) = refl
without_value (Err refusal) = refl

-- questions with no value that are refused on a line
pub asked_refused : (line : ℕ) (asked : Asked) {B : Type 0} (rest : Outcome B) (e : Refused) → at_line line asked ≡ Err e
    → refused (refusal_number e.refusal) e.line ≡ on_line line asked rest
asked_refused line asked rest e h = line_refused line asked tt rest e (ap (at_line line) (without_value asked) ∙ h)

-- questions with no value that pass
pub asked_passed : (line : ℕ) (asked : Asked) {yes : Unit {0}} → at_line line asked ≡ Ok yes → asked ≡ Ok tt
asked_passed line asked {yes} h = (line_passed line asked tt yes (ap (at_line line) (without_value asked) ∙ h)).0

-- an answer that passes on a line is one that passes
pub line_ok : {A : Type 0} (line : ℕ) (r : Result A Refusal) (a : A) → at_line line r ≡ Ok a → r ≡ Ok a
line_ok line (Ok b) a e = cc
line_ok line (Err refusal) a e = cc
