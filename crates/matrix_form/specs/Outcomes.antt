-- Asking in order, and what an input brings (document 01, "The questions put to an input"): what was asked for, or one refusal number with
-- a line.
use Rattle.std.specs.Prelude.{◌≡◌, Bool, true, false, List, [], ◌∷◌, ℕ, Result, Ok, Err, MatchResult}
use Rattle.matrix_form.specs.Refusals.{refusal_number}
use Rattle.matrix_form.specs.declared.refusal.Refusal.{Refusal}

-- what the questions put to an input answer: nothing refuses it, or the first "no"
abbrev pub Asked : Type 0
Asked = Result (Unit {0}) Refusal

-- one question, and those that follow if its answer is "yes"
abbrev pub ask : Bool → Refusal → Asked → Asked
ask true refusal rest = rest
ask false refusal rest = Err refusal

-- the questions that follow if all earlier ones passed
abbrev pub and_then : Asked → Asked → Asked
and_then (Ok _) rest = rest
and_then (Err refusal) rest = Err refusal

-- a question that is left out in a case
abbrev pub unless : Bool → Asked → Asked
unless true question = Ok tt
unless false question = question

-- a question put to each item of a list in turn: the first "no" ends them
unfoldable pub ask_each : {A : Type 0} → (A → Asked) → List A → Asked
ask_each question [] = Ok tt
ask_each question (item ∷ items) = and_then (question item) (ask_each question items)

-- what an input brings, in document 01's terms: what was asked for, or the number of the refusal and the line
pub data Outcome (A : Type 0) : Type 0 where
  value : A → Outcome A
  refused : ℕ → ℕ → Outcome A

-- the questions put to a line of a file, and what follows if they pass
abbrev pub on_line : {A : Type 0} → ℕ → Asked → Outcome A → Outcome A
on_line line (Ok _) rest = rest
on_line line (Err refusal) rest = refused (refusal_number refusal) line

-- what a call brings that reads no file, once its questions are answered: its value, or the number of the refusal with line 0
abbrev pub answered : {A : Type 0} → Asked → A → Outcome A
answered asked a = on_line 0 asked (value a)

-- what a result handed back says: its value, or the number of the refusal with line 0
abbrev pub result_says : {A : Type 0} → Result A Refusal → Outcome A
result_says (Ok a) = value a
result_says (Err refusal) = refused (refusal_number refusal) 0

-- what an answer without a value says
abbrev pub asked_says : Asked → Outcome (Unit {0})
asked_says asked = result_says asked

-- what a call promises that puts questions first: of its value P holds if they pass, and it is refused by their first "no"
abbrev pub Answers : {A : Type 0} → Asked → (A → Type 0) → Result A Refusal → Type 0
Answers asked P r = MatchResult r (λ a. (asked ≡ Ok tt) × P a) (λ refusal. asked ≡ Err refusal)

-- what follows if nothing is refused
abbrev pub then_with : {A B : Type 0} → Outcome A → (A → Outcome B) → Outcome B
then_with (value a) follow = follow a
then_with (refused number line) follow = refused number line

-- what lent memory, or a result, then is: as written if nothing was refused, as before if something was
abbrev pub afterwards : {A B : Type 0} → Outcome A → B → B → B
afterwards (value a) written old = written
afterwards (refused number line) written old = old
