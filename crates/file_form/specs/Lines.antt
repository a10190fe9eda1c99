-- The questions put to lines of one sort, one after another.
use Rattle.std.specs.Prelude.{List, [], ◌∷◌, ℕ, zero, suc}
use Rattle.matrix_form.specs.Outcomes.{Asked, Outcome, refused, on_line}
use Rattle.matrix_form.specs.Refusals.{refusal_number}
use Rattle.matrix_form.specs.declared.refusal.Refusal.{Refusal}

-- a sort of lines, as rows or `C` lines: the refusal where one of them is missing or no line feed ends it, and the questions put to one of
-- them, which are handed the lines of the sort before it, the last one first
pub record LineSort : Type 0 where
  pub missing : Refusal
  pub asks : List (List ℕ) → List ℕ → Asked

-- for each of so many lines of a sort in turn, the next one in this line of the file: is there another line, ended by a line feed? its own
-- questions; when none is left to read: what follows, with the number of the next line and the lines left
unfoldable pub ask_lines :
    {A : Type 0} → LineSort → List (List ℕ) → ℕ → ℕ → List (List ℕ) → (ℕ → List (List ℕ) → Outcome A) → Outcome A
ask_lines sort earlier number zero lines follow = follow number lines
ask_lines sort earlier number (suc left) [] follow = refused (refusal_number sort.missing) number
ask_lines sort earlier number (suc left) (behind ∷ []) follow = refused (refusal_number sort.missing) number
ask_lines sort earlier number (suc left) (line ∷ next ∷ lines) follow =
    on_line number (sort.asks earlier line) (ask_lines sort (line ∷ earlier) (suc number) left (next ∷ lines) follow)
