-- What a text says that is read as something, and its first line.
use mathlib.Core.List.{List, [], ◌∷◌}
use denote.Ref.{Bor}
use Rattle.std.specs.Prelude.{◌≡◌, Bool, cond, ℕ, Option, None, Some, ◌≤◌, ◌<◌, length, drop}
use Rattle.text_form.specs.Decimal.{number_of}
use Rattle.text_form.specs.Lines.{lines_of}

-- what a text, or the fields of a line, are read as, if they have the form
abbrev pub read_as : {A B : Type 0} → (A → Bool) → (A → B) → A → Option B
read_as form says a = cond (form a) (Some (says a)) None

-- the first line of a text and what stands behind its line feed; without one the text is its only piece
abbrev pub FirstLine : List ℕ → Option (Bor (List ℕ) × Bor (List ℕ)) → Type 0
FirstLine text None = lines_of text ≡ text ∷ []
FirstLine text (Some pieces) = lines_of text ≡ pieces.0.now ∷ lines_of pieces.1.now

-- what stands behind so many lines of a text, if it has them; behind more lines than it has stands nothing
pub record BehindLines (text : List ℕ) (count : ℕ) (rest : List ℕ) : Type 0 where
  pub lines : count < length (lines_of text) → lines_of rest ≡ drop count (lines_of text)
  pub none : length (lines_of text) ≤ count → rest ≡ []

-- a million
abbrev pub a_million : ℕ
a_million = 1000000

-- r is the number that digits say, and below a million
pub record NumberSaid (digits : List ℕ) (r : ℕ) : Type 0 where
  pub is : r ≡ number_of digits
  pub small : r < a_million
