-- The optional lines of the header, each known by its letter: which files may have it, when it is there, the question put to it, how many
-- lines are taken, and how it is written. Each is looked for once, at its own place: `lines` are those from that index on (document 02,
-- M-101: `V`).
use Rattle.std.specs.Prelude.{List, [], ◌∷◌, Bool, true, false, ◌&&◌, ◌||◌, not, ℕ, ◌+◌, leb, length, get_or, drop}
use Rattle.lists.specs.Tests.{same_numbers as same_text}
use Rattle.matrix_form.specs.Outcomes.{ask, Outcome, on_line}
use Rattle.matrix_form.specs.declared.refusal.Refusal.{Refusal}
use Rattle.matrix_form.specs.Outcomes.{Asked}
use Rattle.std.specs.Prelude.{Ok}
use Rattle.file_form.specs.declared.header.Kind.{Kind}
use Rattle.text_form.specs.Bytes.{tab, joined_by}
use Rattle.text_form.specs.Lines.{fields_of}

-- an optional line: its letter, the kinds of file that may have it, which fields behind the letter are right where there are m characters,
-- and the refusal of any others
pub record Optional : Type 0 where
  pub letter : ℕ
  pub allowed : Kind → Bool
  pub form : ℕ → List (List ℕ) → Bool
  pub refusal : Refusal

-- it is there: the first field of the next line is its letter; without a line feed this field runs to its tab or to the file's end
unfoldable pub optional_there : ℕ → List (List ℕ) → Bool
optional_there letter lines = same_text (get_or (fields_of (get_or lines 0 [])) 0 []) (letter ∷ [])

-- the fields behind its letter
unfoldable pub optional_fields : List (List ℕ) → List (List ℕ)
optional_fields lines = drop 1 (fields_of (get_or lines 0 []))

-- the question put to it: if it is there, is it ended by a line feed, with the right fields behind its letter?
unfoldable pub ask_optional : Bool → Bool → Refusal → List (List ℕ) → Asked
ask_optional there formed refusal lines = ask (not there || (leb 2 (length lines) && formed)) refusal (Ok tt)

-- how many lines it takes
abbrev pub lines_taken : Bool → ℕ
lines_taken true = 1
lines_taken false = 0

-- which of several are there, in a file of this kind: in their order, each behind those before it that are
abbrev pub all_there : Kind → List Optional → List (List ℕ) → List Bool
all_there kind [] lines = []
all_there kind (optional ∷ optionals) lines =
    let there = optional.allowed kind && optional_there optional.letter lines in
    there ∷ all_there kind optionals (drop (lines_taken there) lines)

-- how many lines they take
abbrev pub all_taken : List Bool → ℕ
all_taken [] = 0
all_taken (there ∷ []) = lines_taken there
all_taken (there ∷ next ∷ others) = lines_taken there + all_taken (next ∷ others)

-- the questions put to them, where there are m characters: the first one's place is this line of the file; what follows them
abbrev pub ask_optionals : {A : Type 0} → ℕ → List Optional → List Bool → ℕ → List (List ℕ) → Outcome A → Outcome A
ask_optionals m (optional ∷ optionals) (there ∷ others) line lines rest =
    on_line line (ask_optional there (optional.form m (optional_fields lines)) optional.refusal lines)
    (ask_optionals m optionals others (line + lines_taken there) (drop (lines_taken there) lines) rest)
ask_optionals m optionals others line lines rest = rest

-- the line, if there is one: its letter and its fields
unfoldable pub optional_line : Bool → ℕ → List (List ℕ) → List (List ℕ)
optional_line true letter fields = joined_by tab ((letter ∷ []) ∷ fields) ∷ []
optional_line false letter fields = []

-- without the line its letter is no name of row 1, since a row of that name would be read as the line
unfoldable pub letter_free : Bool → ℕ → List (List ℕ) → Bool
letter_free there letter names = there || not (same_text (get_or names 0 []) (letter ∷ []))
