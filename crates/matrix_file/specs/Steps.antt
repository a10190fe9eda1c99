-- No public contract cites this file. What a walk over pieces of a text that writes what each says is handed.
use denote.Ref.{Bor}
use Rattle.std.specs.Borrow.{MutBor}
use Rattle.std.specs.Prelude.{◌≤◌, ◌<◌, get_or, ◌≡◌, ℕ, length, List, []}
use Rattle.lists.specs.Over.{over}
use Rattle.file_form.specs.Rows.{name_in}
use Rattle.file_form.specs.Written.{padded}

-- the name of a row's line, as it is written
abbrev pub padded_in : List ℕ → List ℕ
padded_in line = padded (name_in line)

-- what writes the items of a piece may be called for each of these pieces, where its list has room for so many
abbrev pub TakesPieces : {T : Type 0} → (MutBor (List T) → Bor (List ℕ) → Type 0) → ℕ → List (List ℕ) → Type 0
TakesPieces {T} calls width pieces =
    (out : MutBor (List T)) (piece : Bor (List ℕ)) (i : ℕ) → width ≤ length out.now → i < length pieces → piece.now ≡ get_or pieces i []
    → calls out piece

-- each call writes what its piece says over the front of its list
abbrev pub WritesPiece : {T : Type 0} → (MutBor (List T) → Bor (List ℕ) → Unit {0} → MutBor (List T) → Type 0) → (List ℕ → List T) → Type 0
WritesPiece {T} calls says =
    (out : MutBor (List T)) (piece : Bor (List ℕ)) (done : Unit {0}) (after : MutBor (List T)) → calls out piece done after
    → after.now ≡ over 0 (says piece.now) out.now
