-- What `C` lines of the right form say: each the numbers of its node.
use mathlib.Core.Path.{◌≡◌, ap, ◌∙◌}
use mathlib.Core.List.{List, []}
use Prim.Native.Nat.{ℕ, ◌+◌, ◌<◌}
use native.Mathlib.Omega.{arith}
use lib.ListN.{length, get_or, take, length-take}
use lib.Seq.{get_or-take}
use Rattle.text_form.specs.Lines.{lines_of, fields_of}
use Rattle.file_form.specs.Branches.{branch_form}
use Rattle.file_form.specs.Formed.{BranchesFormed}
use Rattle.file_form.proofs.BranchLines.Form.{BranchFormed, form_tells}

-- one of `C` lines of the right form is that of its node
pub line_told : (text : List ℕ) (count : ℕ) → BranchesFormed count text → (line : List ℕ) (i : ℕ) → i < length (take count (lines_of text))
    → line ≡ get_or (take count (lines_of text)) i [] → BranchFormed (i + 2) (fields_of line)
line_told text count formed line i h l =
    let below : i < count = omega (arith, h, length-take count (lines_of text)) in
    form_tells (i + 2) (fields_of line)
    (ap (λ found. branch_form (i + 2) (fields_of found)) (l ∙ get_or-take count (lines_of text) i [] below) ∙ formed.formed i below)
