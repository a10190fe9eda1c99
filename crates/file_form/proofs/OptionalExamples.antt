-- Optional lines, computed: two of them, the `V` line and one with the letter `U` that only a file with a branching may have. Each is looked
-- for once, at its own place, and refused with the number of its line.
use mathlib.Core.Path.{◌≡◌, refl}
use mathlib.Core.Bool.{Bool, true, false}
use mathlib.Core.List.{List, [], ◌∷◌, map}
use Prim.Native.Nat.{ℕ}
use Prim.Native.String.{String}
use lib.Dec.{eqb}
use lib.ListN.{length}
use Rattle.lists.specs.Tests.{every, same_numbers as same_text}
use Rattle.matrix_form.specs.Outcomes.{Outcome, value, refused}
use Rattle.matrix_form.specs.declared.refusal.Refusal.TheVariants.{BranchForm}
use Rattle.file_form.specs.declared.header.Kind.{Kind}
use Rattle.file_form.specs.declared.header.Kind.TheVariants.{Wagner, Own}
use Rattle.text_form.specs.Bytes.{pieces_at, is_digit}
use Rattle.file_form.specs.Kinds.{kind_form}
use Rattle.text_form.specs.Lines.{fields_of}
use Rattle.file_form.specs.Optional.{Optional, optional_there, optional_fields, ask_optional, all_there, all_taken, ask_optionals}
use Rattle.file_form.specs.Weights.{weight_form, weights_form, weight_optional}
use Rattle.text_form.specs.Text.{bytes}

-- another optional line: m fields behind the letter `U`, in a file with a branching
other : Optional
other = record { letter = 85; allowed = λ kind. (kind_form kind).branched; form = λ m fields. eqb (length fields) m; refusal = BranchForm }

-- which of the two are there in lines of these texts
found : Kind → List String → List Bool
unfolding other same_text pieces_at fields_of optional_there bytes
found kind lines = all_there kind (weight_optional ∷ other ∷ []) (map bytes lines)

-- both; the second alone; the second in front of the first is found alone; the second where the kind may not have it; none
places : (found Own ("V\t1" ∷ "U\to" ∷ "A\t0" ∷ []) ≡ true ∷ true ∷ [])
    × (found Own ("U\to" ∷ "A\t0" ∷ []) ≡ false ∷ true ∷ [])
    × (found Own ("U\to" ∷ "V\t1" ∷ []) ≡ false ∷ true ∷ [])
    × (found Wagner ("V\t1" ∷ "U\to" ∷ []) ≡ true ∷ false ∷ [])
    × (found Own ("A\t0" ∷ []) ≡ false ∷ false ∷ [])
unfolding found
places = (refl, refl, refl, refl, refl)

-- they take so many lines
taken : map all_taken ((true ∷ true ∷ []) ∷ (false ∷ true ∷ []) ∷ (false ∷ false ∷ []) ∷ []) ≡ 2 ∷ 1 ∷ 0 ∷ []
taken = refl

-- the questions put to them in an `F` file of one character, from line 2 on
asked : List String → Outcome ℕ
unfolding other same_text pieces_at fields_of optional_fields ask_optional weight_form weights_form every bytes is_digit found optional_there
asked lines = ask_optionals 1 (weight_optional ∷ other ∷ []) (found Own lines) 2 (map bytes lines) (value 0)

-- both right; the first wrong; the second wrong, behind the first and without it; the second without a line feed
answers : map asked
    (("V\t1" ∷ "U\to" ∷ "A\t0" ∷ []) ∷ ("V\t0" ∷ "U" ∷ "A\t0" ∷ []) ∷ ("V\t1" ∷ "U" ∷ "A\t0" ∷ []) ∷ ("U" ∷ "A\t0" ∷ []) ∷ ("U\to" ∷ []) ∷ [])
    ≡ value 0 ∷ refused 16 2 ∷ refused 17 3 ∷ refused 17 2 ∷ refused 17 2 ∷ []
unfolding asked
answers = refl
