-- The fields of a `V` line: whether each says a weight, and whether there are m of them.
use mathlib.Core.Path.{◌≡◌, refl, ap₂}
use mathlib.Core.List.{List, [], ◌∷◌}
use mathlib.Core.Bool.{Bool, true, false, ◌&&◌, cond}
use Prim.Native.Nat.{ℕ, ◌+◌, ◌≤◌, ◌<◌}
use native.Mathlib.Omega.{arith}
use borrow.Author.Tests.{eq-eqb, ne_eqb}
use lib.Dec.{leb}
use lib.ListN.{length, get_or, drop, length-drop}
use Rattle.lists.specs.Tests.{every}
use Rattle.text_form.specs.Bytes.{tab, pieces_at}
use Rattle.text_form.specs.Lines.{fields_of}
use Rattle.file_form.specs.Weights.{weight_form, weight_in, weights_form}
use Rattle.file_form.proofs.File.FirstForm.{fields_count}
use Rattle.std.specs.Prelude.{None, Some, is_some}
use Rattle.std.specs.List.{list_all}
use Rattle.file_text.specs.Steps.{read_as}

-- a field of another length than 1 is no weight
pub not-one : (field : List ℕ) → (length field ≡ 1 → ⊥) → false ≡ weight_form field
unfolding weight_form
not-one [] h = refl
not-one (digit ∷ []) h = absurd (h refl)
not-one (digit ∷ next ∷ digits) h = refl

-- a field of one byte is one if that is from `1` to `9`
pub one_byte : (field : List ℕ) → 1 ≤ length field → length field < 2 → leb 49 (get_or field 0 0) && leb (get_or field 0 0) 57 ≡ weight_form field
unfolding weight_form
one_byte [] some few = absurd (omega arith)
one_byte (digit ∷ []) some few = refl
one_byte (digit ∷ next ∷ digits) some few = absurd (omega arith)

-- a line with so many tabs
module _ (line : List ℕ) (count m : ℕ) (e : count + 1 ≡ length (pieces_at tab line)) where
  -- behind its first field it has as many
  pub fields_behind : length (drop 1 (fields_of line)) ≡ count
  fields_behind = omega (arith, length-drop 1 (fields_of line), fields_count line count e)

  -- another number than m
  pub other-count : (count ≡ m → ⊥) → false ≡ weights_form m (drop 1 (fields_of line))
  unfolding weights_form
  other-count h = rw (fields_behind, ne_eqb count m h)

  -- just m: the fields decide
  pub fields_decide : count ≡ m → every weight_form (drop 1 (fields_of line)) ≡ weights_form m (drop 1 (fields_of line))
  unfolding weights_form
  fields_decide h = rw (fields_behind, eq-eqb count m h)

-- a field says a weight exactly if it has the form of one
some_read : (field : List ℕ) → is_some (read_as weight_form weight_in field) ≡ weight_form field
some_read field = by (weight_form field)
  where
    by : (b : Bool) → is_some (cond b (Some (weight_in field)) None) ≡ b
    by true = refl
    by false = refl

-- so all fields say weights exactly if each has the form
pub all_read : (fields : List (List ℕ)) → list_all (λ field. is_some (read_as weight_form weight_in field)) fields ≡ every weight_form fields
unfolding every
all_read [] = refl
all_read (field ∷ fields) = ap₂ ◌&&◌ (some_read field) (all_read fields)
