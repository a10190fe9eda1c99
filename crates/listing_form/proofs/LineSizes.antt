-- How many bytes a line has, by its fields.
use mathlib.Core.Path.{◌≡◌, refl, ap, ◌∙◌}
use mathlib.Core.List.{List, [], ◌∷◌}
use Prim.Native.Nat.{ℕ, ◌+◌}
use native.Mathlib.Omega.{arith}
use lib.ListN.{length, length-append}
use Rattle.listing_form.specs.Lines.{line}
use Rattle.listing_form.proofs.LineFields.{behind, line_fields}

-- how many bytes fields have together
unfoldable pub sizes : List (List ℕ) → ℕ
sizes [] = 0
sizes (field ∷ fields) = length field + sizes fields

-- what stands behind the first field has the other fields' bytes, and one before each and one at the end
behind-size : (fields : List (List ℕ)) → length (behind fields) ≡ sizes fields + length fields + 1
unfolding behind sizes
behind-size [] = refl
behind-size (field ∷ fields) = omega (arith, length-append field (behind fields), behind-size fields)

-- a line has its fields' bytes, and one behind each
pub line-size : (field : List ℕ) (fields : List (List ℕ)) → length (line (field ∷ fields)) ≡ sizes (field ∷ fields) + length (field ∷ fields)
unfolding sizes
line-size field fields =
    ap length (line_fields field fields) ∙ length-append field (behind fields) ∙ omega (arith, behind-size fields)
