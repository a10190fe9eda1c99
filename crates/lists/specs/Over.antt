-- Writing into a list: another list over it from an index on, and items at a fixed width, as the rows of a matrix and the names of its
-- taxa stand. All else stays, and the list keeps its length.
use Rattle.std.specs.Prelude.{List, [], ◌∷◌, ℕ, zero, suc, ◌+◌}

-- a list with others written over it from an index on, as far as it goes
unfoldable pub over : {A : Type 0} → ℕ → List A → List A → List A
over zero [] old = old
over zero (x ∷ xs) [] = []
over zero (x ∷ xs) (o ∷ old) = x ∷ over zero xs old
over (suc index) xs [] = []
over (suc index) xs (o ∷ old) = o ∷ over index xs old

-- a list with items written over it, the first at an index and each `width` behind the one before
unfoldable pub stripes : {A : Type 0} → ℕ → ℕ → List (List A) → List A → List A
stripes width index [] old = old
stripes width index (item ∷ items) old = stripes width (index + width) items (over index item old)
