-- The matrix of document 01's example, for what is computed of it here and in the crates above.
use mathlib.Core.List.{List, [], ◌∷◌}
use lib.IntN.{ℤ, pos, negsuc}

-- the rows of A, B, C and D
abbrev pub rows_abcd : List (List ℤ)
rows_abcd =
    (pos 0 ∷ pos 0 ∷ pos 0 ∷ [])
    ∷ (pos 2 ∷ pos 1 ∷ pos 0 ∷ [])
    ∷ (pos 2 ∷ pos 3 ∷ pos 1 ∷ [])
    ∷ (negsuc 0 ∷ pos 1 ∷ pos 2 ∷ [])
    ∷ []
