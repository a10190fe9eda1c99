-- Tests of lists: every element passes a test; a number is one of a list; two lists are the same.
use Rattle.std.specs.Prelude.{List, [], ◌∷◌, Bool, true, false, ◌&&◌, ◌||◌, ℕ, eqb}
use Rattle.std.specs.List.{list_all}

-- every element of a list passes a test
unfoldable pub every : {A : Type 0} → (A → Bool) → List A → Bool
every test list = list_all test list

-- a number is one of a list
unfoldable pub among : ℕ → List ℕ → Bool
among v [] = false
among v (x ∷ xs) = eqb v x || among v xs

-- two lists hold the same numbers in the same order
unfoldable pub same_numbers : List ℕ → List ℕ → Bool
same_numbers [] [] = true
same_numbers [] (y ∷ ys) = false
same_numbers (x ∷ xs) [] = false
same_numbers (x ∷ xs) (y ∷ ys) = eqb x y && same_numbers xs ys
