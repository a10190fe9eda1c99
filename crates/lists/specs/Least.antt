-- The choice that settles a tie. A key gives each item a number, as a difference or an advancement; of a list the first item with the
-- least key is chosen.
use Rattle.std.specs.Prelude.{List, [], ◌∷◌, cond, ℕ, leb, Option, Some, None}

-- of x and the items behind it, the first with the least key
unfoldable pub first_least : {A : Type 0} → (A → ℕ) → A → List A → A
first_least key x [] = x
first_least key x (y ∷ ys) =
    let z = first_least key y ys in
    cond (leb (key x) (key z)) x z

-- of a list, the first item with the least key, if there is one
abbrev pub least_item : {A : Type 0} → (A → ℕ) → List A → Option A
least_item key [] = None
least_item key (x ∷ xs) = Some (first_least key x xs)

-- of a list of numbers, the first with the least key, and 0 if there is none
unfoldable pub least_of : (ℕ → ℕ) → List ℕ → ℕ
least_of key [] = 0
least_of key (v ∷ vs) = first_least key v vs

-- the least key of a list, if it has an item
unfoldable pub least_key : {A : Type 0} → (A → ℕ) → List A → Option ℕ
least_key key [] = None
least_key key (x ∷ xs) = Some (key (first_least key x xs))
