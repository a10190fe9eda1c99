-- Pairs of an item of one list and an item of another.
use mathlib.Core.List.{List, map, flat_map}

-- each item of the first list with each of the second: by the first list's order, then by the second's
unfoldable pub pairs : {A B : Type 0} → List A → List B → List (A × B)
pairs xs ys = flat_map (λ x. map (λ y. (x, y)) ys) xs
