-- Sums over lists.
use Rattle.std.specs.Prelude.{List, [], ◌∷◌, ℕ, ◌+◌}

-- the sum of a quantity over a list
unfoldable pub sum_over : {A : Type 0} → (A → ℕ) → List A → ℕ
sum_over f [] = 0
sum_over f (x ∷ xs) = f x + sum_over f xs
