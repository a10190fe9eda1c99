-- The last node of at most 64 taxa, as a call tells it.
use Rattle.std.proofs.Common.{◌≡◌, ℕ, ◌-◌, ◌*◌, ◌^◌, ◌≤◌, min, max, arith}
use Rattle.matrix_form.specs.Shape.{last_node}

-- it is the last node
pub last_told : (n last : ℕ) → n ≤ 64 → last ≡ min (last_node n) (2 ^ 64 - 1) → last ≡ last_node n
unfolding last_node
last_told n last few e = omega arith

-- and by its number
pub last_number : (n last : ℕ) → n ≤ 64 → last ≡ min (last_node n) (2 ^ 64 - 1) → last ≡ max 1 (2 * n - 2)
unfolding last_node
last_number n last few e = omega arith
