-- the index that a number is in a tree, as `tree_index` answers it.
use Rattle.std.specs.Prelude.{◌≡◌, ℕ, ◌≤◌, ◌<◌}

-- r is v if v is an index of a tree, else 0
pub record TreeIndex (v r : ℕ) : Type 0 where
  pub most : r ≤ 126
  pub is : v ≤ 126 → r ≡ v
  pub beyond : 126 < v → r ≡ 0
