-- The order in which taxa are placed (document 01, "The Wagner tree"), as a statement about a finished list of them.
use Rattle.std.specs.Prelude.{◌≡◌, ℕ, ◌≤◌}
use mathlib.Core.List.{List, [], ◌∷◌, Memᴰ}
use Rattle.lists.specs.Filters.{without}
use Rattle.lists.specs.Least.{least_of}

module _ (key : ℕ → ℕ) where
  -- from taxa not yet placed, by rising row, to a list of them in the order of placing: each placed next is the first of least key of those
  -- that are left, until none is left
  pub data InOrder : List ℕ → List ℕ → Type 0 where
    all_placed : InOrder [] []
    placed_next : {us vs : List ℕ} (v : ℕ) → Memᴰ v us → v ≡ least_of key us → InOrder (without (v ∷ []) us) vs → InOrder us (v ∷ vs)

  -- the keys rise along a list
  pub data Rising : List ℕ → Type 0 where
    none : Rising []
    one : (v : ℕ) → Rising (v ∷ [])
    more : {vs : List ℕ} (u v : ℕ) → key u ≤ key v → Rising (v ∷ vs) → Rising (u ∷ v ∷ vs)
