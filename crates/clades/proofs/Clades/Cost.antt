-- The cost of a clade under an assignment of states to its nodes, for one character.
-- `step a b` is what a change between states a and b costs; `Own v s` says that taxon v may have state s.
use mathlib.Core.Path.{◌≡◌, refl}
use Prim.Native.Nat.{ℕ, ◌+◌}
use native.Mathlib.Omega.{arith}
use lib.IntN.{ℤ}
use Rattle.clades.specs.Clades.{Clade, tip, fork}
use Rattle.clades.proofs.Clades.Sides.{left, right}
use Rattle.clades.proofs.Clades.Nodes.{top}
use Rattle.clades.proofs.Clades.Parts.{Part, whole, below}

-- something holds of each tip of a clade
abbrev pub EachTip : (ℕ → Type 0) → Clade → Type 0
EachTip P (tip v) = P v
EachTip P (fork v a b) = EachTip P a × EachTip P b

-- what holds of each tip of a clade holds of each tip of a part
pub each_part : (P : ℕ → Type 0) (s t : Clade) → Part s t → EachTip P t → EachTip P s
each_part P s t whole h = h
each_part P s t (below left v a b p) h = each_part P s a p h.0
each_part P s t (below right v a b p) h = each_part P s b p h.1

-- an assignment gives each taxon of a clade a state that it may have
abbrev pub Keeps : (ℕ → ℤ → Type 0) → (ℕ → ℤ) → Clade → Type 0
Keeps Own f t = EachTip (λ v. Own v (f v)) t

module _ (step : ℤ → ℤ → ℕ) where
  -- the cost of a clade under an assignment f, with the branch to a node of state y above it
  unfoldable pub cost : (ℕ → ℤ) → ℤ → Clade → ℕ
  cost f y (tip v) = step (f v) y
  cost f y (fork v a b) = step (f v) y + (cost f (f v) a + cost f (f v) b)

  -- the cost of a clade under an assignment, without the branch above it
  unfoldable pub within : (ℕ → ℤ) → Clade → ℕ
  within f (tip v) = 0
  within f (fork v a b) = cost f (f v) a + cost f (f v) b

  -- the cost is that of the branch above the clade, and the cost without it
  pub cost_top : (f : ℕ → ℤ) (y : ℤ) (t : Clade) → cost f y t ≡ step (f (top t)) y + within f t
  unfolding cost top within
  cost_top f y (tip v) = omega arith
  cost_top f y (fork v a b) = refl
