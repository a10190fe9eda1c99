-- What the claims about the third rival and about the `+` of a branch rest on, for one character, whatever its kind: the chosen states are
-- of least length, and the ranges have just the states that occur in assignments of least length.
use mathlib.Core.Path.{◌≡◌}
use mathlib.Core.Logic.{◌⊎◌}
use mathlib.Core.Bool.{true}
use Prim.Native.Nat.{ℕ, ◌≤◌}
use lib.IntN.{ℤ}
use Rattle.clades.specs.Clades.{Clade}
use Rattle.clades.proofs.Clades.Nodes.{has}
use Rattle.clades.proofs.Clades.Cost.{Keeps, cost}

-- an assignment gives row 1 and each taxon of the clade below it a state that it may have
pub record Assigns (Own : ℕ → ℤ → Type 0) (clade : Clade) (f : ℕ → ℤ) : Type 0 where
  pub row1 : Own 1 (f 1)
  pub keeps : Keeps Own f clade

-- the length of a character under an assignment: the cost of the clade below row 1
abbrev pub length_in : (ℤ → ℤ → ℕ) → Clade → (ℕ → ℤ) → ℕ
length_in step clade f = cost step f (f 1) clade

-- v is row 1 or a node of the clade below it
abbrev pub Node : Clade → ℕ → Type 0
Node clade v = (v ≡ 1) ⊎ (has clade v ≡ true)

-- an assignment of at most this length
pub record Within (step : ℤ → ℤ → ℕ) (Own : ℕ → ℤ → Type 0) (clade : Clade) (amount : ℕ) (f : ℕ → ℤ) : Type 0 where
  pub assigns : Assigns Own clade f
  pub most : length_in step clade f ≤ amount

-- such an assignment in which node v has state s
pub record Attained (step : ℤ → ℤ → ℕ) (Own : ℕ → ℤ → Type 0) (clade : Clade) (amount v : ℕ) (s : ℤ) : Type 0 where
  pub states : ℕ → ℤ
  pub is_within : Within step Own clade amount states
  pub here : states v ≡ s

-- the fit of one character to the clade below row 1: `step a b` is what a change between states a and b costs, `Own v s` says that taxon v
-- may have state s, `chosen` gives the chosen states, and `InRange v s` says that state s is in the printed range of node v
pub record CharacterFit (step : ℤ → ℤ → ℕ) (Own : ℕ → ℤ → Type 0) (clade : Clade) (chosen : ℕ → ℤ) (InRange : ℕ → ℤ → Type 0)
    : Type 0 where
  -- the chosen states are an assignment
  pub assigns : Assigns Own clade chosen
  -- every assignment has at least their length
  pub least : (f : ℕ → ℤ) → Assigns Own clade f → length_in step clade chosen ≤ length_in step clade f
  -- in an assignment of least length every node has a state of its range
  pub sound : (f : ℕ → ℤ) → Within step Own clade (length_in step clade chosen) f → (v : ℕ) → Node clade v → InRange v (f v)
  -- every state of a node's range is attained in an assignment of least length
  pub reached : (v : ℕ) → Node clade v → (s : ℤ) → InRange v s → Attained step Own clade (length_in step clade chosen) v s
