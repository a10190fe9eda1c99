-- For proofs alone: what is found of a clade on the way to the chosen states and the ranges of one character.
use Rattle.std.specs.Prelude.{[], ◌∷◌, ◌++◌, ℕ, ◌+◌}
use Rattle.clades.specs.Clades.{Clade, tip, fork}
use Rattle.clades.specs.ByNode.{ByNode}
use Rattle.clades.specs.Kinds.{Kind}
use Rattle.clades.specs.Character.{up}

module _ (K : Kind) (own : ℕ → K.Set) where
  -- the least cost within a clade, without the branch above it: the gaps between the sets of sisters, added up
  unfoldable pub least_cost : Clade → ℕ
  least_cost (tip v) = 0
  least_cost (fork v a b) = K.gap (up K own a) (up K own b) + (least_cost a + least_cost b)

  -- for each node of a clade the `outside` of its own clade, from which its range is found
  unfoldable pub outsides : K.Set → Clade → ByNode K.Set
  outsides outside (tip v) = (v, outside) ∷ []
  outsides outside (fork v a b) =
      (v, outside) ∷ (outsides (K.join (up K own b) outside) a ++ outsides (K.join (up K own a) outside) b)
