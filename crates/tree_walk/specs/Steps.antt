-- For the proofs of the private functions alone; no public contract cites this file.
-- How the descendants of a node are found, and how the walk over a branching grows by one node.
use Rattle.std.specs.Prelude.{◌≡◌, List, cond, ℕ, ◌+◌, ◌≤◌, ◌<◌, eqb, length, set}
use Rattle.tree_walk.specs.declared.walk.Below.{Below}
use Rattle.tree_walk.specs.Walks.{node_at, below_at}

-- one descendant more, as far as there are two
unfoldable pub with_descendant : Below → ℕ → Below
with_descendant below u =
    cond (eqb below.first 0)
    (record { first = u; second = below.second })
    (cond (eqb below.second 0) (record { first = below.first; second = u }) below)

-- each descendant kept is an index of a tree
abbrev pub WithinBelow : List Below → Type 0
WithinBelow below = (v : ℕ) → ((below_at below v).first ≤ 126) × ((below_at below v).second ≤ 126)

-- a walk of `count` nodes with node v put behind them, which then has r nodes: none more if v is 0 or `last` nodes stand already
pub record NodePut (last count : ℕ) (nodes : List ℕ) (v r : ℕ) (after : List ℕ) : Type 0 where
  pub most : count ≤ last → r ≤ last
  pub least : count ≤ r
  pub none : v ≡ 0 → (r ≡ count) × (after ≡ nodes)
  pub some : 1 ≤ v → count < last → (r ≡ count + 1) × (after ≡ set nodes count v)
  pub size : length after ≡ length nodes
  pub kept : (k : ℕ) → k < count → node_at after k ≡ node_at nodes k
  pub within : v ≤ 126 → ((k : ℕ) → node_at nodes k ≤ 126) → (k : ℕ) → node_at after k ≤ 126
