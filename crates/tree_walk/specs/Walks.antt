-- The walk over a branching: its nodes in an order in which each stands behind its immediate ancestor, so that a pass over the walk goes
-- from node 1 down, and backwards from the tips up. And the first two descendants of each node.
use Rattle.std.specs.Prelude.{◌≡◌, List, [], ◌∷◌, true, ℕ, ◌≤◌, ◌<◌, min, get_or}
use Rattle.filled.specs.declared.Filled.{Filled}
use Rattle.matrix_form.specs.Shape.{last_node}
use Rattle.tree_walk.specs.declared.walk.Below.{Below}
use Rattle.tree_walk.specs.declared.walk.Descent.{Descent}
use Rattle.tree_form.specs.Ancestors.{tree_size, ancestor, descendants}
use Rattle.tree_form.specs.Nodes.{other_nodes}
use Rattle.tree_form.specs.Within.{branching_within}

-- the node at index i of a list of nodes, and 0 beyond its end
unfoldable pub node_at : List ℕ → ℕ → ℕ
node_at nodes i = get_or nodes i 0

-- a list of nodes is a walk of `count` nodes down a tree with nodes 1 to `last`, branching or not: node 1 stands first; each stands at one place
-- only; the immediate ancestor of each but the first stands before it; zeros stand behind
pub record WalkDown (last count : ℕ) (tree nodes : List ℕ) : Type 0 where
  pub first : node_at nodes 0 ≡ 1
  pub within : (i : ℕ) → i < count → (1 ≤ node_at nodes i) × (node_at nodes i ≤ last)
  pub once : (i j : ℕ) → i < count → j < count → node_at nodes i ≡ node_at nodes j → i ≡ j
  pub behind : (i : ℕ) → 1 ≤ i → i < count → (j : ℕ) × (j < i) × (node_at nodes j ≡ ancestor tree (node_at nodes i))
  pub rest : (i : ℕ) → count ≤ i → node_at nodes i ≡ 0

-- the last node of n taxa that has an entry in a tree
abbrev pub last_entry : ℕ → ℕ
last_entry n = min (last_node n) 126

-- a walk as it is handed back
abbrev pub Walk : Type 0
Walk = Filled ℕ tree_size

-- what is handed back of every tree: a walk of as many nodes as it says; of a branching every node stands in it
pub record Walking (n : ℕ) (tree : List ℕ) (walk : Walk) : Type 0 where
  pub most : walk.count ≤ last_entry n
  pub down : WalkDown (last_entry n) walk.count tree walk.items
  pub count : branching_within n tree ≡ true → walk.count ≡ last_node n
  pub each : branching_within n tree ≡ true → (v : ℕ) → 1 ≤ v → v ≤ last_node n
      → (i : ℕ) × (i < last_node n) × (node_at walk.items i ≡ v)

-- the first two of a list of descendants; 0 for none
unfoldable pub first_two : List ℕ → Below
first_two [] = record { first = 0; second = 0 }
first_two (a ∷ []) = record { first = a; second = 0 }
first_two (a ∷ b ∷ rest) = record { first = a; second = b }

-- the descendants kept of node v
abbrev pub below_at : List Below → ℕ → Below
below_at below v = get_or below v (record { first = 0; second = 0 })

-- the descendants kept of each node of a tree of n taxa are its first two, and each is an index of a tree
pub record Belows (n : ℕ) (tree : List ℕ) (below : List Below) : Type 0 where
  pub are : (v : ℕ) → 1 ≤ v → v ≤ 126 → below_at below v ≡ first_two (descendants tree (other_nodes n) v)
  pub within : (v : ℕ) → ((below_at below v).first ≤ 126) × ((below_at below v).second ≤ 126)

-- the walk over a tree of n taxa, and the descendants of each of its nodes
pub record Descending (n : ℕ) (tree : List ℕ) (descent : Descent) : Type 0 where
  pub walking : Walking n tree descent.walk
  pub belows : Belows n tree descent.below
