-- For proofs, and cited by no contract: what the tests of `Growing.antt` say, as propositions.
use Rattle.std.specs.Prelude.{◌≡◌, ◌⊎◌, List, ℕ, ◌+◌, ◌-◌, ◌≤◌, ◌<◌}
use Rattle.tree_form.specs.Ancestors.{ancestor}
use Rattle.tree_form.specs.Nodes.{taxa_placed}
use Rattle.tree_form.specs.Growing.{descendant_count, descendants_wanted}

-- node v is in the tree: it is node 1, or it has an immediate ancestor
abbrev pub InTree : List ℕ → ℕ → Type 0
InTree tree v = (v ≡ 1) ⊎ (1 ≤ ancestor tree v)

-- going up from node v reaches node 1
pub data ReachesRoot (tree : List ℕ) : ℕ → Type 0 where
  root : ReachesRoot tree 1
  up : (v : ℕ) → ReachesRoot tree (ancestor tree v) → ReachesRoot tree v

-- a tree of k taxa, at least two, with HTUs n+1 to n+k-2
pub record Grown (n k : ℕ) (tree : List ℕ) : Type 0 where
  pub placed : taxa_placed n tree ≡ k
  pub at_least_two : 2 ≤ k
  pub nodes_only : (v : ℕ) → 1 ≤ ancestor tree v → (2 ≤ v) × (v ≤ n + k - 2)
  pub htus_in : (v : ℕ) → n < v → v ≤ n + k - 2 → 1 ≤ ancestor tree v
  pub ancestors_in : (v : ℕ) → 1 ≤ ancestor tree v → InTree tree (ancestor tree v)
  pub descendants_right : (v : ℕ) → InTree tree v → descendant_count n tree v ≡ descendants_wanted n v
  pub rooted : (v : ℕ) → InTree tree v → ReachesRoot tree v

-- a growing tree of n taxa with k of them placed: row 1 alone, or a tree of k taxa
pub data GrowingTree (n : ℕ) (tree : List ℕ) : ℕ → Type 0 where
  alone : ((v : ℕ) → ancestor tree v ≡ 0) → GrowingTree n tree 1
  several : {k : ℕ} → Grown n k tree → GrowingTree n tree k

-- a branching of n taxa: a growing tree in which all of them are placed
abbrev pub Branching : ℕ → List ℕ → Type 0
Branching n tree = GrowingTree n tree n
