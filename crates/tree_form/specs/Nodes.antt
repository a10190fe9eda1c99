-- The nodes of a tree. Taxa are nodes 1 to n by row; HTUs are nodes n+1, n+2, .. as they are made; the last is 2n-2.
use Rattle.std.specs.Prelude.{◌≡◌, List, Bool, not, ◌||◌, ℕ, ◌+◌, ◌*◌, ◌-◌, ◌≤◌, leb, eqb, length}
use Rattle.lists.specs.Numbers.{numbers}
use Rattle.lists.specs.Filters.{keep}
use Rattle.tree_form.specs.Ancestors.{ancestor}

-- node v has an immediate ancestor
unfoldable pub has_ancestor : List ℕ → ℕ → Bool
has_ancestor tree v = leb 1 (ancestor tree v)

-- node v is in the tree: it is node 1, or it has an immediate ancestor
unfoldable pub in_tree : List ℕ → ℕ → Bool
in_tree tree v = eqb v 1 || has_ancestor tree v

-- of a list of nodes, those in the tree
unfoldable pub nodes_in : List ℕ → List ℕ → List ℕ
nodes_in tree nodes = keep (in_tree tree) nodes

-- of a list of nodes, those not in the tree
unfoldable pub nodes_out : List ℕ → List ℕ → List ℕ
nodes_out tree nodes = keep (λ v. not (in_tree tree v)) nodes

-- all nodes that a tree of n taxa can have, but node 1: nodes 2 to 2n-2
unfoldable pub other_nodes : ℕ → List ℕ
other_nodes n = numbers 2 (2 * n - 3)

-- the HTUs of a tree of n taxa with k of them placed: n+1 to n+k-2
abbrev pub htus_with : ℕ → ℕ → List ℕ
htus_with n k = numbers (n + 1) (k - 2)

-- the HTUs of a branching of n taxa: n+1 to 2n-2
abbrev pub htus : ℕ → List ℕ
htus n = htus_with n n

-- how many of the taxa 1 to n are in the tree
unfoldable pub taxa_placed : ℕ → List ℕ → ℕ
taxa_placed n tree = length (nodes_in tree (numbers 1 n))

-- the last node that has a row: the n taxa, and behind them the HTUs of a growing tree with k of them placed, the last of which is n+k-2
unfoldable pub last_row : ℕ → List ℕ → ℕ
last_row n tree = n + (taxa_placed n tree - 2)

-- b is a taxon that is not yet placed: not row 1, and without an immediate ancestor
pub record Unplaced (n : ℕ) (tree : List ℕ) (b : ℕ) : Type 0 where
  pub other : 2 ≤ b
  pub taxon : b ≤ n
  pub free : ancestor tree b ≡ 0
