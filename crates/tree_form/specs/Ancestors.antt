-- A tree is a list of immediate ancestors by node number: entry v holds the ancestor of node v, and 0 where node v has none or is not
-- in the tree. Place 0 is that of no node, and holds 0.
use Rattle.std.specs.Prelude.{List, ◌∷◌, ℕ, eqb, get_or}
use Rattle.lists.specs.Filled.{filled}
use Rattle.lists.specs.Filters.{keep}

-- a tree struct has an entry for each of the nodes 0 to 126
abbrev pub tree_size : ℕ
tree_size = 127

-- the immediate ancestor of node v
unfoldable pub ancestor : List ℕ → ℕ → ℕ
ancestor tree v = get_or tree v 0

-- the tree in which nodes 2, 3, .. have these immediate ancestors, with an entry for each of the nodes 0 to 126
abbrev pub tree_with : List ℕ → List ℕ
tree_with above = filled tree_size 0 (0 ∷ (0 ∷ above))

-- of a list of nodes, those whose immediate ancestor is v
unfoldable pub descendants : List ℕ → List ℕ → ℕ → List ℕ
descendants tree nodes v = keep (λ u. eqb (ancestor tree u) v) nodes
