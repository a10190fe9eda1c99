-- For the proofs of the private functions alone; no public contract cites this file.
-- The test for a growing tree, entry by entry.
use Rattle.std.specs.Prelude.{List, Bool, cond, ◌&&◌, ◌||◌, ℕ, ◌+◌, ◌-◌, leb, ltb, eqb}
use Rattle.matrix_form.specs.Shape.{last_node}
use Rattle.tree_form.specs.Ancestors.{ancestor}
use Rattle.tree_form.specs.Nodes.{has_ancestor, in_tree}
use Rattle.tree_form.specs.Growing.{descendant_count, descendants_wanted, climbs}

-- node v, which has an ancestor: its ancestor is in the tree, it has as many descendants as it has to have, and going up reaches node 1
unfoldable pub node_right : ℕ → List ℕ → ℕ → Bool
node_right n tree v =
    in_tree tree (ancestor tree v) && (eqb (descendant_count n tree v) (descendants_wanted n v) && climbs tree (last_node n) v)

-- entry v of a tree of k taxa: a node from 2 to n+k-2 that is right, or no ancestor, and then v is not one of the HTUs n+1 to n+k-2
unfoldable pub entry_right : ℕ → ℕ → List ℕ → ℕ → Bool
entry_right n k tree v =
    cond (has_ancestor tree v)
    ((leb 2 v && leb v (n + k - 2)) && node_right n tree v)
    (leb v n || ltb (n + k - 2) v)
