-- A branching as a clade, from row 1 down. A clade is a node and all nodes below it.
use Rattle.std.specs.Prelude.{ℕ, zero, suc, ◌*◌, List, [], ◌∷◌, map}
use Rattle.tree_form.specs.Ancestors.{descendants}
use Rattle.tree_form.specs.Nodes.{other_nodes}
use Rattle.clades.specs.Clades.{Clade, tip, fork}

-- node v above its descendants' clades
unfoldable pub above : ℕ → List Clade → Clade
above v [] = tip v
above v (a ∷ []) = tip v
above v (a ∷ b ∷ rest) = fork v a b

-- the clade of node v, `depth` steps down
unfoldable pub clade_at : List ℕ → List ℕ → ℕ → ℕ → Clade
clade_at tree nodes zero v = tip v
clade_at tree nodes (suc depth) v = above v (map (λ u. clade_at tree nodes depth u) (descendants tree nodes v))

-- the clades that hang from row 1: one, and none for n = 1
unfoldable pub clades_below : List ℕ → ℕ → List Clade
clades_below tree n =
    map (λ v. clade_at tree (other_nodes n) (2 * n) v) (descendants tree (other_nodes n) 1)
