-- The tests for a growing tree and for a branching, computed on examples. Each wrong tree breaks one of the rules.
use mathlib.Core.Path.{◌≡◌, refl}
use mathlib.Core.List.{List, [], ◌∷◌}
use mathlib.Core.Bool.{Bool, true, false}
use Prim.Native.Nat.{ℕ}
use lib.ListN.{replicate}
use Rattle.lists.specs.Numbers.{numbers}
use Rattle.matrix_form.specs.Shape.{last_node}
use Rattle.lists.specs.Tests.{every, same_numbers}
use Rattle.tree_form.specs.declared.branch.Branch.{Branch}
use Rattle.tree_form.specs.Ancestors.{ancestor, descendants}
use Rattle.lists.specs.Filters.{keep}
use Rattle.tree_form.specs.Nodes.{has_ancestor, in_tree, nodes_in, other_nodes, taxa_placed}
use Rattle.tree_form.specs.Growing.{descendant_count, descendants_wanted, climbs, row_one_alone, nodes_only, htus_in, ancestors_in}
use Rattle.tree_form.specs.Growing.{descendants_right, all_climb, grown, growing_tree, branching}
use Rattle.lists.specs.Filled.{filled}
use Rattle.tree_form.specs.Branches.{branches_read, ancestors_of, named_in_order, lent_branching}

-- whether a list of ancestors is a growing tree of four taxa
growing : List ℕ → Bool
unfolding numbers last_node ancestor descendants has_ancestor in_tree keep nodes_in other_nodes taxa_placed every descendant_count
    descendants_wanted climbs row_one_alone nodes_only htus_in ancestors_in descendants_right all_climb grown growing_tree branching
    branches_read ancestors_of filled same_numbers named_in_order lent_branching
growing tree = growing_tree 4 tree

-- growing trees of four taxa: row 1 alone; a link to row 1; three taxa with one HTU; all four with two HTUs
growing_trees : growing (0 ∷ 0 ∷ 0 ∷ 0 ∷ 0 ∷ 0 ∷ 0 ∷ 0 ∷ [])
    ∷ growing (0 ∷ 0 ∷ 0 ∷ 0 ∷ 1 ∷ 0 ∷ 0 ∷ 0 ∷ [])
    ∷ growing (0 ∷ 0 ∷ 5 ∷ 0 ∷ 5 ∷ 1 ∷ 0 ∷ 0 ∷ [])
    ∷ growing (0 ∷ 0 ∷ 6 ∷ 6 ∷ 5 ∷ 1 ∷ 5 ∷ 0 ∷ [])
    ∷ []
    ≡ true ∷ true ∷ true ∷ true ∷ []
unfolding growing
growing_trees = refl

-- none: node 1 has two descendants; the HTU of three taxa is node 6 instead of node 5; a taxon has a descendant; going up from node 3 runs
-- in a ring; node 1 has an ancestor; a number beyond the nodes has one; place 0, that of no node, holds a number; a node is its own
-- ancestor; an ancestor is no node
other_trees : growing (0 ∷ 0 ∷ 1 ∷ 0 ∷ 1 ∷ 0 ∷ 0 ∷ 0 ∷ [])
    ∷ growing (0 ∷ 0 ∷ 6 ∷ 0 ∷ 6 ∷ 0 ∷ 1 ∷ 0 ∷ [])
    ∷ growing (0 ∷ 0 ∷ 1 ∷ 0 ∷ 2 ∷ 0 ∷ 0 ∷ 0 ∷ [])
    ∷ growing (0 ∷ 0 ∷ 1 ∷ 6 ∷ 5 ∷ 6 ∷ 5 ∷ 0 ∷ [])
    ∷ growing (0 ∷ 2 ∷ 1 ∷ 0 ∷ 0 ∷ 0 ∷ 0 ∷ 0 ∷ [])
    ∷ growing (0 ∷ 0 ∷ 1 ∷ 0 ∷ 0 ∷ 0 ∷ 0 ∷ 1 ∷ [])
    ∷ growing (1 ∷ 0 ∷ 1 ∷ 0 ∷ 0 ∷ 0 ∷ 0 ∷ 0 ∷ [])
    ∷ growing (0 ∷ 0 ∷ 1 ∷ 3 ∷ 0 ∷ 0 ∷ 0 ∷ 0 ∷ [])
    ∷ growing (0 ∷ 0 ∷ 1000000000000000000 ∷ 0 ∷ 1 ∷ 0 ∷ 0 ∷ 0 ∷ [])
    ∷ []
    ≡ replicate 9 false
unfolding growing
other_trees = refl

-- a branch record whose length is not read
branch : ℕ → ℕ → Branch
branch v a = record { node = v; ancestor = a; length = 0 }

-- whether branch records are a branching of three taxa
lent : List Branch → Bool
unfolding growing branch
lent records = lent_branching 3 records

-- the first three records are read, and the others not; records that do not stand by node number, and a growing tree in which one taxon is
-- not placed, are no branching
lent_three : lent (branch 2 4 ∷ branch 3 4 ∷ branch 4 1 ∷ branch 9 9 ∷ [])
    ∷ lent (branch 3 4 ∷ branch 2 4 ∷ branch 4 1 ∷ [])
    ∷ lent (branch 2 1 ∷ branch 3 0 ∷ branch 4 0 ∷ [])
    ∷ []
    ≡ true ∷ false ∷ false ∷ []
unfolding lent
lent_three = refl
