-- What a growing tree and a branching are (document 01, "The questions put to an input", the paragraph "A branching"). A growing tree
-- of n taxa is row 1 alone, with no branches, or a tree of k of the taxa, row 1 among them, with HTUs n+1 to n+k-2. A branching is a
-- growing tree with all n taxa in it.
-- Each is a test that computes. `Facts.antt` says the same in propositions, for proofs, and the laws of this crate show that the two agree.
use Rattle.std.specs.Prelude.{List, ◌∷◌, Bool, true, false, cond, not, ◌&&◌, ◌||◌, ℕ, zero, suc, ◌+◌, ◌-◌, leb, eqb, length}
use Rattle.lists.specs.Tests.{every}
use Rattle.lists.specs.Numbers.{numbers}
use Rattle.matrix_form.specs.Shape.{last_node}
use Rattle.tree_form.specs.Ancestors.{ancestor, descendants}
use Rattle.tree_form.specs.Nodes.{has_ancestor, in_tree, nodes_in, other_nodes, htus_with, taxa_placed}

-- of how many nodes node v is the immediate ancestor
unfoldable pub descendant_count : ℕ → List ℕ → ℕ → ℕ
descendant_count n tree v = length (descendants tree (other_nodes n) v)

-- of how many it has to be: node 1 of exactly one, each HTU of exactly two, each other taxon of none
unfoldable pub descendants_wanted : ℕ → ℕ → ℕ
descendants_wanted n v = cond (eqb v 1) 1 (cond (leb v n) 0 2)

-- going up from node v reaches node 1 within so many steps
unfoldable pub climbs : List ℕ → ℕ → ℕ → Bool
climbs tree zero v = eqb v 1
climbs tree (suc steps) v = elim (eqb v 1) [ true ↦ true | false ↦ climbs tree steps (ancestor tree v) ]

-- row 1 alone: no node has an ancestor
unfoldable pub row_one_alone : List ℕ → Bool
row_one_alone tree = every (λ v. not (has_ancestor tree v)) (numbers 0 (length tree))

-- a number that has an ancestor is a node: one of 2 to n+k-2
unfoldable pub nodes_only : ℕ → ℕ → List ℕ → Bool
nodes_only n k tree =
    every (λ v. not (has_ancestor tree v) || (leb 2 v && leb v (n + k - 2))) (numbers 0 (length tree))

-- HTUs n+1 to n+k-2 are in the tree
unfoldable pub htus_in : ℕ → ℕ → List ℕ → Bool
htus_in n k tree = every (has_ancestor tree) (htus_with n k)

-- each node in the tree but node 1 has its immediate ancestor among the nodes in the tree
unfoldable pub ancestors_in : ℕ → List ℕ → Bool
ancestors_in n tree = every (λ v. in_tree tree (ancestor tree v)) (nodes_in tree (other_nodes n))

-- each node in the tree is the ancestor of as many nodes as it has to be
unfoldable pub descendants_right : ℕ → List ℕ → Bool
descendants_right n tree =
    every (λ v. eqb (descendant_count n tree v) (descendants_wanted n v)) (1 ∷ nodes_in tree (other_nodes n))

-- going up from any node in the tree reaches node 1
unfoldable pub all_climb : ℕ → List ℕ → Bool
all_climb n tree = every (climbs tree (last_node n)) (nodes_in tree (other_nodes n))

-- a tree of k taxa, at least two, with HTUs n+1 to n+k-2
unfoldable pub grown : ℕ → ℕ → List ℕ → Bool
grown n k tree =
    (leb 2 k && (nodes_only n k tree && htus_in n k tree))
    && (ancestors_in n tree && (descendants_right n tree && all_climb n tree))

-- a growing tree of n taxa: row 1 alone, or a tree of those of the taxa that it has placed
unfoldable pub growing_tree : ℕ → List ℕ → Bool
growing_tree n tree = row_one_alone tree || grown n (taxa_placed n tree) tree

-- a branching of n taxa: a growing tree in which all of them are placed
unfoldable pub branching : ℕ → List ℕ → Bool
branching n tree = growing_tree n tree && eqb (taxa_placed n tree) n
