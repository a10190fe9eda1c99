-- The length of a tree, and branch records: the form in which a branching is lent and a finished tree handed back.
use Rattle.std.specs.Prelude.{List, map, Bool, ◌&&◌, ℕ, ◌*◌, ◌-◌, take}
use Rattle.lists.specs.Over.{over}
use Rattle.lists.specs.Sums.{sum_over}
use Rattle.lists.specs.Tests.{same_numbers}
use Rattle.tree_form.specs.declared.branch.Branch.{Branch}
use Rattle.tree_form.specs.Ancestors.{ancestor, tree_with}
use Rattle.tree_form.specs.Nodes.{nodes_in, other_nodes}
use Rattle.tree_form.specs.Growing.{branching}

-- the length of a tree: the sum, over its nodes but node 1, of the difference d of node and immediate ancestor
unfoldable pub tree_length : (ℕ → ℕ → ℕ) → ℕ → List ℕ → ℕ
tree_length d n tree = sum_over (λ v. d v (ancestor tree v)) (nodes_in tree (other_nodes n))

-- the branch of node v, with its length under the difference d
unfoldable pub branch_of : (ℕ → ℕ → ℕ) → List ℕ → ℕ → Branch
branch_of d tree v = record { node = v; ancestor = ancestor tree v; length = d v (ancestor tree v) }

-- the branches of a branching of n taxa, by node number from 2
unfoldable pub branch_records : (ℕ → ℕ → ℕ) → ℕ → List ℕ → List Branch
branch_records d n tree = map (branch_of d tree) (other_nodes n)

-- a list of branches with those of a branching written over the first 2n-3, as far as the list goes; what stands behind them is as before
unfoldable pub with_records : (ℕ → ℕ → ℕ) → ℕ → List ℕ → List Branch → List Branch
with_records d n tree records = over 0 (branch_records d n tree) records

-- of a list of branches, the first 2n-3, which alone are read
unfoldable pub branches_read : ℕ → List Branch → List Branch
branches_read n records = take (2 * n - 3) records

-- the tree that the first 2n-3 branches give, if they name nodes 2 to 2n-2 in order
unfoldable pub ancestors_of : ℕ → List Branch → List ℕ
ancestors_of n records = tree_with (map (λ (branch : Branch). branch.ancestor) (branches_read n records))

-- the first 2n-3 branches name nodes 2 to 2n-2 in order
unfoldable pub named_in_order : ℕ → List Branch → Bool
named_in_order n records = same_numbers (map (λ (branch : Branch). branch.node) (branches_read n records)) (other_nodes n)

-- the lent branches are a branching of n taxa (else refusal 14)
unfoldable pub lent_branching : ℕ → List Branch → Bool
lent_branching n records = named_in_order n records && branching n (ancestors_of n records)
