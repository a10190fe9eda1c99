-- The questions of the calls for a fit and for one node, computed: each refusal, and of two questions that would both refuse the earlier
-- one answers. The matrix has one character; the code of row v stands at (v-1)*128.
use Rattle.std.proofs.Common.{Ok, Err, ◌≡◌, ℕ, ◌-◌, ◌*◌, List, [], ◌∷◌, set, replicate, ℤ, pos, refl}
use Rattle.lists.specs.Numbers.{numbers}
use Rattle.lists.specs.Tests.{every, same_numbers}
use Rattle.lists.specs.Filters.{keep}
use Rattle.matrix_form.specs.Shape.{row, in_range, is_weight, last_node, matrix_of}
use Rattle.matrix_form.specs.Questions.{one_to, within_limits, ask_code, ask_row_of, ask_rows_of, are_weights, ask_matrix}
use Rattle.matrix_form.specs.declared.refusal.Refusal.TheVariants.{BeyondLimits, CodeRange, ListSize, NotThere, NotBranching, WeightForm}
use Rattle.matrix_form.specs.Outcomes.{Asked, ask_each}
use Rattle.tree_form.specs.declared.branch.Branch.{Branch}
use Rattle.tree_form.specs.Ancestors.{ancestor, descendants}
use Rattle.tree_form.specs.Nodes.{has_ancestor, in_tree, nodes_in, other_nodes, taxa_placed}
use Rattle.tree_form.specs.Growing.{descendant_count, descendants_wanted, climbs, row_one_alone, nodes_only, htus_in, ancestors_in}
use Rattle.tree_form.specs.Growing.{descendants_right, all_climb, grown, growing_tree, branching}
use Rattle.lists.specs.Filled.{filled}
use Rattle.tree_form.specs.Branches.{branches_read, ancestors_of, named_in_order, lent_branching}
use Rattle.tree_form.specs.Asking.{ask_branching}
use Rattle.fit_form.specs.Calls.{lists_full, ask_fit}
use Rattle.fit_form.specs.Handing.{ask_node}

-- a list of so many codes 0
codes : ℕ → List ℤ
codes count = replicate count (pos 0)

-- a matrix of full size in which row v has the code 1000
wrong_row : ℕ → List ℤ
unfolding codes
wrong_row v = set (codes 16128) ((v - 1) * 128) (pos 1000)

-- lent weights of which the first is given and the others are 1
weights : ℕ → List ℕ
weights first = first ∷ replicate 127 1

-- a branch record
branch : ℕ → ℕ → Branch
branch v a = record { node = v; ancestor = a; length = 7 }

-- a branching of three taxa, with as many records as wanted beyond its three
three : ℕ → List Branch
unfolding branch
three more = branch 2 4 ∷ branch 3 4 ∷ branch 4 1 ∷ replicate more (branch 9 9)

-- 125 records that are no branching of two taxa or more
none : List Branch
unfolding branch
none = replicate 125 (branch 0 0)

-- the questions of a fit of n taxa, with lists of these sizes
fit_by : List ℕ → List ℤ → ℕ → List Branch → ℕ → ℕ → ℕ → Asked
unfolding numbers every same_numbers keep row in_range last_node one_to within_limits ask_each ask_code ask_row_of ask_rows_of ask_matrix
    ancestor descendants
    has_ancestor in_tree nodes_in other_nodes taxa_placed descendant_count descendants_wanted climbs row_one_alone nodes_only htus_in ancestors_in
    descendants_right all_climb grown growing_tree branching branches_read ancestors_of filled named_in_order lent_branching ask_branching lists_full ask_fit
    is_weight are_weights codes wrong_row weights branch three none
fit_by weights matrix n records low high chosen = ask_fit (matrix_of matrix weights) n 1 records (codes low) (codes high) (codes chosen)

-- the same with weights of 1
fit : List ℤ → ℕ → List Branch → ℕ → ℕ → ℕ → Asked
unfolding fit_by
fit = fit_by (weights 1)

-- the questions of the call for node v of n taxa in character j
node_by : List ℕ → List ℤ → ℕ → List Branch → ℕ → ℕ → Asked
unfolding numbers every same_numbers keep row in_range last_node one_to within_limits ask_each ask_code ask_row_of ask_rows_of ask_matrix
    ancestor descendants
    has_ancestor in_tree nodes_in other_nodes taxa_placed descendant_count descendants_wanted climbs row_one_alone nodes_only htus_in ancestors_in
    descendants_right all_climb grown growing_tree branching branches_read ancestors_of filled named_in_order lent_branching ask_node
    is_weight are_weights codes wrong_row weights branch three none
node_by weights matrix n records v j = ask_node (matrix_of matrix weights) n 1 records v j

-- the same with weights of 1
node : List ℤ → ℕ → List Branch → ℕ → ℕ → Asked
unfolding node_by
node = node_by (weights 1)

-- in both calls 127 weights are 12, and a weight of 0 is 16, after 4 and before 10
weights_asked : fit_by (replicate 127 1) (codes 16128) 3 (three 122) 16128 16128 16128
    ∷ fit_by (weights 0) (codes 16128) 65 none 16128 16128 16128
    ∷ fit_by (weights 0) (wrong_row 3) 3 none 16128 16128 16128
    ∷ node_by (replicate 127 1) (codes 16128) 3 (three 122) 4 1
    ∷ node_by (weights 0) (codes 16128) 65 none 0 0
    ∷ node_by (weights 0) (wrong_row 3) 3 none 0 0
    ∷ []
    ≡ Err ListSize
    ∷ Err BeyondLimits
    ∷ Err WeightForm
    ∷ Err ListSize
    ∷ Err BeyondLimits
    ∷ Err WeightForm
    ∷ []
unfolding fit node
weights_asked = refl

-- each of the three lists of states is asked for its size, before the limits
lists-first : fit (codes 16128) 65 none 16127 16128 16128
    ∷ fit (codes 16128) 65 none 16128 16129 16128
    ∷ fit (codes 16128) 65 none 16128 16128 0
    ∷ fit (codes 16127) 65 none 16128 16128 16128
    ∷ []
    ≡ Err ListSize ∷ Err ListSize ∷ Err ListSize ∷ Err ListSize ∷ []
unfolding fit
lists-first = refl

-- then 4, 10 and 14; a code out of range in the row of an HTU is not read
fit-in_order : fit (wrong_row 1) 65 none 16128 16128 16128
    ∷ fit (wrong_row 3) 3 none 16128 16128 16128
    ∷ fit (wrong_row 4) 3 none 16128 16128 16128
    ∷ fit (wrong_row 4) 3 (three 122) 16128 16128 16128
    ∷ []
    ≡ Err BeyondLimits ∷ Err CodeRange ∷ Err NotBranching ∷ Ok tt ∷ []
unfolding fit
fit-in_order = refl

-- the call for one node asks 12, 4 and 10 before 13
node_last : node (codes 16127) 65 none 0 0 ∷ node (codes 16128) 65 (three 121) 0 0 ∷ node (wrong_row 1) 65 none 0 0 ∷ node
    (wrong_row 3) 3 none 0 0 ∷ []
    ≡ Err ListSize ∷ Err ListSize ∷ Err BeyondLimits ∷ Err CodeRange ∷ []
unfolding node
node_last = refl

-- nodes are 1 to 2n-2, characters 1 to m; 13 comes before 14
not_there : node (codes 16128) 3 none 0 1 ∷ node (codes 16128) 3 none 5 1 ∷ node (codes 16128) 3 none 4 0 ∷ node
    (codes 16128) 3 none 4 2 ∷ []
    ≡ Err NotThere ∷ Err NotThere ∷ Err NotThere ∷ Err NotThere ∷ []
unfolding node
not_there = refl

-- of one taxon node 1 alone is there, and there is no branch
one_node : node (codes 16128) 1 none 1 1 ∷ node (codes 16128) 1 none 2 1 ∷ [] ≡ Ok tt ∷ Err NotThere ∷ []
unfolding node
one_node = refl

-- last 14; a taxon and an HTU pass, with a code out of range in the row of the HTU
node_passes : node (codes 16128) 3 none 4 1 ∷ node (wrong_row 4) 3 (three 122) 1 1 ∷ node (wrong_row 4) 3 (three 122) 4 1 ∷ []
    ≡ Err NotBranching ∷ Ok tt ∷ Ok tt ∷ []
unfolding node
node_passes = refl
