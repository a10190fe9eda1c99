-- What the calls for a fit answer and write, computed: the states of one node, the three lists, and the fitted total by weights.
use Rattle.std.proofs.Common.{◌≡◌, ℕ, List, [], ◌∷◌, ◌++◌, set, replicate, ℤ, pos, negsuc, refl}
use Rattle.lists.specs.Numbers.{numbers}
use Rattle.lists.specs.Over.{over, stripes}
use Rattle.lists.specs.Tests.{every, same_numbers}
use Rattle.lists.specs.Filters.{keep}
use Rattle.matrix_form.proofs.Sample.{rows_abcd}
use Rattle.matrix_form.specs.Shape.{row, in_range, is_weight, last_node, matrix_of}
use Rattle.matrix_form.specs.NodeRows.{rows_of, with_rows}
use Rattle.matrix_form.specs.Questions.{one_to, within_limits, ask_code, ask_row_of, ask_rows_of, are_weights, ask_matrix}
use Rattle.matrix_form.specs.Outcomes.{value, ask_each}
use Rattle.matrix_form.specs.Spans.{singles, spans_of}
use Rattle.tree_form.specs.declared.branch.Branch.{Branch}
use Rattle.tree_form.specs.Ancestors.{ancestor, descendants}
use Rattle.tree_form.specs.Nodes.{has_ancestor, in_tree, nodes_in, other_nodes, taxa_placed}
use Rattle.tree_form.specs.Growing.{descendant_count, descendants_wanted, climbs, row_one_alone, nodes_only, htus_in, ancestors_in}
use Rattle.tree_form.specs.Growing.{descendants_right, all_climb, grown, growing_tree, branching}
use Rattle.lists.specs.Filled.{filled}
use Rattle.tree_form.specs.Branches.{branches_read, ancestors_of, named_in_order, lent_branching}
use Rattle.tree_form.specs.Asking.{ask_branching}
use Rattle.fit_form.specs.Fit.{states_in}
use Rattle.fit_form.specs.Calls.{Which, Low, High, Chosen, states_written, total_answer}
use Rattle.fit_form.proofs.Examples.{printed, tree_abcd}

-- the states of document 01's HTU #2 in character 3, as in its `H` line
node_states : states_in tree_abcd (singles rows_abcd) 4 6 3 ≡ record { low = pos 0; high = pos 1; chosen = pos 1 }
unfolding printed states_in
node_states = refl

-- a list of nines with one of the states of the HTUs of that example: rows 5 and 6 begin behind 512 and 640 codes
abbrev written : Which → List ℤ
written which = states_written which tree_abcd (singles rows_abcd) 4 3 (replicate 645 (pos 9))

-- what it then holds: three states of #1 and of #2, and all else as before
abbrev holding : List ℤ → List ℤ → List ℤ
holding first second = replicate 512 (pos 9) ++ first ++ replicate 125 (pos 9) ++ second ++ replicate 2 (pos 9)

-- the lowest states of its `H` lines
lowest_written : written Low ≡ holding (pos 0 ∷ pos 1 ∷ pos 0 ∷ []) (pos 2 ∷ pos 1 ∷ pos 0 ∷ [])
unfolding printed states_in over stripes with_rows states_written
lowest_written = refl

-- the highest
highest_written : written High ≡ holding (pos 0 ∷ pos 1 ∷ pos 1 ∷ []) (pos 2 ∷ pos 1 ∷ pos 1 ∷ [])
unfolding printed states_in over stripes with_rows states_written
highest_written = refl

-- the chosen ones
chosen_written : written Chosen ≡ holding (pos 0 ∷ pos 1 ∷ pos 1 ∷ []) (pos 2 ∷ pos 1 ∷ pos 1 ∷ [])
unfolding printed states_in over stripes with_rows states_written
chosen_written = refl

-- a branch record
abbrev branch : ℕ → ℕ → Branch
branch v a = record { node = v; ancestor = a; length = 7 }

-- one character of three taxa with codes -1, 2 and 0, which counts four times: between -1 and 2 lie three steps
weighed_total : total_answer (matrix_of (set (set (replicate 16128 (pos 0)) 0 (negsuc 0)) 128 (pos 2)) (4 ∷ replicate 127 1)) 3 1
    (branch 2 4 ∷ branch 3 4 ∷ branch 4 1 ∷ replicate 122 (branch 9 9))
    ≡ value 12
unfolding printed numbers every same_numbers keep row in_range last_node one_to within_limits ask_each ask_code ask_row_of ask_rows_of
    is_weight
    are_weights ask_matrix rows_of spans_of ancestor descendants has_ancestor in_tree nodes_in other_nodes taxa_placed descendant_count descendants_wanted climbs
    row_one_alone nodes_only htus_in ancestors_in descendants_right all_climb grown growing_tree branching branches_read ancestors_of filled
    named_in_order lent_branching ask_branching total_answer
weighed_total = refl
