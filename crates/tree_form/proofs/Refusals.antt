-- The questions of a lent branching, of a placement and of a finished tree, computed: each refusal, and of two questions that would both
-- refuse the earlier one answers. The matrix has one character; the code of row v stands at (v-1)*128.
use mathlib.Core.Path.{◌≡◌, refl}
use mathlib.Core.List.{List, [], ◌∷◌}
use Prim.Native.Nat.{ℕ, ◌*◌, ◌-◌}
use lib.IntN.{ℤ, pos}
use lib.ListN.{replicate, set}
use Rattle.lists.specs.Numbers.{numbers}
use Rattle.lists.specs.Tests.{every, same_numbers}
use Rattle.lists.specs.Filters.{keep}
use Rattle.matrix_form.specs.Shape.{row, in_range, is_weight, last_node, matrix_of}
use Rattle.matrix_form.specs.Questions.{one_to, within_limits, ask_code, ask_row_of, ask_rows_of, are_weights, ask_matrix}
use Rattle.matrix_form.specs.declared.refusal.Refusal.TheVariants.{BeyondLimits, CodeRange, ListSize, NotThere, NotBranching, WeightForm}
use Rattle.matrix_form.specs.Outcomes.{Asked, ask_each}
use Rattle.std.specs.Prelude.{Ok, Err}
use Rattle.tree_form.specs.declared.branch.Branch.{Branch}
use Rattle.tree_form.specs.Ancestors.{ancestor, descendants}
use Rattle.tree_form.specs.Nodes.{has_ancestor, in_tree, nodes_in, other_nodes, taxa_placed}
use Rattle.tree_form.specs.Growing.{descendant_count, descendants_wanted, climbs, row_one_alone, nodes_only, htus_in, ancestors_in}
use Rattle.tree_form.specs.Growing.{descendants_right, all_climb, grown, growing_tree, branching}
use Rattle.lists.specs.Filled.{filled}
use Rattle.tree_form.specs.Branches.{branches_read, ancestors_of, named_in_order, lent_branching}
use Rattle.tree_form.specs.Hanging.{only_row_one}
use Rattle.tree_form.specs.Asking.{htus_of, ask_placement, ask_branching, ask_finished, ask_records}

-- a matrix of full size with code 0 everywhere
full : List ℤ
full = replicate 16128 (pos 0)

-- a matrix of full size in which row v has the code 1000
wrong_row : ℕ → List ℤ
unfolding full
wrong_row v = set full ((v - 1) * 128) (pos 1000)

-- lent weights of 1
ones : List ℕ
ones = replicate 128 1

-- lent weights of which the first is 10
ten_first : List ℕ
ten_first = 10 ∷ replicate 127 1

-- a branch record
branch : ℕ → ℕ → Branch
branch v a = record { node = v; ancestor = a; length = 7 }

-- a branching of three taxa, and then so many further records
three : ℕ → List Branch
unfolding branch
three more = branch 2 4 ∷ branch 3 4 ∷ branch 4 1 ∷ replicate more (branch 9 9)

-- so many records of zeros
zeros : ℕ → List Branch
zeros count = replicate count (record { node = 0; ancestor = 0; length = 0 })

-- the questions of a lent branching of n taxa
lent_by : List ℕ → List ℤ → ℕ → List Branch → Asked
unfolding numbers every same_numbers keep row in_range last_node one_to within_limits ask_each ask_code ask_row_of ask_rows_of is_weight
    are_weights ask_matrix
    ancestor descendants has_ancestor in_tree nodes_in other_nodes taxa_placed descendant_count descendants_wanted climbs row_one_alone nodes_only
    htus_in ancestors_in descendants_right all_climb grown growing_tree branching branches_read ancestors_of filled named_in_order lent_branching
    htus_of only_row_one ask_placement ask_branching ask_finished ask_records full wrong_row branch three zeros
lent_by weights codes n records = ask_branching (matrix_of codes weights) n 1 records

-- the same with weights of 1
lent : List ℤ → ℕ → List Branch → Asked
unfolding lent_by ones ten_first
lent = lent_by ones

-- 124 and 126 records are 12, 125 pass
record_counts : lent full 3 (three 121) ∷ lent full 3 (three 122) ∷ lent full 3 (three 123) ∷ []
    ≡ Err ListSize ∷ Ok tt ∷ Err ListSize ∷ []
unfolding lent
record_counts = refl

-- the size of the list of records is asked first: 124 records with a matrix that is too short, with 65 taxa, with a code out of range, with
-- records that are no branching are all 12
size_first : lent (replicate 16127 (pos 0)) 3 (three 121)
    ∷ lent full 65 (three 121)
    ∷ lent (wrong_row 1) 3 (three 121)
    ∷ lent full 3 (zeros 124)
    ∷ []
    ≡ Err ListSize ∷ Err ListSize ∷ Err ListSize ∷ Err ListSize ∷ []
unfolding lent
size_first = refl

-- then the matrix: its size before the limits, the codes and the branching; the limits before the codes and the branching; the codes of
-- the taxa before the branching
matrix-next : lent (replicate 16129 (pos 0)) 65 (zeros 125)
    ∷ lent (replicate 16127 (pos 1000)) 3 (zeros 125)
    ∷ lent (wrong_row 1) 65 (zeros 125)
    ∷ lent full 0 (zeros 125)
    ∷ lent (wrong_row 3) 3 (zeros 125)
    ∷ []
    ≡ Err ListSize ∷ Err ListSize ∷ Err BeyondLimits ∷ Err BeyondLimits ∷ Err CodeRange ∷ []
unfolding lent
matrix-next = refl

-- 125 records of zeros are 14 for two taxa and for more, and a branching of one taxon
zero-records : lent full 1 (zeros 125) ∷ lent full 2 (zeros 125) ∷ lent full 3 (zeros 125) ∷ []
    ≡ Ok tt ∷ Err NotBranching ∷ Err NotBranching ∷ []
unfolding lent
zero-records = refl

-- a code out of range in the row of an HTU, or beyond the taxa, is not read
htus_unread : lent (wrong_row 4) 3 (three 122) ∷ lent (wrong_row 126) 3 (three 122) ∷ [] ≡ Ok tt ∷ Ok tt ∷ []
unfolding lent
htus_unread = refl

-- a growing tree of four taxa: taxa 2 and 4 hang from HTU 5, taxon 3 is not placed
grown_tree : List ℕ
grown_tree = 0 ∷ 0 ∷ 5 ∷ 0 ∷ 5 ∷ 1 ∷ replicate 121 0

-- no growing tree: node 1 has two descendants
wrong_tree : List ℕ
wrong_tree = 0 ∷ 0 ∷ 1 ∷ 0 ∷ 1 ∷ 0 ∷ replicate 121 0

-- the questions of a placement of taxon b
placed_by : List ℕ → List ℤ → ℕ → List ℕ → ℕ → Asked
unfolding lent grown_tree wrong_tree
placed_by weights codes n tree b = ask_placement (matrix_of codes weights) n 1 tree b

-- the same with weights of 1
placed : List ℤ → ℕ → List ℕ → ℕ → Asked
unfolding placed_by
placed = placed_by ones

-- each answer by itself: the matrix's size, the limits, a code of a taxon, a taxon that does not exist, no growing tree, a taxon that is
-- in the tree, a code of an HTU of the tree, and none
each_refusal : placed (replicate 16127 (pos 0)) 4 grown_tree 3
    ∷ placed full 65 grown_tree 3
    ∷ placed (wrong_row 3) 4 grown_tree 3
    ∷ placed full 4 grown_tree 5
    ∷ placed full 4 grown_tree 0
    ∷ placed full 4 wrong_tree 3
    ∷ placed full 4 grown_tree 2
    ∷ placed (wrong_row 5) 4 grown_tree 3
    ∷ placed full 4 grown_tree 3
    ∷ []
    ≡ Err ListSize
    ∷ Err BeyondLimits
    ∷ Err CodeRange
    ∷ Err NotThere
    ∷ Err NotThere
    ∷ Err NotBranching
    ∷ Err NotThere
    ∷ Err CodeRange
    ∷ Ok tt
    ∷ []
unfolding placed
each_refusal = refl

-- row 1 is in every growing tree: as the taxon to place it is 13, and not 14, also where row 1 stands alone
row_one : placed full 4 grown_tree 1 ∷ placed full 4 only_row_one 1 ∷ [] ≡ Err NotThere ∷ Err NotThere ∷ []
unfolding placed
row_one = refl

-- the questions on the matrix come before all others
matrix-first : placed (replicate 16127 (pos 1000)) 65 wrong_tree 0
    ∷ placed (replicate 16127 (pos 0)) 4 wrong_tree 5
    ∷ placed (replicate 16127 (pos 0)) 4 grown_tree 2
    ∷ placed (wrong_row 1) 65 wrong_tree 0
    ∷ placed full 65 wrong_tree 66
    ∷ placed full 65 wrong_tree 3
    ∷ placed (wrong_row 4) 4 wrong_tree 5
    ∷ placed (wrong_row 4) 4 wrong_tree 3
    ∷ placed (wrong_row 4) 4 grown_tree 2
    ∷ []
    ≡ Err ListSize
    ∷ Err ListSize
    ∷ Err ListSize
    ∷ Err BeyondLimits
    ∷ Err BeyondLimits
    ∷ Err BeyondLimits
    ∷ Err CodeRange
    ∷ Err CodeRange
    ∷ Err CodeRange
    ∷ []
unfolding placed
matrix-first = refl

-- a taxon that does not exist before no growing tree and before an HTU's code; no growing tree before a taxon that is in the tree and
-- before an HTU's code; a taxon that is in the tree before an HTU's code
then_in_order : placed full 4 wrong_tree 5
    ∷ placed (wrong_row 5) 4 grown_tree 5
    ∷ placed full 4 wrong_tree 2
    ∷ placed full 4 wrong_tree 1
    ∷ placed (wrong_row 5) 4 wrong_tree 3
    ∷ placed (wrong_row 5) 4 grown_tree 2
    ∷ []
    ≡ Err NotThere
    ∷ Err NotThere
    ∷ Err NotBranching
    ∷ Err NotBranching
    ∷ Err NotBranching
    ∷ Err NotThere
    ∷ []
unfolding placed
then_in_order = refl

-- the row of an HTU that the tree does not have is not read
other-htu : placed (wrong_row 6) 4 grown_tree 3 ∷ placed (wrong_row 5) 4 only_row_one 3 ∷ [] ≡ Ok tt ∷ Ok tt ∷ []
unfolding placed
other-htu = refl

-- a finished tree of three taxa: taxa 2 and 3 hang from HTU 4
whole_tree : List ℕ
whole_tree = 0 ∷ 0 ∷ 4 ∷ 4 ∷ 1 ∷ replicate 122 0

-- the questions of a finished tree that is handed back into a list of so many records
recorded_by : List ℕ → List ℤ → ℕ → List ℕ → ℕ → Asked
unfolding placed whole_tree
recorded_by weights codes n tree room = ask_records (matrix_of codes weights) n 1 tree room

-- the same with weights of 1
recorded : List ℤ → ℕ → List ℕ → ℕ → Asked
unfolding recorded_by
recorded = recorded_by ones

-- in each of the three calls: 127 weights are 12; a weight of 10 is 16, after the limits and before the codes of the taxa
weights_asked : lent_by (replicate 127 1) full 3 (three 122)
    ∷ lent_by ten_first full 3 (three 122)
    ∷ lent_by ten_first full 65 (three 122)
    ∷ lent_by ten_first (wrong_row 1) 3 (three 122)
    ∷ placed_by (replicate 127 1) full 4 grown_tree 3
    ∷ placed_by ten_first full 4 grown_tree 3
    ∷ placed_by ten_first (wrong_row 1) 4 grown_tree 3
    ∷ recorded_by (replicate 127 1) full 3 whole_tree 125
    ∷ recorded_by ten_first full 3 whole_tree 125
    ∷ recorded_by ten_first (wrong_row 1) 3 whole_tree 125
    ∷ []
    ≡ Err ListSize
    ∷ Err WeightForm
    ∷ Err BeyondLimits
    ∷ Err WeightForm
    ∷ Err ListSize
    ∷ Err WeightForm
    ∷ Err WeightForm
    ∷ Err ListSize
    ∷ Err WeightForm
    ∷ Err WeightForm
    ∷ []
unfolding recorded
weights_asked = refl

-- each answer by itself: the size of the list of records, too small and too large, that of the matrix, the limits, a code of a taxon, no
-- growing tree, a growing tree that lacks a taxon, row 1 alone, a code of an HTU, and none; of one taxon, row 1 alone is the finished tree
each_record_refusal : recorded full 3 whole_tree 124
    ∷ recorded full 3 whole_tree 126
    ∷ recorded (replicate 16127 (pos 0)) 3 whole_tree 125
    ∷ recorded full 65 whole_tree 125
    ∷ recorded (wrong_row 3) 3 whole_tree 125
    ∷ recorded full 4 wrong_tree 125
    ∷ recorded full 4 grown_tree 125
    ∷ recorded full 3 only_row_one 125
    ∷ recorded (wrong_row 4) 3 whole_tree 125
    ∷ recorded full 3 whole_tree 125
    ∷ recorded full 1 only_row_one 125
    ∷ []
    ≡ Err ListSize
    ∷ Err ListSize
    ∷ Err ListSize
    ∷ Err BeyondLimits
    ∷ Err CodeRange
    ∷ Err NotBranching
    ∷ Err NotBranching
    ∷ Err NotBranching
    ∷ Err CodeRange
    ∷ Ok tt
    ∷ Ok tt
    ∷ []
unfolding recorded
each_record_refusal = refl

-- the sizes come before the limits, the codes and the tree; the limits before the codes of the taxa and the tree; the codes of the taxa
-- before the tree; the tree before the codes of the HTUs
records-in_order : recorded full 65 whole_tree 124
    ∷ recorded (wrong_row 1) 3 whole_tree 124
    ∷ recorded full 3 wrong_tree 124
    ∷ recorded (wrong_row 4) 3 whole_tree 124
    ∷ recorded (replicate 16127 (pos 1000)) 65 wrong_tree 125
    ∷ recorded (wrong_row 1) 65 wrong_tree 125
    ∷ recorded (wrong_row 1) 3 wrong_tree 125
    ∷ recorded (wrong_row 5) 4 grown_tree 125
    ∷ []
    ≡ Err ListSize
    ∷ Err ListSize
    ∷ Err ListSize
    ∷ Err ListSize
    ∷ Err ListSize
    ∷ Err BeyondLimits
    ∷ Err CodeRange
    ∷ Err NotBranching
    ∷ []
unfolding recorded
records-in_order = refl

-- the row of no node of the tree is not read
records_unread : recorded (wrong_row 5) 3 whole_tree 125 ∷ recorded (wrong_row 2) 1 only_row_one 125 ∷ [] ≡ Ok tt ∷ Ok tt ∷ []
unfolding recorded
records_unread = refl
