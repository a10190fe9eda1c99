-- Placements computed on examples: a first link, a taxon whose nearest interval is not the first one, and a taxon that is equally far from
-- all intervals, whose HTU equals other nodes; and the records of a tree, written over others.
use mathlib.Core.Path.{◌≡◌, refl}
use mathlib.Core.List.{List, [], ◌∷◌, ◌++◌}
use Prim.Native.Nat.{ℕ, ◌+◌}
use lib.IntN.{ℤ, pos}
use lib.ListN.{replicate}
use Rattle.lists.specs.Filters.{keep}
use Rattle.lists.specs.Least.{first_least, least_of}
use Rattle.lists.specs.Numbers.{numbers}
use Rattle.lists.specs.Over.{over}
use Rattle.matrix_form.specs.NodeRows.{row_of}
use Rattle.matrix_form.specs.Shape.{weight_at}
use Rattle.difference_form.specs.Rows.{apart, part, lower, higher, median, medians, difference, interval_by, node_difference}
use Rattle.tree_form.specs.declared.placement.Placement.{Placement}
use Rattle.tree_form.specs.declared.branch.Branch.{Branch}
use Rattle.tree_form.specs.Ancestors.{ancestor}
use Rattle.tree_form.specs.Nodes.{has_ancestor, in_tree, nodes_in, other_nodes, taxa_placed}
use Rattle.tree_form.specs.Hanging.{linked, hung, next_htu}
use Rattle.tree_form.specs.Branches.{branch_of, branch_records, with_records}
use Rattle.tree_form.specs.Placing.{AfterPlacing, median_row, from_interval, nearest_interval, link_first, hang, place_on, place}

-- taxon b of four placed on a tree with rows of its nodes, two characters or three alike
placed : List ℕ → List (List ℤ) → ℕ → AfterPlacing
unfolding numbers keep ancestor has_ancestor in_tree nodes_in other_nodes taxa_placed apart lower higher median medians part weight_at
    difference interval_by node_difference row_of median_row from_interval first_least least_of nearest_interval linked hung
    next_htu link_first hang place_on place
placed tree rows b = place (difference []) (row_of rows) 4 tree b

-- taxon, lower end, upper end, HTU, length added
abbrev line : ℕ → ℕ → ℕ → ℕ → ℕ → Placement
line b c e y a = record { taxon = b; lower = c; upper = e; htu = y; added = a }

-- rows of A, B, C and D in two characters
abbrev taxa : List (List ℤ)
taxa = (pos 0 ∷ pos 4 ∷ []) ∷ (pos 5 ∷ pos 0 ∷ []) ∷ (pos 9 ∷ pos 2 ∷ []) ∷ (pos 10 ∷ pos 0 ∷ []) ∷ []

-- on row 1 alone a taxon is linked to row 1: A and B differ by 5 and 4
first_link : placed (replicate 7 0) taxa 2
    ≡ record { tree = 0 ∷ 0 ∷ 1 ∷ 0 ∷ 0 ∷ 0 ∷ 0 ∷ []; made = []; placement = line 2 0 1 0 9 }
unfolding placed
first_link = refl

-- B and D hang from #1, whose codes are 5 and 0. C differs from D by 3 and from #1 by 6, and D from #1 by 5: from their interval it lies
-- half of 3 + 6 - 5, which is 2; from that of B half of 6 + 6 - 0, from that of #1 half of 6 + 11 - 9. Of 9, 10 and 5 the median is 9, of 2,
-- 0 and 0 it is 0. #2 has D's old ancestor #1, and D and C have #2
nearest_taken : placed (0 ∷ 0 ∷ 5 ∷ 0 ∷ 5 ∷ 1 ∷ 0 ∷ []) (taxa ++ (pos 5 ∷ pos 0 ∷ []) ∷ []) 3
    ≡ record {
      tree = 0 ∷ 0 ∷ 5 ∷ 6 ∷ 6 ∷ 1 ∷ 5 ∷ [];
      made = (pos 9 ∷ pos 0 ∷ []) ∷ [];
      placement = line 3 4 5 6 2;
    }
unfolding placed
nearest_taken = refl

-- rows of A, B, C and D in three characters
abbrev arms : List (List ℤ)
arms =
    (pos 0 ∷ pos 0 ∷ pos 0 ∷ []) ∷ (pos 1 ∷ pos 0 ∷ pos 0 ∷ []) ∷ (pos 0 ∷ pos 1 ∷ pos 0 ∷ []) ∷ (pos 0 ∷ pos 0 ∷ pos 2 ∷ []) ∷ []

-- B and C hang from #1, which has A's codes. D lies 2 from each of the three intervals and goes to that of B, the least node number; #2
-- takes the codes of #1 and of A, and is kept
equal-kept : placed (0 ∷ 0 ∷ 5 ∷ 5 ∷ 0 ∷ 1 ∷ 0 ∷ []) (arms ++ (pos 0 ∷ pos 0 ∷ pos 0 ∷ []) ∷ []) 4
    ≡ record {
      tree = 0 ∷ 0 ∷ 6 ∷ 5 ∷ 6 ∷ 1 ∷ 5 ∷ [];
      made = (pos 0 ∷ pos 0 ∷ pos 0 ∷ []) ∷ [];
      placement = line 4 2 5 6 2;
    }
unfolding placed
equal-kept = refl

-- a branch record
abbrev branch : ℕ → ℕ → ℕ → Branch
branch v a l = record { node = v; ancestor = a; length = l }

-- of three taxa 2n-3 records are written, each with its length, here the sum of its two numbers; those behind them are as before
three-records : with_records (λ (v a : ℕ). v + a) 3 (0 ∷ 0 ∷ 4 ∷ 4 ∷ 1 ∷ []) (replicate 5 (branch 9 9 9))
    ≡ branch 2 4 6 ∷ branch 3 4 7 ∷ branch 4 1 5 ∷ branch 9 9 9 ∷ branch 9 9 9 ∷ []
unfolding numbers over ancestor other_nodes branch_of branch_records with_records
three-records = refl

-- of one taxon none is written
no-record : with_records (λ (v a : ℕ). v + a) 1 (0 ∷ 0 ∷ []) (replicate 2 (branch 9 9 9)) ≡ branch 9 9 9 ∷ branch 9 9 9 ∷ []
unfolding numbers over ancestor other_nodes branch_of branch_records with_records
no-record = refl
