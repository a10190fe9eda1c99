-- The build computed on examples, by advancement and by closeness: document 01's listing, one and two taxa, a tie for each rule, and a tree
-- handed in.
use mathlib.Core.Path.{◌≡◌, refl}
use mathlib.Core.List.{List, [], ◌∷◌, ◌++◌, flat_map}
use mathlib.Core.Bool.{Bool, true}
use Prim.Native.Nat.{ℕ, ◌*◌, ◌-◌}
use lib.IntN.{ℤ, pos, negsuc}
use lib.ListN.{take, replicate}
use Rattle.lists.specs.Over.{over, stripes}
use Rattle.matrix_form.specs.NodeRows.{row_of, rows_of, with_rows}
use Rattle.matrix_form.proofs.Sample.{rows_abcd}
use Rattle.difference_form.specs.Rows.{interval_by, apart, part, lower, higher, median, medians, difference, node_difference}
use Rattle.lists.specs.Numbers.{numbers}
use Rattle.lists.specs.Least.{first_least, least_of}
use Rattle.lists.specs.Pairs.{pairs}
use Rattle.matrix_form.specs.Shape.{last_node, weight_at, row, matrix_of}
use Rattle.lists.specs.Tests.{every, same_numbers}
use Rattle.tree_form.specs.declared.placement.Placement.{Placement}
use Rattle.tree_form.specs.declared.branch.Branch.{Branch}
use Rattle.tree_form.specs.Ancestors.{ancestor, descendants}
use Rattle.lists.specs.Filters.{keep}
use Rattle.tree_form.specs.Nodes.{has_ancestor, in_tree, nodes_in, nodes_out, other_nodes, taxa_placed}
use Rattle.tree_form.specs.Growing.{descendant_count, descendants_wanted, climbs, row_one_alone, nodes_only, htus_in, ancestors_in}
use Rattle.tree_form.specs.Growing.{descendants_right, all_climb, grown, growing_tree, branching}
use Rattle.tree_form.specs.Hanging.{only_row_one, linked, hung, next_htu}
use Rattle.lists.specs.Filled.{filled}
use Rattle.tree_form.specs.Branches.{tree_length, branch_of, branch_records, branches_read, ancestors_of, named_in_order, lent_branching}
use Rattle.lists.specs.Sums.{sum_over}
use Rattle.tree_form.specs.RowLengths.{length_under}
use Rattle.tree_form.specs.declared.order.Order.{Order}
use Rattle.tree_form.specs.declared.order.Order.TheVariants.{Advance, Closest}
use Rattle.wagner_form.specs.Next.{hangings, taxon_of, advancement, by_advancement, by_closeness, next_by}
use Rattle.wagner_form.specs.Build.{Built, build_on, build, wagner, wagner_length, wagner_branches}
use Rattle.wagner_form.specs.Matrix.{matrix_after, wagner_in}
use Rattle.tree_form.specs.Placing.{AfterPlacing, median_row, from_interval, nearest_interval, link_first, hang, place_on, place}

-- taxon, lower end, upper end, HTU, length added
abbrev line : ℕ → ℕ → ℕ → ℕ → ℕ → Placement
line b c e y a = record { taxon = b; lower = c; upper = e; htu = y; added = a }

-- what a `W` listing shows of a tree: the placements, the ancestors of nodes 0 to 2n-2, the length, and whether it is a branching
record Shown : Type 0 where
  placements : List Placement
  ancestors : List ℕ
  total : ℕ
  is_branching : Bool

-- the Wagner tree of n rows by the weights of their characters, in an order of placing, as such a listing shows it
shown_by : List ℕ → Order → ℕ → List (List ℤ) → Shown
unfolding flat_map pairs hangings taxon_of by_closeness next_by apart lower higher median medians weight_at part difference
    numbers first_least last_node ancestor descendants has_ancestor in_tree keep
    nodes_in nodes_out other_nodes taxa_placed every descendant_count descendants_wanted climbs row_one_alone nodes_only htus_in ancestors_in
    descendants_right all_climb grown growing_tree branching only_row_one linked hung next_htu sum_over tree_length branch_of branch_records
    branches_read ancestors_of filled same_numbers named_in_order lent_branching row_of least_of node_difference interval_by advancement
    length_under median_row from_interval nearest_interval link_first hang place_on place by_advancement build_on build wagner wagner_length
    wagner_branches
shown_by weights order n rows =
    let built : Built = wagner (difference weights) order n rows in
    record {
      placements = built.placements;
      ancestors = take (2 * n - 1) built.tree;
      total = wagner_length (difference weights) n built;
      is_branching = branching n built.tree;
    }

-- characters that count alike
abbrev alike : List ℕ
alike = 1 ∷ 1 ∷ 1 ∷ []

-- by advancement, the characters alike
shown : ℕ → List (List ℤ) → Shown
unfolding shown_by
shown n rows = shown_by alike Advance n rows

-- the matrix of document 01:
-- W B - A - 3; W D B A #1 3; W C B #1 #2 3; w 9
four_taxa_built : shown 4 rows_abcd
    ≡ record {
      placements = line 2 0 1 0 3 ∷ line 4 2 1 5 3 ∷ line 3 2 5 6 3 ∷ [];
      ancestors = 0 ∷ 0 ∷ 6 ∷ 6 ∷ 5 ∷ 1 ∷ 5 ∷ [];
      total = 9;
      is_branching = true;
    }
unfolding shown
four_taxa_built = refl

-- by closeness C and D are equally near to the interval of B, and the lower row comes first: W B - A - 3; W C B A #1 3; W D #1 A #2 3;
-- w 9
four_taxa_closest : shown_by alike Closest 4 rows_abcd
    ≡ record {
      placements = line 2 0 1 0 3 ∷ line 3 2 1 5 3 ∷ line 4 5 1 6 3 ∷ [];
      ancestors = 0 ∷ 0 ∷ 5 ∷ 5 ∷ 6 ∷ 6 ∷ 1 ∷ [];
      total = 9;
      is_branching = true;
    }
unfolding shown_by
four_taxa_closest = refl

-- with a third character that counts three times C is less advanced than D, and D goes to the interval of C
four_taxa_third : shown_by (1 ∷ 1 ∷ 3 ∷ []) Advance 4 rows_abcd
    ≡ record {
      placements = line 2 0 1 0 3 ∷ line 3 2 1 5 5 ∷ line 4 3 5 6 6 ∷ [];
      ancestors = 0 ∷ 0 ∷ 5 ∷ 6 ∷ 6 ∷ 1 ∷ 5 ∷ [];
      total = 14;
      is_branching = true;
    }
unfolding shown_by
four_taxa_third = refl

-- with a second character that counts twice D is nearer to the interval of B than C
four_taxa_second : shown_by (1 ∷ 2 ∷ 1 ∷ []) Closest 4 rows_abcd
    ≡ record {
      placements = line 2 0 1 0 4 ∷ line 4 2 1 5 3 ∷ line 3 2 5 6 5 ∷ [];
      ancestors = 0 ∷ 0 ∷ 6 ∷ 6 ∷ 5 ∷ 1 ∷ 5 ∷ [];
      total = 12;
      is_branching = true;
    }
unfolding shown_by
four_taxa_second = refl

-- taxon 5 is least advanced; then by closeness taxa 4, 3 and 2, each next to the one before it, while taxon 2 is less advanced than 3
abbrev stairs : List (List ℤ)
stairs = (pos 0 ∷ pos 0 ∷ []) ∷ (pos 2 ∷ pos 3 ∷ []) ∷ (pos 3 ∷ pos 3 ∷ []) ∷ (pos 3 ∷ pos 2 ∷ []) ∷ (pos 3 ∷ pos 1 ∷ []) ∷ []

stairs_closest : shown_by alike Closest 5 stairs
    ≡ record {
      placements = line 5 0 1 0 4 ∷ line 4 5 1 6 1 ∷ line 3 4 6 7 1 ∷ line 2 3 7 8 1 ∷ [];
      ancestors = 0 ∷ 0 ∷ 8 ∷ 8 ∷ 7 ∷ 6 ∷ 1 ∷ 6 ∷ 7 ∷ [];
      total = 7;
      is_branching = true;
    }
unfolding shown_by
stairs_closest = refl

-- by advancement that tree is longer
stairs_advanced : (shown_by alike Advance 5 stairs).total ≡ 8
unfolding shown_by
stairs_advanced = refl

-- one taxon: no placement, no branch
one-built : shown 1 ((pos 7 ∷ []) ∷ []) ≡ record { placements = []; ancestors = 0 ∷ []; total = 0; is_branching = true }
unfolding shown
one-built = refl

-- two taxa: one link to row 1
two_built : shown 2 ((pos 7 ∷ []) ∷ (negsuc 1 ∷ []) ∷ [])
    ≡ record { placements = line 2 0 1 0 9 ∷ []; ancestors = 0 ∷ 0 ∷ 1 ∷ []; total = 9; is_branching = true }
unfolding shown
two_built = refl

-- taxa 2 and 3 are equally advanced: the lower row comes first
equally_advanced : shown 3 ((pos 0 ∷ []) ∷ (negsuc 0 ∷ []) ∷ (pos 1 ∷ []) ∷ [])
    ≡ record {
      placements = line 2 0 1 0 1 ∷ line 3 2 1 4 1 ∷ [];
      ancestors = 0 ∷ 0 ∷ 4 ∷ 4 ∷ 1 ∷ [];
      total = 2;
      is_branching = true;
    }
unfolding shown
equally_advanced = refl

-- taxon 4 is equally far from all three intervals: it goes to the one whose lower end has the least number; HTUs 5 and 6 equal row 1
-- and are kept
abbrev three_arms : List (List ℤ)
three_arms =
    (pos 0 ∷ pos 0 ∷ pos 0 ∷ []) ∷ (pos 1 ∷ pos 0 ∷ pos 0 ∷ []) ∷ (pos 0 ∷ pos 1 ∷ pos 0 ∷ []) ∷ (pos 0 ∷ pos 0 ∷ pos 2 ∷ []) ∷ []

equally_near : shown 4 three_arms
    ≡ record {
      placements = line 2 0 1 0 1 ∷ line 3 2 1 5 1 ∷ line 4 2 5 6 2 ∷ [];
      ancestors = 0 ∷ 0 ∷ 6 ∷ 5 ∷ 6 ∷ 1 ∷ 5 ∷ [];
      total = 4;
      is_branching = true;
    }
unfolding shown
equally_near = refl

-- by closeness too: taxon 3 is nearer than taxon 4, which then goes to the least number
equally_near_closest : shown_by alike Closest 4 three_arms
    ≡ record {
      placements = line 2 0 1 0 1 ∷ line 3 2 1 5 1 ∷ line 4 2 5 6 2 ∷ [];
      ancestors = 0 ∷ 0 ∷ 6 ∷ 5 ∷ 6 ∷ 1 ∷ 5 ∷ [];
      total = 4;
      is_branching = true;
    }
unfolding shown_by
equally_near_closest = refl

-- by closeness taxa 3 and 4 are equally near, taxon 3 to the interval of 5 and taxon 4 to that of 2: the lower row comes first, whatever
-- the lower ends
abbrev two_ties : List (List ℤ)
two_ties =
    (pos 0 ∷ pos 0 ∷ pos 0 ∷ [])
    ∷ (pos 2 ∷ pos 0 ∷ pos 0 ∷ [])
    ∷ (pos 0 ∷ pos 3 ∷ pos 4 ∷ [])
    ∷ (pos 2 ∷ pos 0 ∷ pos 4 ∷ [])
    ∷ (pos 0 ∷ pos 3 ∷ pos 0 ∷ [])
    ∷ []

row_before_end : shown_by alike Closest 5 two_ties
    ≡ record {
      placements = line 2 0 1 0 2 ∷ line 5 2 1 6 3 ∷ line 3 5 6 7 4 ∷ line 4 2 6 8 4 ∷ [];
      ancestors = 0 ∷ 0 ∷ 8 ∷ 7 ∷ 8 ∷ 7 ∷ 1 ∷ 6 ∷ 6 ∷ [];
      total = 13;
      is_branching = true;
    }
unfolding shown_by
row_before_end = refl

-- a tree handed in: taxa 1, 2 and 4 of document 01's matrix, with an HTU 5 whose codes are not the medians
handed : ℕ → AfterPlacing
unfolding shown_by
handed b =
    place (difference alike) (row_of (take 4 rows_abcd ++ (pos 1 ∷ pos 1 ∷ pos 1 ∷ []) ∷ [])) 4 (0 ∷ 0 ∷ 5 ∷ 0 ∷ 5 ∷ 1 ∷ 0 ∷ []) b

handed-tree : (handed 3).tree ≡ 0 ∷ 0 ∷ 6 ∷ 6 ∷ 5 ∷ 1 ∷ 5 ∷ []
unfolding handed
handed-tree = refl

handed-placement : (handed 3).placement ≡ line 3 2 5 6 2
unfolding handed
handed-placement = refl

-- the new HTU's row takes the median codes
handed-row : (handed 3).made ≡ (pos 2 ∷ pos 1 ∷ pos 1 ∷ []) ∷ []
unfolding handed
handed-row = refl

-- the branches of document 01's tree, with their lengths under the median codes; handed back, they are a branching
branches : List Branch
unfolding shown_by
branches = wagner_branches (difference alike) 4 (wagner (difference alike) Advance 4 rows_abcd)

abbrev branch : ℕ → ℕ → ℕ → Branch
branch v a l = record { node = v; ancestor = a; length = l }

branches-listed : branches ≡ branch 2 6 0 ∷ branch 3 6 3 ∷ branch 4 5 3 ∷ branch 5 1 1 ∷ branch 6 5 2 ∷ []
unfolding branches
branches-listed = refl

branches-lent : lent_branching 4 branches ≡ true
unfolding branches
branches-lent = refl

-- a matrix of nines after that build: the rows of #1 and #2, nodes 5 and 6, have the medians of D, B and A and of C, B and #1 in three
-- characters, and all else is as before
matrix-written : matrix_after (replicate 645 (pos 9)) 4 (wagner (difference alike) Advance 4 rows_abcd)
    ≡ replicate 512 (pos 9) ++ (pos 0 ∷ pos 1 ∷ pos 0 ∷ []) ++ replicate 125 (pos 9) ++ (pos 2 ∷ pos 1 ∷ pos 0 ∷ []) ++ replicate 2 (pos 9)
unfolding shown_by over stripes with_rows matrix_after
matrix-written = refl

-- a lent matrix of two taxa with one character, in which they are 5 apart, of weight 3: its build is that of its rows by this weight
built-lent : wagner_in Closest (matrix_of (pos 2 ∷ replicate 127 (pos 9) ++ pos 7 ∷ []) (3 ∷ [])) 2 1
    ≡ wagner (difference (3 ∷ [])) Closest 2 ((pos 2 ∷ []) ∷ (pos 7 ∷ []) ∷ [])
unfolding wagner_in rows_of row numbers
built-lent = refl
