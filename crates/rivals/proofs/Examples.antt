-- Computed: trees of two, three and four of five taxa handed in, and taxon E hung on the interval of an HTU.
use mathlib.Core.Path.{◌≡◌, refl}
use mathlib.Core.List.{List, [], ◌∷◌, ◌++◌}
use Prim.Native.Nat.{ℕ}
use lib.IntN.{ℤ, pos, negsuc}
use lib.ListN.{set}
use Rattle.lists.specs.Filters.{keep}
use Rattle.lists.specs.Least.{first_least, least_of}
use Rattle.lists.specs.Numbers.{numbers}
use Rattle.lists.specs.Sums.{sum_over}
use Rattle.lists.specs.Tests.{every}
use Rattle.matrix_form.specs.NodeRows.{row_of}
use Rattle.matrix_form.specs.Shape.{in_range, weight_at, last_node}
use Rattle.matrix_form.specs.Questions.{all_in_range}
use Rattle.file_form.specs.Job.{has_codes}
use Rattle.difference_form.specs.Rows.{apart, part, lower, higher, median, medians, difference, interval_by, node_difference}
use Rattle.tree_form.specs.declared.placement.Placement.{Placement}
use Rattle.tree_form.specs.Ancestors.{ancestor, descendants}
use Rattle.tree_form.specs.Nodes.{has_ancestor, in_tree, nodes_in, other_nodes, taxa_placed}
use Rattle.tree_form.specs.Growing.{descendant_count, descendants_wanted, climbs, row_one_alone, nodes_only, htus_in, ancestors_in}
use Rattle.tree_form.specs.Growing.{descendants_right, all_climb, grown, growing_tree}
use Rattle.tree_form.specs.Hanging.{only_row_one, linked, hung, next_htu}
use Rattle.tree_form.specs.Branches.{tree_length}
use Rattle.tree_form.specs.RowLengths.{length_under}
use Rattle.tree_form.specs.Placing.{median_row, from_interval, nearest_interval, link_first, hang, place_on, place}
use Rattle.tree_form.specs.Rival.{hung_length}
use Rattle.rivals.specs.Accepted.{HandedIn}

-- rows of A, B, C, D and E
abbrev rows : List (List ℤ)
rows =
    (pos 0 ∷ pos 0 ∷ pos 0 ∷ [])
    ∷ (pos 0 ∷ negsuc 1 ∷ pos 2 ∷ [])
    ∷ (negsuc 0 ∷ pos 2 ∷ pos 1 ∷ [])
    ∷ (negsuc 0 ∷ negsuc 1 ∷ pos 0 ∷ [])
    ∷ (negsuc 0 ∷ negsuc 0 ∷ pos 2 ∷ [])
    ∷ []

-- D alone is linked to A
abbrev two : List ℕ
two = set only_row_one 4 1

-- then B is hung on D through #1
abbrev three : List ℕ
three = set (set (set only_row_one 4 6) 2 6) 6 1

-- then C on #1 through #2
abbrev four : List ℕ
four = set (set (set three 3 7) 6 7) 7 1

-- the row of #1
abbrev first : List ℤ
first = pos 0 ∷ negsuc 1 ∷ pos 0 ∷ []

-- the row of #2
abbrev second : List ℤ
second = pos 0 ∷ pos 0 ∷ pos 0 ∷ []

-- the tree of two taxa is handed in, without HTUs
pub handed_two : HandedIn 5 3 two []
unfolding only_row_one numbers keep every last_node ancestor descendants has_ancestor in_tree nodes_in other_nodes taxa_placed descendant_count
    descendants_wanted climbs row_one_alone nodes_only htus_in ancestors_in descendants_right all_climb grown growing_tree has_codes all_in_range
    in_range
handed_two =
    record { sized = refl; growing = refl; count = refl; codes = record { full = refl; known = refl }; intervals = refl }

-- the tree of four taxa with the rows of its two HTUs
pub handed_four : HandedIn 5 3 four (first ∷ second ∷ [])
unfolding only_row_one numbers keep every last_node ancestor descendants has_ancestor in_tree nodes_in other_nodes taxa_placed descendant_count
    descendants_wanted climbs row_one_alone nodes_only htus_in ancestors_in descendants_right all_climb grown growing_tree has_codes all_in_range
    in_range
handed_four =
    record { sized = refl; growing = refl; count = refl; codes = record { full = refl; known = refl }; intervals = refl }

-- all characters weigh 1
abbrev alike : List ℕ
alike = 1 ∷ 1 ∷ 1 ∷ []

-- our placement of a taxon on a tree, with the rows of its HTUs
unfoldable pub placement : List ℕ → List (List ℤ) → ℕ → Placement
unfolding only_row_one numbers keep last_node ancestor has_ancestor in_tree nodes_in other_nodes taxa_placed apart lower higher median medians
    part weight_at difference interval_by node_difference median_row from_interval first_least least_of nearest_interval link_first hang place_on place
    linked hung next_htu row_of
placement tree htus b = (place (difference alike) (row_of (rows ++ htus)) 5 tree b).placement

-- the length with E hung on the interval of a node through an HTU with some codes
unfoldable pub length_with : ℕ → List ℤ → ℕ
unfolding only_row_one numbers keep ancestor has_ancestor in_tree nodes_in other_nodes taxa_placed apart part weight_at difference node_difference tree_length
    length_under hung next_htu hung_length sum_over row_of
length_with c r = hung_length (difference alike) 5 four (rows ++ (first ∷ second ∷ [])) 5 c r

-- placements and hangings on these trees
pub record Examples : Type 0 where
  -- B goes onto the only interval of two taxa; C onto that of #1, an HTU; E onto that of B
  pub on_two : placement two [] 2 ≡ record { taxon = 2; lower = 4; upper = 1; htu = 6; added = 2 }
  pub on_three : placement three (first ∷ []) 3 ≡ record { taxon = 3; lower = 6; upper = 1; htu = 7; added = 4 }
  pub on_four : placement four (first ∷ second ∷ []) 5 ≡ record { taxon = 5; lower = 2; upper = 6; htu = 8; added = 2 }
  -- a hanging of E on the interval between #1 and #2 through its median codes gives 12, through other codes more; ours gives 11
  pub on_htu : length_with 6 (pos 0 ∷ negsuc 0 ∷ pos 0 ∷ []) ≡ 12
  pub elsewhere : length_with 6 (pos 5 ∷ negsuc 0 ∷ pos 0 ∷ []) ≡ 27
  pub ours : length_with 2 (pos 0 ∷ negsuc 1 ∷ pos 2 ∷ []) ≡ 11

-- they are as said
pub examples : Examples
unfolding placement length_with
examples = record { on_two = refl; on_three = refl; on_four = refl; on_htu = refl; elsewhere = refl; ours = refl }
