-- The claim about the third rival at document 01's example: its tree is a branching, every assignment has a total of at least 9,
-- and in character 3 of an assignment of least length #1 has state 0 or 1, and no other.
use Rattle.std.proofs.Common.{◌≡◌, ℕ, ◌≤◌, true, ◌↔◌, List, [], ◌∷◌, ℤ, pos, negsuc, refl, arith}
use Rattle.lists.specs.Numbers.{numbers}
use Rattle.matrix_form.proofs.Sample.{rows_abcd}
use Rattle.matrix_form.specs.Shape.{last_node, is_weight}
use Rattle.matrix_form.specs.Questions.{are_weights}
use Rattle.lists.specs.Tests.{every}
use Rattle.difference_form.specs.Rows.{weighing}
use Rattle.tree_form.specs.Ancestors.{ancestor, descendants}
use Rattle.lists.specs.Filters.{keep}
use Rattle.tree_form.specs.Nodes.{other_nodes, has_ancestor, in_tree, nodes_in, taxa_placed}
use Rattle.tree_form.specs.Facts.{Branching}
use Rattle.tree_form.specs.Growing.{descendant_count, descendants_wanted, climbs, row_one_alone, nodes_only, htus_in, ancestors_in}
use Rattle.tree_form.specs.Growing.{descendants_right, all_climb, grown, growing_tree, branching}
use Rattle.tree_form.proofs.Test.{branching_iff}
use Rattle.fit_form.specs.Sets.{In}
use Rattle.fit_form.specs.Assignments.{total, IsAssignment, Occurs}
use Rattle.fit_form.proofs.Examples.{tree_abcd, printed}
use Rattle.matrix_form.specs.Spans.{span, singles}
use Rattle.fit_form.proofs.Sets.Single.{only_code}
use Rattle.fit_form.proofs.Matrix.Proper.{singles_proper}
use Rattle.fit_form.proofs.Matrix.ThirdRival.{third_rival}

-- document 01's tree is a branching
branching_ABCD : Branching 4 tree_abcd
unfolding numbers last_node every ancestor descendants has_ancestor in_tree keep nodes_in other_nodes taxa_placed descendant_count
    descendants_wanted climbs row_one_alone nodes_only htus_in ancestors_in descendants_right all_climb grown growing_tree branching
branching_ABCD = (branching_iff tree_abcd 4 (omega arith)).0 refl

-- all characters weigh 1
abbrev alike : List ℕ
alike = 1 ∷ 1 ∷ 1 ∷ []

-- these are weights
alike-known : are_weights alike 3 ≡ true
unfolding are_weights is_weight every
alike-known = refl

-- every assignment leaves D its code -1 in character 1
taxon_kept : (states : ℕ → ℕ → ℤ) → IsAssignment (singles rows_abcd) 4 3 states → states 4 1 ≡ negsuc 0
unfolding printed
taxon_kept states h = only_code (states 4 1) (negsuc 0) (h.keeps 4 1 (omega arith) (omega arith) (omega arith) (omega arith))

-- every assignment has a total of at least 9
pub at_least_9 : (states : ℕ → ℕ → ℤ) → IsAssignment (singles rows_abcd) 4 3 states → 9 ≤ total (weighing alike).step tree_abcd 4 3 states
unfolding printed
at_least_9 states h = (third_rival alike 4 3 tree_abcd (singles rows_abcd) (omega arith) alike-known (singles_proper rows_abcd 4 3) branching_ABCD).least states h

-- #1 has a state in character 3 of an assignment of least length exactly if it is from 0 to 1
pub #1-in-character-3 : (s : ℤ) → In s (span (pos 0) (pos 1)) ↔ Occurs (weighing alike).step tree_abcd (singles rows_abcd) 4 3 5 3 s
unfolding printed
#1-in-character-3 s =
    (third_rival alike 4 3 tree_abcd (singles rows_abcd) (omega arith) alike-known (singles_proper rows_abcd 4 3) branching_ABCD
    ).ranges 5 3 s (omega arith) (unfold last_node in omega arith) (omega arith) (omega arith)
