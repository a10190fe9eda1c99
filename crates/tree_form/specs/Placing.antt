-- One placement: a taxon goes onto a growing tree, which comes out one taxon larger. All is said over any difference d of two rows, and
-- over `row_at`, which gives the row of each node: from rows that stand one behind another, or from a lent matrix.
use Rattle.std.specs.Prelude.{List, [], ◌∷◌, ℕ, zero, suc, ℤ}
use Rattle.difference_form.specs.Rows.{medians, interval_by, node_difference}
use Rattle.tree_form.specs.declared.placement.Placement.{Placement}
use Rattle.tree_form.specs.Ancestors.{ancestor}
use Rattle.tree_form.specs.Nodes.{nodes_in, other_nodes}
use Rattle.tree_form.specs.Hanging.{linked, hung, next_htu}
use Rattle.lists.specs.Least.{least_of}

-- what comes out of a placement: the tree one taxon larger, the row of the HTU made, if one is, and what was done
pub record AfterPlacing : Type 0 where
  pub tree : List ℕ
  pub made : List (List ℤ)
  pub placement : Placement

-- a placement of zeros
abbrev pub no_placement : Placement
no_placement = record { taxon = 0; lower = 0; upper = 0; htu = 0; added = 0 }

-- the median row of three nodes
unfoldable pub median_row : (ℕ → List ℤ) → ℕ → ℕ → ℕ → List ℤ
median_row row_at b c e = medians (row_at b) (row_at c) (row_at e)

module _ (d : List ℤ → List ℤ → ℕ) (row_at : ℕ → List ℤ) where
  -- the interval difference of taxon b from the interval between c and its immediate ancestor
  unfoldable pub from_interval : List ℕ → ℕ → ℕ → ℕ
  from_interval tree b c = interval_by d (row_at b) (row_at c) (row_at (ancestor tree c))

  -- taxon b linked to row 1
  unfoldable pub link_first : List ℕ → ℕ → AfterPlacing
  link_first tree b = record {
    tree = linked tree b;
    made = [];
    placement = record { taxon = b; lower = 0; upper = 1; htu = 0; added = node_difference d row_at b 1 };
  }

  module _ (n : ℕ) (tree : List ℕ) (b : ℕ) where
    -- the interval for taxon b, by its lower end: of the nodes of the tree other than row 1, by rising number, the first with the least
    -- interval difference; 0 if the tree is row 1 alone
    unfoldable pub nearest_interval : ℕ
    nearest_interval = least_of (from_interval tree b) (nodes_in tree (other_nodes n))

    -- taxon b hung on the interval between c and its immediate ancestor, through a new HTU that takes the median codes
    unfoldable pub hang : ℕ → AfterPlacing
    hang c = record {
      tree = hung tree b c (next_htu n tree);
      made = median_row row_at b c (ancestor tree c) ∷ [];
      placement = record { taxon = b; lower = c; upper = ancestor tree c; htu = next_htu n tree; added = from_interval tree b c };
    }

    -- taxon b placed on the interval with lower end c; 0: there is none
    unfoldable pub place_on : ℕ → AfterPlacing
    place_on zero = link_first tree b
    place_on (suc c) = hang (suc c)

    -- taxon b placed on its interval
    unfoldable pub place : AfterPlacing
    place = place_on nearest_interval
