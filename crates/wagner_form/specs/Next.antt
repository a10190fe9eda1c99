-- Which taxon is placed next: by advancement (document 01, "The Wagner tree") or by closeness (document 02, M-100).
use Rattle.std.specs.Prelude.{List, [], ◌∷◌, ℕ, ℤ}
use Rattle.lists.specs.Least.{first_least, least_of}
use Rattle.lists.specs.Numbers.{numbers}
use Rattle.lists.specs.Pairs.{pairs}
use Rattle.matrix_form.specs.NodeRows.{row_of}
use Rattle.difference_form.specs.Rows.{node_difference}
use Rattle.tree_form.specs.Nodes.{nodes_in, nodes_out, other_nodes}
use Rattle.tree_form.specs.Placing.{from_interval}
use Rattle.tree_form.specs.declared.order.Order.{Order}
use Rattle.tree_form.specs.declared.order.Order.TheVariants.{Advance, Closest}

-- every unplaced taxon with every interval of the tree, which its lower end names: by rising row of the taxon, then by rising lower end
unfoldable pub hangings : ℕ → List ℕ → List (ℕ × ℕ)
hangings n tree = pairs (nodes_out tree (numbers 1 n)) (nodes_in tree (other_nodes n))

-- of pairs of a taxon and an interval, the taxon of the first with the least key; where there is no pair, another taxon
unfoldable pub taxon_of : (ℕ × ℕ → ℕ) → List (ℕ × ℕ) → ℕ → ℕ
taxon_of key [] other = other
taxon_of key (pair ∷ others) other = (first_least key pair others).0

module _ (d : List ℤ → List ℤ → ℕ) where
  -- the advancement of a taxon: its difference from row 1
  unfoldable pub advancement : List (List ℤ) → ℕ → ℕ
  advancement rows b = node_difference d (row_of rows) b 1

  -- the next taxon by advancement: of the taxa not yet placed, by rising row, the first with the least advancement
  unfoldable pub by_advancement : ℕ → List ℕ → List (List ℤ) → ℕ
  by_advancement n tree rows = least_of (advancement rows) (nodes_out tree (numbers 1 n))

  -- the next taxon by closeness: that of the pair of an unplaced taxon and an interval with the least interval difference, the lower row
  -- among equals, then the lower end's lower number; while there is no interval, the next by advancement
  unfoldable pub by_closeness : ℕ → List ℕ → List (List ℤ) → ℕ
  by_closeness n tree rows =
      taxon_of (λ (pair : ℕ × ℕ). from_interval d (row_of rows) tree pair.0 pair.1) (hangings n tree) (by_advancement n tree rows)

  -- the next taxon in an order of placing
  unfoldable pub next_by : Order → ℕ → List ℕ → List (List ℤ) → ℕ
  next_by Advance = by_advancement
  next_by Closest = by_closeness
