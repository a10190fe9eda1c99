-- The whole build: from row 1 alone, taxon after taxon is placed until all n are in the tree.
use Rattle.std.specs.Prelude.{List, [], ◌∷◌, ◌++◌, ℕ, zero, suc, ◌-◌, ℤ}
use Rattle.difference_form.specs.Rows.{node_difference}
use Rattle.matrix_form.specs.NodeRows.{row_of}
use Rattle.tree_form.specs.declared.placement.Placement.{Placement}
use Rattle.tree_form.specs.declared.branch.Branch.{Branch}
use Rattle.tree_form.specs.Hanging.{only_row_one}
use Rattle.tree_form.specs.Branches.{branch_records}
use Rattle.lists.specs.Sums.{sum_over}
use Rattle.tree_form.specs.RowLengths.{length_under}
use Rattle.tree_form.specs.Placing.{AfterPlacing, place}
use Rattle.tree_form.specs.declared.order.Order.{Order}
use Rattle.wagner_form.specs.Next.{next_by}

-- what comes out of a build: the tree, the rows of all nodes, and the placements in order
pub record Built : Type 0 where
  pub tree : List ℕ
  pub rows : List (List ℤ)
  pub placements : List Placement

-- the lengths that placements added, together
unfoldable pub added_length : List Placement → ℕ
added_length placements = sum_over (λ (p : Placement). p.added) placements

-- `next` says, of n, a growing tree and its rows, which taxon is placed next
module _ (d : List ℤ → List ℤ → ℕ) (next : ℕ → List ℕ → List (List ℤ) → ℕ) where
  -- so many placements in turn
  unfoldable pub build_on : ℕ → ℕ → List ℕ → List (List ℤ) → Built
  build_on n zero tree rows = record { tree = tree; rows = rows; placements = [] }
  build_on n (suc count) tree rows =
      let placed : AfterPlacing = place d (row_of rows) n tree (next n tree rows) in
      let rest : Built = build_on n count placed.tree (rows ++ placed.made) in
      record { tree = rest.tree; rows = rest.rows; placements = placed.placement ∷ rest.placements }

  -- the build of all n taxa
  unfoldable pub build : ℕ → List (List ℤ) → Built
  build n rows = build_on n (n - 1) only_row_one rows

module _ (d : List ℤ → List ℤ → ℕ) where
  -- the Wagner tree of n rows, in an order of placing
  unfoldable pub wagner : Order → ℕ → List (List ℤ) → Built
  wagner order n rows = build d (next_by d order) n rows

  -- the length of a finished tree under the median codes
  unfoldable pub wagner_length : ℕ → Built → ℕ
  wagner_length n built = length_under d n built.tree built.rows

  -- the finished tree as branch records
  unfoldable pub wagner_branches : ℕ → Built → List Branch
  wagner_branches n built = branch_records (node_difference d (row_of built.rows)) n built.tree
