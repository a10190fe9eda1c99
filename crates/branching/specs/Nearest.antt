-- For the proofs of the private functions alone; no public contract cites this file.
-- The nearest interval that is found, and what the two ways to place a taxon promise.
use Rattle.std.specs.Prelude.{◌≡◌, List, ℕ, ◌≤◌, ℤ, Option, MatchOption}
use Rattle.matrix_form.specs.Shape.{row, MatrixLists}
use Rattle.matrix_form.specs.NodeRows.{with_rows}
use Rattle.difference_form.specs.Rows.{difference}
use Rattle.tree_form.specs.Placing.{AfterPlacing, nearest_interval}
use Rattle.branching.specs.declared.placement.Placed.{Placed}
use Rattle.branching.specs.Views.{ancestors}

-- the lower end of the nearest interval, by the rows of a lent matrix
abbrev pub nearest_lower : MatrixLists → ℕ → ℕ → List ℕ → ℕ → ℕ
nearest_lower lists n m tree b = nearest_interval (difference lists.weights) (row lists.codes m) n tree b

-- r is the nearest interval of a tree, by its lower end, and none if no node other than row 1 is in the tree
abbrev pub NearestOf : MatrixLists → ℕ → ℕ → List ℕ → ℕ → Option ℕ → Type 0
NearestOf lists n m tree b r =
    MatchOption r (nearest_lower lists n m tree b ≡ 0) (λ c. (1 ≤ c) × (c ≡ nearest_lower lists n m tree b))

-- what is handed back and what the matrix then holds are what a placement leaves; the row made is that of node `htu`
pub record Leaves (after : AfterPlacing) (htu : ℕ) (old new : List ℤ) (r : Placed) : Type 0 where
  pub tree : ancestors r.tree ≡ after.tree
  pub placement : r.placement ≡ after.placement
  pub matrix : new ≡ with_rows old htu after.made
