-- What a placement on a tree handed in hands back, and what the lent matrix then holds.
use Rattle.std.specs.Prelude.{◌≡◌, List, ℕ, ℤ, Result, Ok, Err}
use Rattle.matrix_form.specs.Shape.{row, MatrixLists}
use Rattle.matrix_form.specs.NodeRows.{with_rows}
use Rattle.matrix_form.specs.Refusals.{refusal_number}
use Rattle.matrix_form.specs.Outcomes.{Outcome, value, refused, answered, asked_says, afterwards}
use Rattle.difference_form.specs.Rows.{difference}
use Rattle.branching.specs.declared.tree.Tree.{Tree}
use Rattle.tree_form.specs.declared.placement.Placement.{Placement}
use Rattle.branching.specs.declared.placement.Placed.{Placed}
use Rattle.branching.specs.declared.placement.NotPlaced.{NotPlaced}
use Rattle.branching.specs.Views.{ancestors}
use Rattle.tree_form.specs.Hanging.{next_htu}
use Rattle.tree_form.specs.Asking.{ask_placement}
use Rattle.tree_form.specs.Placing.{AfterPlacing, place}

-- the placement of taxon b, by the rows of the matrix and the weights of the characters
unfoldable pub place_in : MatrixLists → ℕ → ℕ → List ℕ → ℕ → AfterPlacing
place_in lists n m tree b = place (difference lists.weights) (row lists.codes m) n tree b

-- the matrix after it: the row of the HTU made, if one is, is written into its node's row
unfoldable pub matrix_placed : MatrixLists → ℕ → ℕ → List ℕ → ℕ → List ℤ
matrix_placed lists n m tree b = with_rows lists.codes (next_htu n tree) (place_in lists n m tree b).made

-- what the questions of the placement say
unfoldable pub placement_says : MatrixLists → ℕ → ℕ → List ℕ → ℕ → Outcome (Unit {0})
placement_says lists n m tree b = asked_says (ask_placement lists n m tree b)

-- what is handed back says: the placement, or the number of the refusal
abbrev pub placed_says : Result Placed NotPlaced → Outcome Placement
placed_says (Ok placed) = value placed.placement
placed_says (Err kept) = refused (refusal_number kept.refusal) 0

-- the tree that is handed back
abbrev pub tree_back : Result Placed NotPlaced → Tree
tree_back (Ok placed) = placed.tree
tree_back (Err kept) = kept.tree

-- the answer: what the questions say, and where they pass what was done; the tree one taxon larger, and the matrix with the HTU's row; on a
-- refusal the tree and the matrix are as before
pub record PlacementDone (lists : MatrixLists) (new : List ℤ) (n m : ℕ) (before : List ℕ) (b : ℕ)
    (r : Result Placed NotPlaced) : Type 0 where
  pub says : placed_says r ≡ answered (ask_placement lists n m before b) (place_in lists n m before b).placement
  pub tree : ancestors (tree_back r)
      ≡ afterwards (placement_says lists n m before b) (place_in lists n m before b).tree before
  pub matrix : new ≡ afterwards (placement_says lists n m before b) (matrix_placed lists n m before b) lists.codes
