-- For the layer `place_unasked` and private contracts alone: a reader has to believe `Placing.antt` of `tree_form`, and not this file. What
-- a placement without its questions does with every matrix, tree and number.
use Rattle.std.specs.Prelude.{◌≡◌, List, [], cond, ◌&&◌, ℕ, leb, ℤ}
use Rattle.matrix_form.specs.Shape.{most_taxa, most_characters, MatrixLists}
use Rattle.matrix_form.specs.NodeRows.{with_rows}
use Rattle.branching.specs.declared.placement.Placed.{Placed}
use Rattle.branching.specs.Views.{ancestors}
use Rattle.tree_form.specs.Hanging.{next_htu}
use Rattle.tree_form.specs.Placing.{AfterPlacing, no_placement}
use Rattle.branching.specs.Calls.{place_in}

-- taxon b placed on its interval; nothing is done for more than 64 taxa or more than 128 characters
unfoldable pub unasked : MatrixLists → ℕ → ℕ → List ℕ → ℕ → AfterPlacing
unasked lists n m tree b =
    cond (leb n most_taxa && leb m most_characters)
    (place_in lists n m tree b)
    (record { tree = tree; made = []; placement = no_placement })

-- what such a placement hands back, and what the matrix then holds
pub record UnaskedDone (lists : MatrixLists) (new : List ℤ) (n m : ℕ) (before : List ℕ) (b : ℕ) (r : Placed) : Type 0 where
  pub tree : ancestors r.tree ≡ (unasked lists n m before b).tree
  pub placement : r.placement ≡ (unasked lists n m before b).placement
  pub matrix : new ≡ with_rows lists.codes (next_htu n before) (unasked lists n m before b).made
