-- What a placement writes into a lent matrix.
use mathlib.Core.Path.{◌≡◌, refl, ap, ap₂, ◌∙◌}
use mathlib.Core.List.{List, [], ◌∷◌}
use Prim.Native.Nat.{ℕ, suc}
use native.Mathlib.Omega.{arith}
use lib.IntN.{ℤ}
use Rattle.lists.specs.Over.{stripes}
use Rattle.matrix_form.specs.Shape.{row, MatrixLists}
use Rattle.matrix_form.specs.NodeRows.{with_row, with_rows}
use Rattle.difference_form.specs.Rows.{difference}
use Rattle.tree_form.specs.Ancestors.{ancestor}
use Rattle.tree_form.specs.Nodes.{last_row}
use Rattle.tree_form.specs.Facts.{Grown}
use Rattle.tree_form.specs.Hanging.{next_htu}
use Rattle.tree_form.specs.Placing.{median_row}
use Rattle.tree_form.proofs.Placing.{made-first, made-later}
use Rattle.branching.specs.Nearest.{nearest_lower}
use Rattle.branching.specs.Calls.{place_in, matrix_placed}

-- one row written
pub one-row : (codes : List ℤ) (v : ℕ) (r : List ℤ) → with_rows codes v (r ∷ []) ≡ with_row codes v r
unfolding with_rows with_row stripes
one-row codes v r = refl

-- no row written
pub no_row : (codes : List ℤ) (v : ℕ) → with_rows codes v [] ≡ codes
unfolding with_rows stripes
no_row codes v = refl

module _ (lists : MatrixLists) (n m : ℕ) (tree : List ℕ) (b : ℕ) where
  -- on row 1 alone the matrix is as before
  pub written_first : ((v : ℕ) → ancestor tree v ≡ 0) → matrix_placed lists n m tree b ≡ lists.codes
  unfolding place_in matrix_placed
  written_first none =
      ap (with_rows lists.codes (next_htu n tree)) (made-first (difference lists.weights) n tree (row lists.codes m) b none)
      ∙ no_row lists.codes (next_htu n tree)

  module _ (k : ℕ) (g : Grown n k tree) where
    -- in a tree of several taxa the next HTU is the node behind the last one
    pub next_row : next_htu n tree ≡ suc (last_row n tree)
    unfolding next_htu last_row
    next_row = omega (arith, g.placed, g.at_least_two)

    -- and its row is written into the row behind the others
    pub written_later : matrix_placed lists n m tree b
        ≡ with_row lists.codes (suc (last_row n tree))
        (median_row (row lists.codes m) b (nearest_lower lists n m tree b) (ancestor tree (nearest_lower lists n m tree b)))
    unfolding place_in matrix_placed
    written_later =
        ap₂ (with_rows lists.codes) next_row (made-later (difference lists.weights) n tree (row lists.codes m) b k g)
        ∙ one-row lists.codes (suc (last_row n tree)) _
