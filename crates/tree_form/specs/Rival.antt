-- The second rival (document 01, "The three rivals"): a taxon hung on any interval of the tree, through an HTU with any codes.
use Rattle.matrix_form.specs.NodeRows.{row_of}
use Rattle.std.specs.Prelude.{◌≡◌, List, [], ◌∷◌, ◌++◌, ℕ, ◌+◌, ◌≤◌, ℤ, length}
use Rattle.tree_form.specs.Ancestors.{ancestor}
use Rattle.tree_form.specs.Hanging.{hung, next_htu}
use Rattle.tree_form.specs.RowLengths.{length_under}
use Rattle.tree_form.specs.Placing.{AfterPlacing, median_row, from_interval}

module _ (d : List ℤ → List ℤ → ℕ) where
  -- the length with taxon b hung on the interval between c and its immediate ancestor, through a new HTU with row r
  unfoldable pub hung_length : ℕ → List ℕ → List (List ℤ) → ℕ → ℕ → List ℤ → ℕ
  hung_length n tree rows b c r = length_under d n (hung tree b c (next_htu n tree)) (rows ++ (r ∷ []))

-- what came out of a placement of taxon b on a tree with rows of m codes, beside all such hangings
pub record PlacementIsLeast (d : List ℤ → List ℤ → ℕ) (n m : ℕ) (tree : List ℕ) (rows : List (List ℤ)) (b : ℕ) (placed : AfterPlacing)
    : Type 0 where
  -- b was hung on an interval of the tree, through an HTU with the median codes
  pub taxon : placed.placement.taxon ≡ b
  pub upper : placed.placement.upper ≡ ancestor tree placed.placement.lower
  pub htu : placed.placement.htu ≡ next_htu n tree
  pub inside : 1 ≤ ancestor tree placed.placement.lower
  pub hangs : placed.tree ≡ hung tree b placed.placement.lower (next_htu n tree)
  pub row : placed.made ≡ median_row (row_of rows) b placed.placement.lower (ancestor tree placed.placement.lower) ∷ []
  -- with m codes, so ours is one of the hangings below
  pub own : length (median_row (row_of rows) b placed.placement.lower (ancestor tree placed.placement.lower)) ≡ m
  -- it added its interval difference, which is the length of the `W` line
  pub interval : placed.placement.added ≡ from_interval d (row_of rows) tree b placed.placement.lower
  pub adds : length_under d n placed.tree (rows ++ placed.made) ≡ length_under d n tree rows + placed.placement.added
  -- no hanging adds less
  pub least : (c : ℕ) → 1 ≤ ancestor tree c → (r : List ℤ) → length r ≡ m
      → length_under d n tree rows + placed.placement.added ≤ hung_length d n tree rows b c r
