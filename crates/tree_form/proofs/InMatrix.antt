-- The placement by the rows of a lent matrix is the one by the list of the rows of the tree's nodes.
use mathlib.Core.Path.{◌≡◌, refl, sym}
use mathlib.Core.Logic.{⊎_elim}
use mathlib.Core.List.{List}
use Prim.Native.Nat.{ℕ, ◌+◌, ◌-◌, ◌≤◌}
use native.Mathlib.Omega.{arith}
use lib.IntN.{ℤ}
use Rattle.matrix_form.specs.Shape.{row}
use Rattle.matrix_form.specs.NodeRows.{row_of, rows_of}
use Rattle.matrix_form.proofs.NodeRows.{row_of-rows_of}
use Rattle.difference_form.specs.Rows.{node_difference}
use Rattle.tree_form.specs.Ancestors.{ancestor}
use Rattle.tree_form.specs.Nodes.{Unplaced, last_row}
use Rattle.tree_form.specs.Facts.{Grown, GrowingTree, alone, several}
use Rattle.tree_form.specs.Placing.{median_row, from_interval, place}
use Rattle.tree_form.proofs.Placing.{place_same}

-- a node of the tree other than node 1 has a row, and so has its immediate ancestor
pub ends_within : (n k : ℕ) (tree : List ℕ) → Grown n k tree → (c : ℕ) → 1 ≤ ancestor tree c
    → (1 ≤ c) × (c ≤ last_row n tree) × (ancestor tree c ≤ last_row n tree)
unfolding last_row
ends_within n k tree g c inside =
    let w = g.nodes_only c inside in
    let upper : ancestor tree c ≤ n + k - 2 =
    ⊎_elim (λ e. omega (arith, g.at_least_two)) (λ a. (g.nodes_only (ancestor tree c) a).1) (g.ancestors_in c inside) in
    (omega arith, omega (arith, g.placed, g.at_least_two), omega (arith, g.placed, g.at_least_two))

module _ (d : List ℤ → List ℤ → ℕ) (codes : List ℤ) (n m : ℕ) (tree : List ℕ) (b : ℕ) where
  -- the placement is the one by the rows of the tree's nodes, put into a list
  pub by_list : {k : ℕ} → GrowingTree n tree k → Unplaced n tree b
      → place d (row codes m) n tree b ≡ place d (row_of (rows_of codes m (last_row n tree))) n tree b
  unfolding node_difference from_interval median_row
  by_list g u =
      let taxon = same b (omega (arith, u.other)) (rows-of-taxa b u.taxon) in
      let one = same 1 (omega arith) (rows-of-taxa 1 (omega (arith, u.other, u.taxon))) in
      place_same d d (row codes m) (row_of (rows_of codes m (last_row n tree))) n tree b
      (rw (taxon, one) refl)
      (λ c low inside.
      let ends = within g c inside in
      let lower = same c ends.0 ends.1 in
      let upper = same (ancestor tree c) inside ends.2 in
      (cc, cc))
    where
      same : (v : ℕ) → 1 ≤ v → v ≤ last_row n tree → row codes m v ≡ row_of (rows_of codes m (last_row n tree)) v
      same v low high = sym (row_of-rows_of codes m (last_row n tree) v low high)

      rows-of-taxa : (v : ℕ) → v ≤ n → v ≤ last_row n tree
      rows-of-taxa v high = unfold last_row in omega arith

      within : {k : ℕ} → GrowingTree n tree k → (c : ℕ) → 1 ≤ ancestor tree c
          → (1 ≤ c) × (c ≤ last_row n tree) × (ancestor tree c ≤ last_row n tree)
      within (alone none) c inside = absurd (omega (arith, none c))
      within (several {k = k} g) c inside = ends_within n k tree g c inside
