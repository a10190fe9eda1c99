-- The rows and the length of a build: the taxa keep their rows, each HTU's row stands at its number, and the length of the finished tree
-- is the sum of the lengths that the placements added.
use mathlib.Core.Path.{◌≡◌, refl, ap, ◌∙◌}
use mathlib.Core.Logic.{◌⊎◌, inl, inr, ⊎_elim, by_cases}
use mathlib.Core.List.{List, [], ◌∷◌, ◌++◌, append-nil}
use Prim.Native.Nat.{ℕ, zero, suc, ◌+◌, ◌-◌, ◌≤◌}
use native.Mathlib.Nat.{zero-add}
use native.Mathlib.Omega.{arith}
use native.Mathlib.Decide.{dec_le}
use lib.IntN.{ℤ}
use lib.ListN.{length, length-append}
use Rattle.lists.specs.Sums.{sum_over}
use Rattle.matrix_form.specs.NodeRows.{row_of}
use Rattle.tree_form.specs.Ancestors.{ancestor}
use Rattle.tree_form.specs.Facts.{GrowingTree, alone, several}
use Rattle.tree_form.specs.Nodes.{Unplaced}
use Rattle.tree_form.specs.Hanging.{only_row_one}
use Rattle.tree_form.proofs.Nodes.{only_row_one-none, only_row_one-size}
use Rattle.tree_form.proofs.Test.{growing-placed}
use Rattle.tree_form.proofs.Lengths.{alone-length}
use Rattle.difference_form.specs.Rows.{node_difference}
use Rattle.tree_form.specs.RowLengths.{length_under}
use Rattle.tree_form.specs.Placing.{AfterPlacing, median_row, nearest_interval, place}
use Rattle.wagner_form.specs.Build.{Built, added_length, build_on, build}
use Rattle.tree_form.proofs.Placing.{made-first, made-later, nearest_node, place_grows, place-size}
use Rattle.wagner_form.proofs.Whole.{Chooses}
use Rattle.tree_form.proofs.RowLengths.{MedianLaws, OfLength, Growth, row_of_old, row_of_new, median_row_sized, place-added}

-- a row of m codes more
rows_more : (m : ℕ) (rows : List (List ℤ)) (r : List ℤ) → OfLength m rows → length r ≡ m → OfLength m (rows ++ (r ∷ []))
rows_more m rows r each long v l h =
    by_cases
    (dec_le v (length rows))
    (λ old. ap length (row_of_old rows r v l old) ∙ each v l old)
    (λ new. ap length (row_of_new rows r v (omega (arith, length-append rows (r ∷ [])))) ∙ long)

-- the rows after a placement: those before, and behind them the HTU's
module _ (d : List ℤ → List ℤ → ℕ) (n m k : ℕ) (tree : List ℕ) (rows : List (List ℤ)) (g : Growth n m k tree rows) (laws : MedianLaws d m)
    (b : ℕ) (u : Unplaced n tree b) where
  -- what comes out of the placement
  abbrev placed : AfterPlacing
  placed = place d (row_of rows) n tree b

  -- the rows are those before, and after the first link the HTU's behind them
  rows_after : ((placed.made ≡ []) × (k ≡ 1)) ⊎ ((r : List ℤ) × (placed.made ≡ r ∷ []) × (length r ≡ m) × (2 ≤ k))
  rows_after = go g.growing g.full
    where
      go : {j : ℕ} → GrowingTree n tree j → length rows ≡ n + (j - 2)
          → ((placed.made ≡ []) × (j ≡ 1)) ⊎ ((r : List ℤ) × (placed.made ≡ r ∷ []) × (length r ≡ m) × (2 ≤ j))
      go (alone none) full = inl (made-first d n tree (row_of rows) b none, refl)
      go (several {k = j} h) full =
          let c : ℕ = nearest_interval d (row_of rows) n tree b in
          let inside = (nearest_node d n tree (row_of rows) b j h).1 in
          inr (
            median_row (row_of rows) b c (ancestor tree c),
            made-later d n tree (row_of rows) b j h,
            median_row_sized d n j tree rows h g.room (omega (arith, h.at_least_two)) b u m laws g.each c inside,
            h.at_least_two,
          )

  -- the taxon placed, the tree has one taxon more, and each of its nodes has a row
  pub place_growth : Growth n m (suc k) placed.tree (rows ++ placed.made)
  place_growth =
      record {
        growing = place_grows d n tree (row_of rows) b g.growing g.room u;
        room = rw (place-size d n tree (row_of rows) b) g.room;
        full = ⊎_elim (λ same. omega (arith, length-append rows placed.made, ap length same.0, same.1, g.full)) full-more rows_after;
        each = ⊎_elim (λ same. rw (same.0, append-nil rows) g.each) (λ more. rw more.1 (rows_more m rows more.0 g.each more.2)) rows_after;
      }
    where
      full-more : ((r : List ℤ) × (placed.made ≡ r ∷ []) × (length r ≡ m) × (2 ≤ k)) → length (rows ++ placed.made) ≡ n + (suc k - 2)
      full-more more = omega (arith, ap length more.1, length-append rows placed.made, more.3, g.full)

  -- no row is changed
  pub place-rows : (v : ℕ) → 1 ≤ v → v ≤ length rows → row_of (rows ++ placed.made) v ≡ row_of rows v
  place-rows v l h =
      ⊎_elim
      (λ same. ap (λ (made : List (List ℤ)). row_of (rows ++ made) v) same.0 ∙ ap (λ (all : List (List ℤ)). row_of all v) (append-nil rows))
      (λ more. ap (λ (made : List (List ℤ)). row_of (rows ++ made) v) more.1 ∙ row_of_old rows more.0 v l h)
      rows_after

-- what a build comes to, from a growing tree with k taxa to one with all those placed
pub record Sound (d : List ℤ → List ℤ → ℕ) (n m k : ℕ) (tree : List ℕ) (rows : List (List ℤ)) (built : Built) : Type 0 where
  pub growth : Growth n m k built.tree built.rows
  -- no row is changed
  pub kept : (v : ℕ) → 1 ≤ v → v ≤ length rows → row_of built.rows v ≡ row_of rows v
  -- the length of the tree is the length before and the lengths added
  pub total : length_under d n built.tree built.rows
      ≡ length_under d n tree rows + added_length built.placements

module _ (d : List ℤ → List ℤ → ℕ) (next : ℕ → List ℕ → List (List ℤ) → ℕ) (n m : ℕ) (taxa : 1 ≤ n) (chooses : Chooses next n)
    (laws : MedianLaws d m) where
  -- so many placements in turn
  pub build_on_sound : (count k : ℕ) (tree : List ℕ) (rows : List (List ℤ)) → Growth n m k tree rows → count + k ≤ n
      → Sound d n m (count + k) tree rows (build_on d next n count tree rows)
  unfolding build_on added_length sum_over
  build_on_sound zero k tree rows g h = record { growth = rw zero-add g; kept = λ v l h. refl; total = omega arith }
  build_on_sound (suc count) k tree rows g h =
      let b : ℕ = next n tree rows in
      let placed : AfterPlacing = place d (row_of rows) n tree b in
      let chosen = chooses tree rows (omega (arith, growing-placed tree n taxa g.growing)) in
      let after = place_growth d n m k tree rows g laws b chosen in
      let rest = build_on_sound count (suc k) placed.tree (rows ++ placed.made) after (omega arith) in
      let adds = place-added d n m k tree rows g laws b chosen in
      let same : suc count + k ≡ count + suc k = omega arith in
      record {
        growth = rw same rest.growth;
        kept = λ v l h. rest.kept v l (omega (arith, after.full, g.full)) ∙ place-rows d n m k tree rows g laws b chosen v l h;
        total = omega (arith, rest.total, adds);
      }

  module _ (most : n ≤ 64) (rows : List (List ℤ)) (all : length rows ≡ n) (each : OfLength m rows) where
    -- a whole build starts from row 1 alone
    pub build_sound : Sound d n m n only_row_one rows (build d next n rows)
    unfolding build
    build_sound =
        let start : Growth n m 1 only_row_one rows =
        record { growing = alone only_row_one-none; room = rw only_row_one-size (omega arith); full = omega arith; each = each } in
        let same : n - 1 + 1 ≡ n = omega arith in
        rw same at (build_on_sound (n - 1) 1 only_row_one rows start (omega arith))

    -- the length of the finished tree is the sum of the lengths added
    pub build-length : length_under d n (build d next n rows).tree (build d next n rows).rows
        ≡ added_length (build d next n rows).placements
    unfolding length_under
    build-length = omega (arith, build_sound.total, alone-length (node_difference d (row_of rows)) n only_row_one only_row_one-none)
