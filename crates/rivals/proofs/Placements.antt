-- Placements on trees handed in, and those of our own build.
use mathlib.Core.Path.{◌≡◌, sym, ◌∙◌}
use mathlib.Core.Bool.{false, true≢false}
use mathlib.Core.List.{List, ◌++◌, append-nil}
use Prim.Native.Nat.{ℕ, zero, suc, ◌+◌, ◌-◌, ◌≤◌}
use native.Mathlib.Omega.{arith}
use lib.IntN.{ℤ}
use lib.ListN.{length, length-append}
use Rattle.matrix_form.specs.NodeRows.{row_of}
use Rattle.lists.specs.Numbers.{numbers}
use Rattle.lists.proofs.Least.{least_of_le}
use Rattle.difference_form.specs.Rows.{difference}
use Rattle.tree_form.specs.Growing.{row_one_alone}
use Rattle.tree_form.specs.Facts.{GrowingTree, alone, several, Grown}
use Rattle.tree_form.specs.Nodes.{nodes_out, Unplaced, taxa_placed}
use Rattle.tree_form.specs.Hanging.{only_row_one}
use Rattle.tree_form.proofs.Nodes.{only_row_one-none, only_row_one-size}
use Rattle.tree_form.proofs.Test.{alone_iff, growing-fact, growing-placed}
use Rattle.tree_form.specs.Placing.{link_first, place}
use Rattle.tree_form.proofs.Placing.{made-first, place-first}
use Rattle.tree_form.specs.Ancestors.{ancestor}
use Rattle.tree_form.specs.RowLengths.{length_under}
use Rattle.tree_form.specs.Rival.{hung_length, PlacementIsLeast}
use Rattle.tree_form.proofs.Counts.{taxon-unplaced}
use Rattle.tree_form.specs.declared.order.Order.{Order}
use Rattle.tree_form.specs.declared.order.Order.TheVariants.{Closest}
use Rattle.wagner_form.specs.Next.{by_closeness, next_by}
use Rattle.wagner_form.specs.Build.{build_on, build, wagner}
use Rattle.wagner_form.proofs.Closest.{adds, closeness_least}
use Rattle.wagner_form.proofs.First.{first_nearest}
use Rattle.wagner_form.proofs.Whole.{order_chooses}
use Rattle.wagner_form.proofs.BuildLength.{place_growth}
use Rattle.tree_form.proofs.Rival.{difference_laws, placement-least}
use Rattle.tree_form.proofs.RowLengths.{Growth}
use Rattle.rivals.specs.Accepted.{HandedIn}
use Rattle.rivals.specs.Demand.{NoTaxonAddsLess, EachIsLeast, done, more, NoTaxonNearer, BuildIsLeast, one_taxon, several_taxa}
use Rattle.rivals.proofs.Rows.{MatrixRows, rows_sized, rows_append}

-- a growing tree of at least two taxa is a tree of several
several_of : {n k : ℕ} {tree : List ℕ} → 2 ≤ k → GrowingTree n tree k → Grown n k tree
several_of two (alone none) = absurd (omega arith)
several_of two (several g) = g

-- and one that is not row 1 alone has at least two
has_several : {n k : ℕ} {tree : List ℕ} → row_one_alone tree ≡ false → GrowingTree n tree k → 2 ≤ k
has_several {tree} more-than-row-1 (alone none) = absurd (true≢false (sym ((alone_iff tree).1 none) ∙ more-than-row-1))
has_several more-than-row-1 (several g) = g.at_least_two

module _ (weights : List ℕ) (n m : ℕ) (taxa : 1 ≤ n) (most : n ≤ 64) where
  -- a growing tree of at least two taxa, with a row for each node: a placement on it is least
  growth_least : (k : ℕ) (tree : List ℕ) (rows : List (List ℤ)) → Growth n m k tree rows → 2 ≤ k → (b : ℕ) → Unplaced n tree b
      → PlacementIsLeast (difference weights) n m tree rows b (place (difference weights) (row_of rows) n tree b)
  growth_least k tree rows g two b u =
      let full : length rows ≡ n + k - 2 = omega (arith, g.full) in
      placement-least weights n m k tree rows (several_of two g.growing) g.room full g.each b u

  -- a tree handed in for accepted rows, as a growing tree with its rows
  handed_growth : (rows : List (List ℤ)) → MatrixRows n m weights rows → (tree : List ℕ) (htus : List (List ℤ)) → HandedIn n m tree htus
      → Growth n m (taxa_placed n tree) tree (rows ++ htus)
  handed_growth rows a tree htus h =
      record {
        growing = growing-fact tree n taxa h.growing;
        room = omega (arith, h.sized);
        full = omega (arith, length-append rows htus, a.count, h.count);
        each = rows_sized m (rows ++ htus) (rows_append m rows htus a.codes h.codes);
      }

  -- so a placement on a tree handed in is least
  pub handed-least : (rows : List (List ℤ)) → MatrixRows n m weights rows → (tree : List ℕ) (htus : List (List ℤ)) → HandedIn n m tree htus
      → (b : ℕ) → Unplaced n tree b
      → PlacementIsLeast (difference weights) n m tree (rows ++ htus) b (place (difference weights) (row_of (rows ++ htus)) n tree b)
  handed-least rows a tree htus h b u =
      let growth = handed_growth rows a tree htus h in
      growth_least _ tree (rows ++ htus) growth (has_several h.intervals growth.growing) b u

  -- by closeness, no hanging of any taxon that is not placed adds less than the placement of the next one
  closest_least : (k : ℕ) (tree : List ℕ) (rows : List (List ℤ)) → Growth n m k tree rows → 2 ≤ k
      → NoTaxonAddsLess (difference weights) n m tree rows (place (difference weights) (row_of rows) n tree (by_closeness (difference weights) n tree rows))
  closest_least k tree rows g two = record { least = λ b u c inside r long. least b u c inside r long }
    where
      least : (b : ℕ) → Unplaced n tree b → (c : ℕ) → 1 ≤ ancestor tree c → (r : List ℤ) → length r ≡ m
          → length_under (difference weights) n tree rows + (place (difference weights) (row_of rows) n tree (by_closeness (difference weights) n tree rows)).placement.added
          ≤ hung_length (difference weights) n tree rows b c r
      least b u c inside r long =
          let next : (place (difference weights) (row_of rows) n tree (by_closeness (difference weights) n tree rows)).placement.added
          ≤ (place (difference weights) (row_of rows) n tree b).placement.added =
          rw (closeness_least (difference weights) n tree rows)
          (least_of_le (adds (difference weights) n tree rows) (nodes_out tree (numbers 1 n)) b (taxon-unplaced n tree b u)) in
          omega (arith, next, (growth_least k tree rows g two b u).least c inside r long)

  module _ (order : Order) where
    -- the next taxon
    abbrev next : ℕ → List ℕ → List (List ℤ) → ℕ
    next = next_by (difference weights) order

    -- in the order `closest`, none adds less than its placement
    next-least : (k : ℕ) (tree : List ℕ) (rows : List (List ℤ)) → Growth n m k tree rows → 2 ≤ k → order ≡ Closest
        → NoTaxonAddsLess (difference weights) n m tree rows (place (difference weights) (row_of rows) n tree (next n tree rows))
    unfolding next_by
    next-least k tree rows g two is = rw is (closest_least k tree rows g two)

    -- each placement of a build from a growing tree of at least two taxa on
    each-least : (count k : ℕ) (tree : List ℕ) (rows : List (List ℤ)) → Growth n m k tree rows → 2 ≤ k → count + k ≤ n
        → EachIsLeast order (difference weights) n m tree rows
        (build_on (difference weights) next n count tree rows).placements
        (build_on (difference weights) next n count tree rows).tree
        (build_on (difference weights) next n count tree rows).rows
    unfolding build_on
    each-least zero k tree rows g two h = done
    each-least (suc count) k tree rows g two h =
        let b : ℕ = next n tree rows in
        let chosen : Unplaced n tree b =
        order_chooses (difference weights) order n tree rows (omega (arith, growing-placed tree n taxa g.growing)) in
        more b (place (difference weights) (row_of rows) n tree b) chosen (growth_least k tree rows g two b chosen) (next-least k tree rows g two)
        (each-least count (suc k) _ _ (place_growth (difference weights) n m k tree rows g (difference_laws weights m) b chosen) (omega arith) (omega arith))

    -- a whole build, so many placements from row 1 alone
    build_least : (count : ℕ) (rows : List (List ℤ)) → Growth n m 1 only_row_one rows → count + 1 ≡ n
        → BuildIsLeast order (difference weights) n m rows (build_on (difference weights) next n count only_row_one rows)
    unfolding build_on link_first
    build_least zero rows g e = one_taxon (sym e)
    build_least (suc count) rows g e =
        let b : ℕ = next n only_row_one rows in
        let chosen : Unplaced n only_row_one b =
        order_chooses (difference weights) order n only_row_one rows (omega (arith, growing-placed only_row_one n taxa g.growing)) in
        let first = place-first (difference weights) n only_row_one (row_of rows) b only_row_one-none in
        let none = made-first (difference weights) n only_row_one (row_of rows) b only_row_one-none in
        let after = rw (none, append-nil rows, first) at (place_growth (difference weights) n m 1 only_row_one rows g (difference_laws weights m) b chosen) in
        let nearest : NoTaxonNearer (difference weights) n rows b =
        record { nearest = first_nearest (difference weights) n rows order } in
        rw (none, append-nil rows, first) (several_taxa b chosen nearest (each-least count 2 _ _ after (omega arith) (omega arith)))

    -- the build of the Wagner tree
    pub wagner-least : (rows : List (List ℤ)) → MatrixRows n m weights rows
        → BuildIsLeast order (difference weights) n m rows (wagner (difference weights) order n rows)
    unfolding wagner build
    wagner-least rows a =
        let start : Growth n m 1 only_row_one rows =
        record {
          growing = alone only_row_one-none;
          room = rw only_row_one-size (omega arith);
          full = omega (arith, a.count);
          each = rows_sized m rows a.codes;
        } in
        build_least (n - 1) rows start (omega arith)
