-- Our placement is one of the hangings, adds its interval difference, and none adds less.
use mathlib.Core.Path.{◌≡◌, ◌∙◌, sym}
use mathlib.Core.List.{List}
use Prim.Native.Nat.{ℕ, ◌+◌, ◌*◌, ◌-◌, ◌<◌}
use native.Mathlib.Omega.{arith}
use lib.IntN.{ℤ}
use lib.ListN.{length}
use Rattle.matrix_form.specs.NodeRows.{row_of}
use Rattle.difference_form.specs.Rows.{interval_by, difference}
use Rattle.difference_form.proofs.Laws.Rows.{difference-sym, medians-length, interval-least, interval_equal}
use Rattle.tree_form.specs.Facts.{Grown, several}
use Rattle.tree_form.specs.Nodes.{Unplaced}
use Rattle.tree_form.specs.Hanging.{next_htu}
use Rattle.tree_form.specs.Placing.{hang, place}
use Rattle.tree_form.specs.Rival.{hung_length, PlacementIsLeast}
use Rattle.tree_form.proofs.Placing.{place-later, nearest_node}
use Rattle.tree_form.proofs.RowLengths.{MedianLaws, OfLength, Growth, place-added, median_row_sized, place-least}

-- on a growing tree of several taxa, with rows of m codes of all its nodes and of the taxa
pub second_rival : (d : List ℤ → List ℤ → ℕ) (n m k : ℕ) (tree : List ℕ) (rows : List (List ℤ)) → MedianLaws d m → Grown n k tree
    → 2 * n - 2 < length tree → length rows ≡ n + k - 2 → OfLength m rows → (b : ℕ) → Unplaced n tree b
    → PlacementIsLeast d n m tree rows b (place d (row_of rows) n tree b)
unfolding hang hung_length next_htu
second_rival d n m k tree rows laws g room full each b u =
    let later = place-later d n tree (row_of rows) b k g in
    let growth : Growth n m k tree rows = record { growing = several g; room = room; full = omega (arith, g.at_least_two); each = each } in
    let adds = place-added d n m k tree rows growth laws b u in
    record {
      taxon = rw later;
      upper = rw later;
      htu = rw later;
      inside = rw later (nearest_node d n tree (row_of rows) b k g).1;
      hangs = rw later;
      row = rw later;
      own = rw later (median_row_sized d n k tree rows g room full b u m laws each _ (nearest_node d n tree (row_of rows) b k g).1);
      interval = rw later;
      adds = adds;
      least = λ c inside r long.
          rw g.placed (omega (arith, adds, place-least d n k tree rows g room full b u m laws each c inside r long));
    }

-- the laws of medians for the weighted difference of rows of m codes
pub difference_laws : (weights : List ℕ) (m : ℕ) → MedianLaws (difference weights) m
unfolding interval_by
difference_laws weights m =
    record {
      symmetric = difference-sym weights;
      sized = λ b c e hb hc he. medians-length b c e (hb ∙ sym hc) (hc ∙ sym he) ∙ hb;
      least = λ b c e y hb hc he hy. interval-least weights b c e (hb ∙ sym hc) (hc ∙ sym he) y (hy ∙ sym hb);
      equal = λ b c e hb hc he. interval_equal weights b c e (hb ∙ sym hc) (hc ∙ sym he);
    }

-- our placement is one of the hangings and none adds less, for every growing tree of several taxa that is handed in
pub placement-least : (weights : List ℕ) (n m k : ℕ) (tree : List ℕ) (rows : List (List ℤ)) → Grown n k tree → 2 * n - 2 < length tree
    → length rows ≡ n + k - 2 → OfLength m rows → (b : ℕ) → Unplaced n tree b
    → PlacementIsLeast (difference weights) n m tree rows b (place (difference weights) (row_of rows) n tree b)
placement-least weights n m k tree rows = second_rival (difference weights) n m k tree rows (difference_laws weights m)
