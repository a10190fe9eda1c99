-- A build under way: what is placed, what the matrix holds, and that what is left of the build goes on from there.
use mathlib.Core.Path.{◌≡◌, sym, ap, ◌∙◌}
use Rattle.lists.specs.Least.{least_of}
use Rattle.lists.specs.Numbers.{numbers}
use Rattle.matrix_form.proofs.Passing.{matrix_passes, true-one_to}
use mathlib.Core.List.{List, [], ◌∷◌, ◌++◌, append_assoc, append-nil}
use Prim.Native.Nat.{ℕ, suc, ◌+◌, ◌*◌, ◌-◌, ◌^◌, ◌≤◌, ◌<◌}
use native.Mathlib.Omega.{arith}
use lib.IntN.{ℤ}
use lib.ListN.{length, set, drop, length-append, length-drop, drop_of_length-le}
use lib.Seq.{drop-append-le}
use Rattle.lists.specs.Filled.{filled}
use Rattle.lists.specs.Over.{over, stripes}
use Rattle.lists.specs.Sums.{sum_over}
use Rattle.lists.proofs.Filled.{filled-snoc}
use Rattle.lists.proofs.Stripes.{stripes-snoc}
use Rattle.lists.proofs.Sums.{sum_snoc}
use Rattle.matrix_form.specs.Shape.{row_start, columns, MatrixLists, with_codes}
use Rattle.matrix_form.specs.NodeRows.{rows_of, with_row, with_rows, row_of}
use Rattle.matrix_form.specs.Questions.{LentMatrix, LentWeights}
use Rattle.matrix_form.proofs.NodeRows.{length-rows_of}
use Rattle.difference_form.specs.Rows.{difference, most_difference}
use Rattle.tree_form.specs.declared.placement.Placement.{Placement}
use Rattle.branching.specs.declared.placement.Placed.{Placed}
use Rattle.branching.specs.Views.{ancestors}
use Rattle.tree_form.specs.Nodes.{nodes_out, Unplaced, last_row}
use Rattle.tree_form.specs.Facts.{alone}
use Rattle.tree_form.specs.Hanging.{only_row_one}
use Rattle.tree_form.specs.Placing.{AfterPlacing, no_placement, place}
use Rattle.branching.specs.Calls.{place_in, matrix_placed}
use Rattle.branching.specs.Unasked.{UnaskedDone}
use Rattle.tree_form.proofs.Nodes.{node_nodes_in, only_row_one-none, only_row_one-size}
use Rattle.tree_form.proofs.InMatrix.{by_list}
use Rattle.branching.proofs.InMatrix.{no_row}
use Rattle.wagner.proofs.AnyMatrix.{least-unplaced, placement-is, tree-is, matrix-is}
use Rattle.branching.proofs.Standing.{Standing, standing_placed, last_is, Step, first, later, placed-step, added-most}
use Rattle.branching.proofs.Standing.{placed-rows, placed_standing}
use Rattle.wagner.specs.declared.answer.WagnerTree.{WagnerTree}
use Rattle.tree_form.specs.declared.order.Order.{Order}
use Rattle.wagner_form.specs.Next.{next_by}
use Rattle.wagner_form.specs.Build.{Built, added_length, build_on, build, wagner, wagner_length}
use Rattle.wagner_form.specs.Matrix.{matrix_after, wagner_in}
use Rattle.wagner.specs.Calls.{most_placements, BuiltFrom, RowOne}
use Rattle.wagner.specs.Order.{key_of, KeysRight, Advancements}
use Rattle.wagner.specs.Closeness.{Table, KeysNext}
use Rattle.wagner.specs.Steps.{OneMore}
use Rattle.wagner.proofs.Choosing.{alone-key, next_right}
use Rattle.wagner.proofs.Changing.{placed_changed}
use Rattle.wagner_form.proofs.Difference.{wagner-length}
use Rattle.wagner_form.proofs.Matrix.{rows_of-each}

-- the rows of the nodes of a tree
abbrev pub rows_now : List ℤ → ℕ → ℕ → List ℕ → List (List ℤ)
rows_now now n m tree = rows_of now m (last_row n tree)

-- what is left of a build
abbrev pub left : Order → MatrixLists → ℕ → ℕ → ℕ → List ℕ → Built
left order lists n m placed tree =
    build_on (difference lists.weights) (next_by (difference lists.weights) order) n (n - placed) tree (rows_now lists.codes n m tree)

-- of a build from the matrix `codes`, taxa are placed by the placements `done`, one each, and the matrix now is `now`
pub record UnderWay
    (order : Order)
    (lists : MatrixLists) (now : List ℤ)
    (n m : ℕ)
    (built : WagnerTree)
    (keys : List ℕ)
    (kept : List (List ℕ))
    (done : List Placement) : Type 0 where
  pub standing : Standing (with_codes lists now) n m (suc (length done)) (ancestors built.tree)
  pub written : now ≡ with_rows lists.codes (suc n) (drop n (rows_now now n m (ancestors built.tree)))
  pub list : built.placements.items ≡ filled most_placements no_placement done
  pub count : built.placements.count ≡ length done
  pub whole : built.length ≡ added_length done
  pub most : built.length ≤ length done * most_difference
  pub known : KeysRight order (with_codes lists now) n m (ancestors built.tree) keys
  pub table : Table order (with_codes lists now) n m (ancestors built.tree) kept
  pub left_tree : (wagner_in order lists n m).tree ≡ (left order (with_codes lists now) n m (suc (length done)) (ancestors built.tree)).tree
  pub left_rows : (wagner_in order lists n m).rows ≡ (left order (with_codes lists now) n m (suc (length done)) (ancestors built.tree)).rows
  pub left_placements : (wagner_in order lists n m).placements
      ≡ done ++ (left order (with_codes lists now) n m (suc (length done)) (ancestors built.tree)).placements

-- before the first placement
module _ (order : Order) (lists : MatrixLists) (n m : ℕ) (lent : LentMatrix lists.codes n m)
    (weighted : LentWeights lists.weights m) where
  -- row 1 alone stands in the matrix
  alone_standing : Standing lists n m 1 only_row_one
  alone_standing =
      record {
        matrix = lent;
        weighted = weighted;
        growing = alone only_row_one-none;
        sized = only_row_one-size;
        known = λ v low high. absurd (omega arith);
      }

  -- with the rows of the taxa
  alone_last : last_row n only_row_one ≡ n
  alone_last = omega (arith, last_is lists n m 1 only_row_one alone_standing)

  -- nothing is written yet
  alone_written : lists.codes ≡ with_rows lists.codes (suc n) (drop n (rows_now lists.codes n m only_row_one))
  alone_written =
      let past : length (rows_now lists.codes n m only_row_one) ≤ n =
      omega (arith, length-rows_of lists.codes m (last_row n only_row_one), alone_last) in
      sym (ap (with_rows lists.codes (suc n)) (drop_of_length-le (rows_now lists.codes n m only_row_one) past) ∙ no_row lists.codes (suc n))

  -- all is left
  alone_left : wagner_in order lists n m ≡ left order lists n m 1 only_row_one
  unfolding wagner_in wagner build
  alone_left =
      ap (λ (last : ℕ). build_on (difference lists.weights) (next_by (difference lists.weights) order) n (n - 1) only_row_one (rows_of
      lists.codes m last))
      (sym alone_last)

  -- by advancement or closeness, the keys before the first link are the advancements
  alone-keys : (keys : List ℕ) → Advancements lists n m keys → KeysRight order lists n m only_row_one keys
  alone-keys keys known = record {
    each = λ v u.
        known.each v (omega (arith, u.taxon, lent.taxa))
        ∙ rw (true-one_to n v (omega (arith, u.other)) u.taxon) (alone-key order lists n m v);
  }

  pub begun_under_way : (keys : List ℕ) → Advancements lists n m keys → (table : List (List ℕ)) (built : WagnerTree) → RowOne built
      → UnderWay order lists lists.codes n m built keys table []
  unfolding added_length sum_over filled
  begun_under_way keys known table built begun =
      record {
        standing = rw begun.tree alone_standing;
        written = rw begun.tree alone_written;
        list = begun.placements.items;
        count = begun.placements.count;
        whole = begun.none;
        most = omega (arith, begun.none);
        known = rw begun.tree (alone-keys keys known);
        table = rw begun.tree (λ _ v u c mem. absurd (omega (arith, (node_nodes_in only_row_one n c mem).2, only_row_one-none c)));
        left_tree = rw begun.tree (ap (λ (built : Built). built.tree) alone_left);
        left_rows = rw begun.tree (ap (λ (built : Built). built.rows) alone_left);
        left_placements = rw begun.tree (ap (λ (built : Built). built.placements) alone_left);
      }

-- a row written behind rows that are written so
one-behind : (codes : List ℤ) (n last : ℕ) (hs : List (List ℤ)) (r : List ℤ) → n ≤ last → length hs ≡ last - n
    → with_row (with_rows codes (suc n) hs) (suc last) r ≡ with_rows codes (suc n) (hs ++ (r ∷ []))
unfolding with_row with_rows
one-behind codes n last hs r h e =
    let place : row_start (suc last) ≡ row_start (suc n) + length hs * columns = omega arith in
    ap (λ (p : ℕ). over p r (stripes columns (row_start (suc n)) hs codes)) place ∙ sym (stripes-snoc columns (row_start (suc n)) hs r codes)

-- one placement more
module _ (order : Order) (lists : MatrixLists) (now : List ℤ) (n m : ℕ) (before : WagnerTree) (keys : List ℕ) (kept : List (List ℕ))
    (done : List Placement)
    (w : UnderWay order lists now n m before keys kept done) (less : suc (length done) < n) (b : ℕ)
    (found : b ≡ least_of (key_of keys) (nodes_out (ancestors before.tree) (numbers 1 n))) where
  -- the tree before it
  abbrev tree : List ℕ
  tree = ancestors before.tree

  -- so many taxa are in it
  abbrev placed : ℕ
  placed = suc (length done)

  -- the taxon is the next one in the order of placing
  chosen : b ≡ next_by (difference lists.weights) order n tree (rows_now now n m tree)
  chosen = found ∙ next_right (with_codes lists now) n m placed tree w.standing order keys w.known

  -- which is not placed, since not all are
  fresh : Unplaced n tree b
  fresh =
      least-unplaced n tree keys b (omega (arith, less, standing_placed (with_codes lists now) n m placed tree w.standing)) found

  -- what comes out of it
  abbrev ours : AfterPlacing
  ours = place_in (with_codes lists now) n m tree b

  -- the matrix then holds the rows of its nodes
  rows_next : rows_now (matrix_placed (with_codes lists now) n m tree b) n m ours.tree ≡ rows_now now n m tree ++ ours.made
  rows_next = placed-rows (with_codes lists now) n m placed tree w.standing b fresh

  -- the rows of the taxa come first
  taxa-first : n ≤ length (rows_now now n m tree)
  taxa-first = omega (arith, length-rows_of now m (last_row n tree), last_is (with_codes lists now) n m placed tree w.standing)

  -- the rows written so far, and the new one behind them
  written_next : matrix_placed (with_codes lists now) n m tree b
      ≡ with_rows lists.codes (suc n) (drop n (rows_now now n m tree ++ ours.made))
  written_next = go (placed-step (with_codes lists now) n m placed tree w.standing b fresh)
    where
      go : Step (with_codes lists now) n m placed tree w.standing b fresh
          → matrix_placed (with_codes lists now) n m tree b ≡ with_rows lists.codes (suc n) (drop n (rows_now now n m tree ++ ours.made))
      go (first one none kept) =
          kept ∙ w.written
          ∙ ap (λ (all : List (List ℤ)). with_rows lists.codes (suc n) (drop n all))
          (sym (append-nil (rows_now now n m tree)) ∙ ap (λ (made : List (List ℤ)). rows_now now n m tree ++ made) (sym none))
      go (later two r long range made over-it) =
          over-it
          ∙ ap (λ (all : List ℤ). with_row all (suc (last_row n tree)) r) w.written
          ∙ one-behind lists.codes n (last_row n tree) (drop n (rows_now now n m tree)) r
          (omega (arith, last_is (with_codes lists now) n m placed tree w.standing))
          (omega (arith, length-drop n (rows_now now n m tree), length-rows_of now m (last_row n tree)))
          ∙ ap (with_rows lists.codes (suc n))
          (sym (ap (λ (made : List (List ℤ)). drop n (rows_now now n m tree ++ made)) made ∙ drop-append-le n (rows_now now n m tree) (r ∷ []) taxa-first))

  -- what is left behind the placement
  abbrev rest : Built
  rest = left order (with_codes lists (matrix_placed (with_codes lists now) n m tree b)) n m (suc placed) ours.tree

  -- what was left is the placement, and what is left behind it
  left_next : left order (with_codes lists now) n m placed tree ≡ record {
    tree = rest.tree;
    rows = rest.rows;
    placements = ours.placement ∷ rest.placements;
  }
  unfolding build_on place_in
  left_next =
      let count : n - placed ≡ suc (n - suc placed) = omega (arith, less) in
      let rows : List (List ℤ) = rows_now now n m tree in
      let rule : ℕ → List ℕ → List (List ℤ) → ℕ = next_by (difference lists.weights) order in
      ap (λ (k : ℕ). build_on (difference lists.weights) rule n k tree rows) count
      ∙ ap (λ (v : ℕ). goes_on (n - suc placed) (place (difference lists.weights) (row_of rows) n tree v)
      (rows ++ (place (difference lists.weights) (row_of rows) n tree v).made)) (sym chosen)
      ∙ ap (λ (p : AfterPlacing). goes_on (n - suc placed) p (rows ++ p.made))
      (sym (by_list (difference lists.weights) now n m tree b w.standing.growing fresh))
      ∙ ap (goes_on (n - suc placed) ours) (sym rows_next)
    where
      goes_on : ℕ → AfterPlacing → List (List ℤ) → Built
      goes_on count p rows = record {
        tree = (build_on (difference lists.weights) (next_by (difference lists.weights) order) n count p.tree rows).tree;
        rows = (build_on (difference lists.weights) (next_by (difference lists.weights) order) n count p.tree rows).rows;
        placements = p.placement ∷ (build_on (difference lists.weights) (next_by (difference lists.weights) order) n count p.tree
            rows).placements;
      }

  -- what was done, and the matrix then
  module _ (new : List ℤ) (made : Placed) (by : UnaskedDone (with_codes lists now) new n m tree b made) where
    -- the placement is that one
    is-ours : made.placement ≡ ours.placement
    is-ours = placement-is (with_codes lists now) n m w.standing.matrix.taxa w.standing.matrix.characters tree b new made by

    -- so is the tree
    grown : ancestors made.tree ≡ ours.tree
    grown = tree-is (with_codes lists now) n m w.standing.matrix.taxa w.standing.matrix.characters tree b new made by

    -- and the matrix
    held : new ≡ matrix_placed (with_codes lists now) n m tree b
    held = matrix-is (with_codes lists now) n m w.standing.matrix.taxa w.standing.matrix.characters tree b new made by

    -- it adds at most 2,301,696
    next-most : made.placement.added ≤ most_difference
    next-most = rw is-ours (added-most (with_codes lists now) n m placed tree w.standing b fresh)

    -- so the length can be added
    counted : before.length + made.placement.added < 2 ^ 64
    counted = omega (arith, w.most, less, w.standing.matrix.taxa, next-most)

    -- with the keys made right the build is under way again
    pub next_under_way : (keys' : List ℕ) (table : List (List ℕ)) (r : WagnerTree)
        → KeysNext order (with_codes lists new) n m (ancestors made.tree) made.placement keys kept keys' table → OneMore before made r
        → UnderWay order lists new n m r keys' table (done ++ (ours.placement ∷ []))
    unfolding added_length
    next_under_way keys' table r renewed more =
        let tree-is : ancestors r.tree ≡ ours.tree = ap ancestors more.tree ∙ grown in
        let added : r.length ≡ before.length + ours.placement.added =
        more.more counted ∙ ap (λ (p : Placement). before.length + p.added) is-ours in
        let long : length (done ++ (ours.placement ∷ [])) ≡ suc (length done) = omega (arith, length-append done (ours.placement ∷ [])) in
        let size : length done < 63 = omega (arith, less, w.standing.matrix.taxa) in
        let most = added-most (with_codes lists now) n m placed tree w.standing b fresh in
        let before-most = w.most in
        let again =
        renewed.each now tree (rw (grown, held, is-ours) (placed_changed (with_codes lists now) n m placed tree w.standing b fresh))
        w.known w.table in
        record {
          standing = rw (tree-is, held, long) (placed_standing (with_codes lists now) n m placed tree w.standing b fresh);
          written = rw (tree-is, held)
              (written_next ∙ ap (λ (all : List (List ℤ)). with_rows lists.codes (suc n) (drop n all)) (sym rows_next));
          list =
              more.placements.items
              ∙ ap (λ (p : Placement). set before.placements.items before.placements.count p) is-ours
              ∙ ap (λ (all : List Placement). set all before.placements.count ours.placement) w.list
              ∙ filled-snoc no_placement 63 before.placements.count done ours.placement w.count (omega (arith, w.count));
          count = omega (arith, more.placements.count, w.count);
          whole =
              added ∙ ap (λ (k : ℕ). k + ours.placement.added) w.whole
              ∙ sym (sum_snoc (λ (p : Placement). p.added) done ours.placement);
          most = omega arith;
          known = rw more.tree again.0;
          table = rw more.tree again.1;
          left_tree = rw (tree-is, held, long) (w.left_tree ∙ ap (λ (built : Built). built.tree) left_next);
          left_rows = rw (tree-is, held, long) (w.left_rows ∙ ap (λ (built : Built). built.rows) left_next);
          left_placements = rw (tree-is, held, long)
              (w.left_placements
              ∙ ap (λ (built : Built). done ++ built.placements) left_next
              ∙ sym (append_assoc done (ours.placement ∷ []) rest.placements));
        }

-- all taxa are placed, so the build is done
pub done_under_way : (order : Order) (lists : MatrixLists) (now : List ℤ) (n m : ℕ) (built : WagnerTree) (keys : List ℕ)
    (table : List (List ℕ)) (done : List Placement)
    → LentMatrix lists.codes n m → LentWeights lists.weights m → UnderWay order lists now n m built keys table done
    → n ≤ suc (length done) → BuiltFrom order lists now n m built
unfolding build_on matrix_after
done_under_way order lists now n m built keys table done lent weighted w all =
    let tree : List ℕ = ancestors built.tree in
    let none : n - suc (length done) ≡ 0 = omega (arith, all) in
    let nothing : left order (with_codes lists now) n m (suc (length done)) tree
    ≡ record { tree = tree; rows = rows_now now n m tree; placements = [] } =
    ap (λ (k : ℕ). build_on (difference lists.weights) (next_by (difference lists.weights) order) n k tree (rows_now now n m tree)) none in
    let list : (wagner_in order lists n m).placements ≡ done =
    w.left_placements ∙ ap (λ (built : Built). done ++ built.placements) nothing ∙ append-nil done in
    let rows = w.left_rows ∙ ap (λ (built : Built). built.rows) nothing in
    record {
      passed = (matrix_passes lists n m).1 (lent, weighted);
      tree = sym (w.left_tree ∙ ap (λ (built : Built). built.tree) nothing);
      placements = w.list ∙ ap (filled most_placements no_placement) (sym list);
      count = w.count ∙ ap length (sym list);
      matrix = w.written ∙ ap (λ (made : List (List ℤ)). with_rows lists.codes (suc n) (drop n made)) (sym rows);
      whole = w.whole ∙ ap added_length (sym list) ∙ sym (length-is lent);
    }
  where
    length-is : LentMatrix lists.codes n m → wagner_length (difference lists.weights) n (wagner_in order lists n m)
        ≡ added_length (wagner_in order lists n m).placements
    length-is lent =
        unfold wagner_in in
        wagner-length order lists.weights n m lent.taxon lent.taxa (rows_of lists.codes m n) (length-rows_of lists.codes m n)
        (rows_of-each lists.codes m n lent.characters (omega (arith, lent.full, lent.taxa)))
