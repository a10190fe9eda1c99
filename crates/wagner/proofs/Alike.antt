-- Two differences that agree on rows of at most m codes build one Wagner tree. So weights past m are not heeded, and where every character
-- weighs 1 the Wagner tree is that of document 01's difference.
use mathlib.Core.Path.{◌≡◌, refl, sym, ap, ◌∙◌}
use mathlib.Core.Bool.{Bool, true}
use mathlib.Core.List.{List, [], ◌++◌}
use Prim.Native.Nat.{ℕ, zero, suc, ◌-◌, ◌≤◌, ◌<◌}
use native.Mathlib.Omega.{arith}
use borrow.Author.Tests.{le-leb, leb-true}
use lib.Dec.{leb}
use lib.IntN.{ℤ}
use lib.ListN.{length}
use Rattle.lists.specs.Numbers.{numbers}
use Rattle.lists.specs.Tests.{every}
use Rattle.lists.proofs.Every.{every-from}
use Rattle.lists.proofs.Least.{least_of_congr}
use Rattle.lists.proofs.Sums.{sum_same}
use Rattle.matrix_form.specs.Shape.{row, weight_at, MatrixLists, matrix_of}
use Rattle.matrix_form.specs.NodeRows.{row_of, rows_of}
use Rattle.matrix_form.proofs.Row.{length-row}
use Rattle.matrix_form.proofs.NodeRows.{length-rows_of, get_or-rows_of}
use Rattle.difference_form.specs.Rows.{medians, interval_by, node_difference, difference, unweighted}
use Rattle.difference_form.proofs.Laws.Rows.{length-medians}
use Rattle.difference_form.proofs.Laws.Weights.{difference-weights, difference-alike}
use Rattle.tree_form.specs.Ancestors.{ancestor}
use Rattle.tree_form.specs.Nodes.{nodes_in, nodes_out, other_nodes}
use Rattle.tree_form.specs.Hanging.{only_row_one}
use Rattle.tree_form.specs.Branches.{tree_length}
use Rattle.tree_form.specs.RowLengths.{length_under}
use Rattle.tree_form.specs.Placing.{AfterPlacing, from_interval, nearest_interval, place}
use Rattle.tree_form.proofs.Placing.{place_same}
use Rattle.tree_form.specs.declared.order.Order.{Order}
use Rattle.tree_form.specs.declared.order.Order.TheVariants.{Advance, Closest}
use Rattle.wagner_form.specs.Next.{advancement, by_advancement, next_by}
use Rattle.wagner_form.specs.Build.{Built, build_on, build, wagner, wagner_length}
use Rattle.wagner_form.specs.Matrix.{wagner_in}
use Rattle.wagner_form.proofs.Closest.{adds, closeness_least}
use Rattle.wagner_form.proofs.EachRow.{row_passes, placed_passes, rows_pass}

-- a row has at most m codes
abbrev pub narrow : ℕ → List ℤ → Bool
narrow m r = leb (length r) m

-- and so have medians of such rows
narrow_medians : (m : ℕ) (xs ys zs : List ℤ) → narrow m xs ≡ true → narrow m ys ≡ true → narrow m zs ≡ true
    → narrow m (medians xs ys zs) ≡ true
narrow_medians m xs ys zs hx hy hz =
    le-leb (length (medians xs ys zs)) m (omega (arith, length-medians xs ys zs, leb-true (length xs) m hx))

-- and so has the row of no codes
narrow_none : (m : ℕ) → narrow m [] ≡ true
narrow_none m = le-leb 0 m (omega arith)

-- two differences that agree on such rows
module _ (d d' : List ℤ → List ℤ → ℕ) (m : ℕ) (same : (xs ys : List ℤ) → length xs ≤ m → d xs ys ≡ d' xs ys) where
  module _ (n : ℕ) (tree : List ℕ) (rows : List (List ℤ)) (each : every (narrow m) rows ≡ true) where
    -- the differences of two nodes agree
    node_same : (u v : ℕ) → d (row_of rows u) (row_of rows v) ≡ d' (row_of rows u) (row_of rows v)
    node_same u v =
        same (row_of rows u) (row_of rows v) (leb-true (length (row_of rows u)) m (row_passes (narrow m) (narrow_none m) rows each u))

    -- so a placement is the same
    placed-same : (b : ℕ) → place d (row_of rows) n tree b ≡ place d' (row_of rows) n tree b
    unfolding from_interval interval_by node_difference
    placed-same b =
        place_same d d' (row_of rows) (row_of rows) n tree b (node_same b 1)
        (λ c low inside. (rw (node_same b c, node_same b (ancestor tree c), node_same c (ancestor tree c)) refl, refl))

    -- the taxon to place next is the same
    next-same : (order : Order) → next_by d order n tree rows ≡ next_by d' order n tree rows
    unfolding next_by by_advancement advancement node_difference
    next-same Advance =
        least_of_congr (advancement d rows) (advancement d' rows) (nodes_out tree (numbers 1 n)) (λ b _. node_same b 1)
    next-same Closest =
        closeness_least d n tree rows
        ∙ least_of_congr (adds d n tree rows) (adds d' n tree rows) (nodes_out tree (numbers 1 n))
        (λ b _. ap (λ (after : AfterPlacing). after.placement.added) (placed-same b))
        ∙ sym (closeness_least d' n tree rows)

    -- the length of a tree is the same
    length-same : length_under d n tree rows ≡ length_under d' n tree rows
    unfolding length_under tree_length node_difference
    length-same = sum_same _ _ (nodes_in tree (other_nodes n)) (λ v _. node_same v (ancestor tree v))

  -- so many placements in turn are the same
  build_on-same : (order : Order) (n count : ℕ) (tree : List ℕ) (rows : List (List ℤ)) → every (narrow m) rows ≡ true
      → build_on d (next_by d order) n count tree rows ≡ build_on d' (next_by d' order) n count tree rows
  unfolding build_on place
  build_on-same order n zero tree rows each = refl
  build_on-same order n (suc count) tree rows each =
      let b : ℕ = next_by d' order n tree rows in
      let placed : AfterPlacing = place d' (row_of rows) n tree b in
      let behind = build_on-same order n count placed.tree (rows ++ placed.made)
      (placed_passes (narrow m) (narrow_none m) (narrow_medians m) d' n tree rows b (nearest_interval d' (row_of rows) n tree b) each) in
      rw (next-same n tree rows each order, placed-same n tree rows each b, behind)

  -- the Wagner tree is the same
  pub wagner-same : (order : Order) (n : ℕ) (rows : List (List ℤ)) → every (narrow m) rows ≡ true
      → wagner d order n rows ≡ wagner d' order n rows
  unfolding wagner build
  wagner-same order n rows each = build_on-same order n (n - 1) only_row_one rows each

  -- and so is its length
  pub wagner_length-same : (order : Order) (n : ℕ) (rows : List (List ℤ)) → every (narrow m) rows ≡ true
      → wagner_length d n (wagner d order n rows) ≡ wagner_length d' n (wagner d' order n rows)
  unfolding wagner build wagner_length
  wagner_length-same order n rows each =
      ap (λ (built : Built). length_under d n built.tree built.rows) (build_on-same order n (n - 1) only_row_one rows each)
      ∙ length-same n _ _ (rows_pass (narrow m) (narrow_none m) (narrow_medians m) d' n (next_by d' order) (n - 1) only_row_one rows each)

-- the rows of a matrix have at most m codes
rows_narrow : (codes : List ℤ) (m n : ℕ) → every (narrow m) (rows_of codes m n) ≡ true
rows_narrow codes m n =
    every-from (narrow m) [] (rows_of codes m n) λ i h.
    rw (get_or-rows_of codes m n i (omega (arith, length-rows_of codes m n)))
    (le-leb (length (row codes m (suc i))) m (omega (arith, length-row codes m (suc i))))

-- the Wagner tree of the rows of a matrix
module _ (order : Order) (lists : MatrixLists) (n m : ℕ) where
  -- the weights of characters 1 to m decide it
  pub wagner-weights : (others : List ℕ) → ((i : ℕ) → i < m → weight_at lists.weights i ≡ weight_at others i)
      → wagner_in order lists n m ≡ wagner_in order (matrix_of lists.codes others) n m
  unfolding wagner_in
  wagner-weights others agree =
      wagner-same (difference lists.weights) (difference others) m
      (λ xs ys h. difference-weights lists.weights others xs ys (λ i low. agree i (omega arith)))
      order n (rows_of lists.codes m n) (rows_narrow lists.codes m n)

  module _ (ones : (i : ℕ) → i < m → weight_at lists.weights i ≡ 1) where
    -- on rows of at most m codes the difference is document 01's
    alike : (xs ys : List ℤ) → length xs ≤ m → difference lists.weights xs ys ≡ unweighted xs ys
    alike xs ys h = difference-alike lists.weights xs ys (λ i low. ones i (omega arith))

    -- where every character weighs 1 it is that of document 01's difference
    pub wagner-alike : wagner_in order lists n m ≡ wagner unweighted order n (rows_of lists.codes m n)
    unfolding wagner_in
    wagner-alike = wagner-same (difference lists.weights) unweighted m alike order n (rows_of lists.codes m n) (rows_narrow lists.codes m n)

    -- and so is its length
    pub wagner_length-alike : wagner_length (difference lists.weights) n (wagner_in order lists n m)
        ≡ wagner_length unweighted n (wagner unweighted order n (rows_of lists.codes m n))
    unfolding wagner_in
    wagner_length-alike = wagner_length-same (difference lists.weights) unweighted m alike order n (rows_of lists.codes m n)
        (rows_narrow lists.codes m n)
