-- A growing tree that stands in a lent matrix with the rows of its HTUs, as the questions of a placement let it pass; and the one that a
-- placement leaves, which stands in the matrix that it leaves. So nothing that a placement hands back is refused by the next one.
use mathlib.Core.Path.{◌≡◌, refl, sym, ap, ap₂, ◌∙◌}
use mathlib.Core.Logic.{by_cases}
use mathlib.Core.Bool.{true}
use mathlib.Core.List.{List, [], ◌∷◌, ◌++◌, append-nil}
use Prim.Native.Nat.{ℕ, zero, suc, ◌+◌, ◌*◌, ◌-◌, ◌≤◌, ◌<◌}
use native.Mathlib.Omega.{arith}
use native.Mathlib.Decide.{dec_le}
use lib.IntN.{ℤ, pos}
use lib.ListN.{length, get_or}
use Rattle.matrix_form.specs.Shape.{row, row_start, MatrixLists, with_codes}
use Rattle.matrix_form.specs.NodeRows.{rows_of, with_row}
use Rattle.matrix_form.specs.Questions.{LentMatrix, LentWeights, all_in_range}
use Rattle.std.specs.Prelude.{Ok}
use Rattle.matrix_form.proofs.Passing.{matrix_passes, matrix_passed, weights_passed, numbers_asked}
use Rattle.matrix_form.proofs.Row.{row-length}
use Rattle.matrix_form.proofs.NodeRows.{length-rows_of, row_of-rows_of, length-with_row, with_row-same, with_row-else, with_row-other, with_rows-rows}
use Rattle.difference_form.specs.Rows.{difference, most_difference, node_difference, interval_by}
use Rattle.difference_form.proofs.Laws.Rows.{medians-in_range, difference_limit}
use Rattle.tree_form.specs.Ancestors.{ancestor}
use Rattle.tree_form.specs.Nodes.{taxa_placed, Unplaced, last_row}
use Rattle.tree_form.specs.Growing.{growing_tree}
use Rattle.tree_form.specs.Facts.{Grown, GrowingTree, alone, several}
use Rattle.tree_form.specs.Asking.{htus_of, ask_placement}
use Rattle.tree_form.specs.Placing.{AfterPlacing, median_row, link_first, hang, from_interval}
use Rattle.branching.specs.Nearest.{nearest_lower}
use Rattle.branching.specs.Calls.{place_in, matrix_placed}
use Rattle.tree_form.proofs.Test.{growing-fact, growing_test, growing-placed}
use Rattle.tree_form.proofs.Counts.{taxa_placed_lt}
use Rattle.tree_form.proofs.Placing.{place-first, made-first, place-later, made-later, place_grows, place-size, nearest_node}
use Rattle.tree_form.proofs.RowLengths.{OfLength, Growth}
use Rattle.tree_form.proofs.Rival.{difference_laws}
use Rattle.tree_form.proofs.Passed.{PlacementAsked, asked_placement}
use Rattle.tree_form.proofs.Nodes.{taxa_placed_le}
use Rattle.branching.proofs.InMatrix.{one-row, written_first, written_later}
use Rattle.tree_form.proofs.InMatrix.{ends_within}

-- a growing tree with k of n taxa placed, in a lent matrix in which the rows of its HTUs have codes from -999 to 999
pub record Standing (lists : MatrixLists) (n m k : ℕ) (tree : List ℕ) : Type 0 where
  pub matrix : LentMatrix lists.codes n m
  pub weighted : LentWeights lists.weights m
  pub growing : GrowingTree n tree k
  pub sized : length tree ≡ 127
  pub known : (v : ℕ) → n < v → v ≤ n + (k - 2) → all_in_range (row lists.codes m v) ≡ true

-- a tree that the questions let pass stands so
pub asked_standing : (lists : MatrixLists) (n m : ℕ) (tree : List ℕ) (b : ℕ) → PlacementAsked lists n m tree b → length tree ≡ 127
    → Standing lists n m (taxa_placed n tree) tree
unfolding htus_of
asked_standing lists n m tree b asked sized =
    record {
      matrix = matrix_passed lists n m asked.matrix;
      weighted = weights_passed lists n m asked.matrix;
      growing = growing-fact tree n (omega (arith, asked.unplaced.other, asked.unplaced.taxon)) asked.growing;
      sized = sized;
      known = λ v low high.
          (numbers_asked lists m (n + 1) (taxa_placed n tree - 2)).0 asked.htus v (omega arith) (omega arith);
    }

module _ (lists : MatrixLists) (n m k : ℕ) (tree : List ℕ) (s : Standing lists n m k tree) where
  -- the rows of its nodes
  abbrev pub rows : List (List ℤ)
  rows = rows_of lists.codes m (last_row n tree)

  -- k taxa are placed
  pub standing_placed : taxa_placed n tree ≡ k
  standing_placed = growing-placed tree n s.matrix.taxon s.growing

  -- and the tree passes the test
  pub standing_test : growing_tree n tree ≡ true
  standing_test = growing_test tree n s.matrix.taxon s.growing

  -- so every taxon that is not in it passes the questions of a placement
  pub standing_passes : (b : ℕ) → Unplaced n tree b → ask_placement lists n m tree b ≡ Ok tt
  unfolding htus_of
  standing_passes b u =
      asked_placement lists n m tree b
      (record {
        matrix = (matrix_passes lists n m).1 (s.matrix, s.weighted);
        growing = standing_test;
        unplaced = u;
        htus =
            (numbers_asked lists m (n + 1) (taxa_placed n tree - 2)).1
            (λ v low high. s.known v (omega arith) (omega (arith, standing_placed)));
      })

  -- the last node with a row
  pub last_is : last_row n tree ≡ n + (k - 2)
  unfolding last_row
  last_is = ap (λ (placed : ℕ). n + (placed - 2)) standing_placed

  -- it is one of the matrix
  pub last_most : last_row n tree ≤ 126
  unfolding last_row
  last_most = omega (arith, s.matrix.taxa, standing_placed, placed-most)
    where
      placed-most : taxa_placed n tree ≤ n
      placed-most = taxa_placed_le tree n

  -- the rows have m codes each
  rows-each : OfLength m rows
  rows-each v low high =
      let within : v ≤ last_row n tree = omega (arith, length-rows_of lists.codes m (last_row n tree)) in
      ap length (row_of-rows_of lists.codes m (last_row n tree) v low within)
      ∙ row-length lists.codes m v s.matrix.full s.matrix.characters low (omega (arith, last_most))

  -- each node of the tree has a row of m codes
  row_sized : (v : ℕ) → 1 ≤ v → v ≤ last_row n tree → length (row lists.codes m v) ≡ m
  row_sized v low high = row-length lists.codes m v s.matrix.full s.matrix.characters low (omega (arith, last_most))

  -- each from -999 to 999
  row_known : (v : ℕ) → 1 ≤ v → v ≤ last_row n tree → all_in_range (row lists.codes m v) ≡ true
  row_known v low high = by_cases (dec_le v n) (λ taxon. s.matrix.known v low taxon) (λ htu. s.known v (omega arith) (omega (arith, last_is)))

  -- a place for every node
  room : 2 * n - 2 < length tree
  room = omega (arith, s.sized, s.matrix.taxa)

  -- the tree and its rows
  pub standing_growth : Growth n m k tree rows
  standing_growth =
      record { growing = s.growing; room = room; full = length-rows_of lists.codes m (last_row n tree) ∙ last_is; each = rows-each }

  module _ (b : ℕ) (u : Unplaced n tree b) where
    -- what a placement does: row 1 alone, and nothing is written; or a row r of m codes from -999 to 999 is written behind the others
    pub data Step : Type 0 where
      first : k ≡ 1 → (place_in lists n m tree b).made ≡ [] → matrix_placed lists n m tree b ≡ lists.codes → Step
      later : 2 ≤ k → (r : List ℤ) → length r ≡ m → all_in_range r ≡ true
          → (place_in lists n m tree b).made ≡ r ∷ [] → matrix_placed lists n m tree b ≡ with_row lists.codes (suc (last_row n tree)) r
          → Step

    -- a link to row 1
    step-first : ((v : ℕ) → ancestor tree v ≡ 0) → k ≡ 1 → Step
    unfolding place_in
    step-first none one =
        first one (made-first (difference lists.weights) n tree (row lists.codes m) b none) (written_first lists n m tree b none)

    module _ (g : Grown n k tree) where
      -- the codes of the HTU are from -999 to 999
      median-known : (c : ℕ) → 1 ≤ ancestor tree c → all_in_range (median_row (row lists.codes m) b c (ancestor tree c)) ≡ true
      unfolding median_row
      median-known c inside =
          let w = ends_within n k tree g c inside in
          medians-in_range (row lists.codes m b) (row lists.codes m c) (row lists.codes m (ancestor tree c))
          (row_known b (omega (arith, u.other)) (omega (arith, last_is, u.taxon)))
          (row_known c w.0 w.1)
          (row_known (ancestor tree c) inside w.2)

      -- and there are m of them
      median_sized : (c : ℕ) → 1 ≤ ancestor tree c → length (median_row (row lists.codes m) b c (ancestor tree c)) ≡ m
      unfolding median_row
      median_sized c inside =
          let w = ends_within n k tree g c inside in
          (difference_laws lists.weights m).sized (row lists.codes m b) (row lists.codes m c) (row lists.codes m (ancestor tree c))
          (row_sized b (omega (arith, u.other)) (omega (arith, last_is, u.taxon)))
          (row_sized c w.0 w.1)
          (row_sized (ancestor tree c) inside w.2)

      -- a hanging
      step-later : Step
      unfolding place_in
      step-later =
          let c : ℕ = nearest_lower lists n m tree b in
          let inside = (nearest_node (difference lists.weights) n tree (row lists.codes m) b k g).1 in
          later g.at_least_two (median_row (row lists.codes m) b c (ancestor tree c))
          (median_sized c inside)
          (median-known c inside)
          (made-later (difference lists.weights) n tree (row lists.codes m) b k g)
          (written_later lists n m tree b k g)

    pub placed-step : Step
    placed-step = go s.growing step-first step-later
      where
        go : {j : ℕ} → GrowingTree n tree j → (((v : ℕ) → ancestor tree v ≡ 0) → j ≡ 1 → Step) → (Grown n j tree → Step) → Step
        go (alone none) one more = one none refl
        go (several g) one more = more g

    -- the difference of two nodes that have rows is at most 2,301,696
    rows-most : (x y : ℕ) → 1 ≤ x → x ≤ last_row n tree → 1 ≤ y → y ≤ last_row n tree
        → difference lists.weights (row lists.codes m x) (row lists.codes m y) ≤ most_difference
    rows-most x y lx hx ly hy =
        let long : length (row lists.codes m x) ≡ m = row_sized x lx hx in
        difference_limit lists.weights (row lists.codes m x) (row lists.codes m y) (rw long s.weighted.known) (row_known x lx hx)
        (row_known y ly hy) (omega (arith, s.matrix.characters))

    -- so is the length of a link
    link-most : ((v : ℕ) → ancestor tree v ≡ 0) → (place_in lists n m tree b).placement.added ≤ most_difference
    unfolding place_in link_first node_difference
    link-most none =
        rw (place-first (difference lists.weights) n tree (row lists.codes m) b none)
        (rows-most b 1 (omega (arith, u.other)) (omega (arith, u.taxon, last_is)) (omega arith)
        (omega (arith, s.matrix.taxon, last_is)))

    -- and the length that a hanging adds
    hanging_most : Grown n k tree → (place_in lists n m tree b).placement.added ≤ most_difference
    unfolding place_in hang from_interval interval_by
    hanging_most g =
        let c : ℕ = nearest_lower lists n m tree b in
        let inside = (nearest_node (difference lists.weights) n tree (row lists.codes m) b k g).1 in
        let w = ends_within n k tree g c inside in
        let taxon : b ≤ last_row n tree = omega (arith, u.taxon, last_is) in
        let to-lower = rows-most b c (omega (arith, u.other)) taxon w.0 w.1 in
        let to-upper = rows-most b (ancestor tree c) (omega (arith, u.other)) taxon inside w.2 in
        rw (place-later (difference lists.weights) n tree (row lists.codes m) b k g) (omega arith)

    -- the length added is at most 2,301,696
    pub added-most : (place_in lists n m tree b).placement.added ≤ most_difference
    added-most = go s.growing link-most hanging_most
      where
        go : {j : ℕ} {A : Type 0} → GrowingTree n tree j → (((v : ℕ) → ancestor tree v ≡ 0) → A) → (Grown n j tree → A) → A
        go (alone none) one more = one none
        go (several g) one more = more g

    -- the tree has one taxon more
    pub placed_grows : GrowingTree n (place_in lists n m tree b).tree (suc k)
    unfolding place_in
    placed_grows = place_grows (difference lists.weights) n tree (row lists.codes m) b s.growing room u

    -- the last node that then has a row
    placed_last : last_row n (place_in lists n m tree b).tree ≡ n + (suc k - 2)
    unfolding last_row
    placed_last = ap (λ (placed : ℕ). n + (placed - 2)) (growing-placed (place_in lists n m tree b).tree n s.matrix.taxon placed_grows)

    -- the matrix keeps its size
    pub placed-size : length (matrix_placed lists n m tree b) ≡ length lists.codes
    placed-size = go placed-step
      where
        go : Step → length (matrix_placed lists n m tree b) ≡ length lists.codes
        go (first one same kept) = ap length kept
        go (later two r long known more written) = ap length written ∙ length-with_row lists.codes (suc (last_row n tree)) r

    -- no code outside the first m of the row behind the others is changed
    pub placed-else : (j : ℕ) → (row_start (suc (last_row n tree)) ≤ j → j < row_start (suc (last_row n tree)) + m → ⊥)
        → get_or (matrix_placed lists n m tree b) j (pos 0) ≡ get_or lists.codes j (pos 0)
    placed-else j outside = go placed-step
      where
        go : Step → get_or (matrix_placed lists n m tree b) j (pos 0) ≡ get_or lists.codes j (pos 0)
        go (first one same kept) = ap (λ (all : List ℤ). get_or all j (pos 0)) kept
        go (later two r long known more written) =
            ap (λ (all : List ℤ). get_or all j (pos 0)) written
            ∙ with_row-else lists.codes (suc (last_row n tree)) r j (λ from upto. outside from (omega arith))

    -- no row of another node is changed
    pub placed-other : (v : ℕ) → 1 ≤ v → v ≤ last_row n tree → row (matrix_placed lists n m tree b) m v ≡ row lists.codes m v
    placed-other v low high = go placed-step
      where
        go : Step → row (matrix_placed lists n m tree b) m v ≡ row lists.codes m v
        go (first one same kept) = ap (λ (all : List ℤ). row all m v) kept
        go (later two r long known more written) =
            ap (λ (all : List ℤ). row all m v) written
            ∙ with_row-other lists.codes (suc (last_row n tree)) r (omega (arith, s.matrix.characters)) m v s.matrix.characters low
            (omega arith)
            (λ e. omega arith)

    -- there is room for the row
    row_fits : k < n → row_start (suc (last_row n tree)) + m ≤ length lists.codes
    row_fits less = omega (arith, s.matrix.full, s.matrix.taxa, s.matrix.characters, last_is)

    -- not all taxa are placed
    some_left : k < n
    some_left = omega (arith, standing_placed, taxa_placed_lt n tree b u)

    -- the matrix then holds the rows of all nodes of the new tree
    pub placed-rows : rows_of (matrix_placed lists n m tree b) m (last_row n (place_in lists n m tree b).tree)
        ≡ rows ++ (place_in lists n m tree b).made
    placed-rows = go placed-step
      where
        go : Step → rows_of (matrix_placed lists n m tree b) m (last_row n (place_in lists n m tree b).tree)
            ≡ rows ++ (place_in lists n m tree b).made
        go (first one same kept) =
            let last : last_row n (place_in lists n m tree b).tree ≡ last_row n tree = omega (arith, placed_last, last_is) in
            ap₂ (λ (all : List ℤ) (count : ℕ). rows_of all m count) kept last
            ∙ sym (append-nil rows)
            ∙ ap (λ (made : List (List ℤ)). rows ++ made) (sym same)
        go (later two r long known more written) =
            let last : last_row n (place_in lists n m tree b).tree ≡ last_row n tree + 1 = omega (arith, placed_last, last_is) in
            ap₂ (λ (all : List ℤ) (count : ℕ). rows_of all m count) (written ∙ sym (one-row lists.codes (suc (last_row n tree)) r)) last
            ∙ with_rows-rows lists.codes m (last_row n tree) (r ∷ []) (only r long) s.matrix.characters
            (omega (arith, row_fits some_left, s.matrix.full, s.matrix.taxa, last_is, some_left))
            ∙ ap (λ (made : List (List ℤ)). rows ++ made) (sym more)
          where
            only : (r : List ℤ) → length r ≡ m → (i : ℕ) → i < length (r ∷ []) → length (get_or (r ∷ []) i []) ≡ m
            only r long zero h = long
            only r long (suc i) h = absurd (omega arith)

    -- on a tree of several taxa the codes of the new HTU are the medians of the taxon and of the two ends of its interval
    pub placed-medians : Grown n k tree → row (matrix_placed lists n m tree b) m (suc (last_row n tree))
        ≡ median_row (row lists.codes m) b (place_in lists n m tree b).placement.lower
        (ancestor tree (place_in lists n m tree b).placement.lower)
    unfolding place_in hang
    placed-medians g =
        let c : ℕ = nearest_lower lists n m tree b in
        let r : List ℤ = median_row (row lists.codes m) b c (ancestor tree c) in
        let long : length r ≡ m = median_sized g c (nearest_node (difference lists.weights) n tree (row lists.codes m) b k g).1 in
        let lower = ap (λ (p : AfterPlacing). p.placement.lower)
        (place-later (difference lists.weights) n tree (row lists.codes m) b k g) in
        ap (λ (all : List ℤ). row all m (suc (last_row n tree))) (written_later lists n m tree b k g)
        ∙ ap (λ (count : ℕ). row (with_row lists.codes (suc (last_row n tree)) r) count (suc (last_row n tree))) (sym long)
        ∙ with_row-same lists.codes (suc (last_row n tree)) r (omega (arith, row_fits some_left))
        ∙ ap (λ (v : ℕ). median_row (row lists.codes m) b v (ancestor tree v)) (sym lower)

    -- and the new tree stands in it
    pub placed_standing : Standing (with_codes lists (matrix_placed lists n m tree b)) n m (suc k) (place_in lists n m tree b).tree
    placed_standing =
        record {
          matrix = record {
            full = placed-size ∙ s.matrix.full;
            taxon = s.matrix.taxon;
            taxa = s.matrix.taxa;
            character = s.matrix.character;
            characters = s.matrix.characters;
            known = λ v low high. rw (placed-other v low (taxon-within v high)) (s.matrix.known v low high);
          };
          weighted = s.weighted;
          growing = placed_grows;
          sized = unfold place_in in (place-size (difference lists.weights) n tree (row lists.codes m) b ∙ s.sized);
          known = λ v low high. known_after v low high placed-step;
        }
      where
        taxon-within : (v : ℕ) → v ≤ n → v ≤ last_row n tree
        taxon-within v high = omega (arith, last_is)

        known_after : (v : ℕ) → n < v → v ≤ n + (suc k - 2) → Step → all_in_range (row (matrix_placed lists n m tree b) m v) ≡ true
        known_after v low high (first one same kept) = absurd (omega arith)
        known_after v low high (later two r long known more written) =
            by_cases
            (dec_le v (last_row n tree))
            (λ old. rw (placed-other v (omega arith) old) (s.known v low (omega (arith, last_is))))
            (λ new.
            let here : v ≡ suc (last_row n tree) = omega (arith, last_is) in
            let at-r : row (matrix_placed lists n m tree b) m v ≡ r =
            rw (here, written, sym long) (with_row-same lists.codes (suc (last_row n tree)) r (omega (arith, row_fits some_left))) in
            rw at-r known)
