-- What the claim says of a lent matrix, in the terms of the calls on it.
use mathlib.Core.Path.{◌≡◌, sym, ap₂}
use mathlib.Core.Bool.{Bool, true, false}
use mathlib.Core.List.{List, [], ◌++◌, map, map-append}
use Prim.Native.Nat.{ℕ, ◌+◌, ◌-◌, ◌≤◌, ◌<◌}
use native.Mathlib.Omega.{arith}
use borrow.Author.Tests.{eq-eqb}
use lib.Dec.{eqb}
use lib.IntN.{ℤ}
use lib.ListN.{length, get_or}
use Rattle.tree_form.proofs.Test.{growing-fact}
use Rattle.tree_form.proofs.InMatrix.{by_list}
use Rattle.std.specs.Prelude.{Ok}
use Rattle.matrix_form.specs.Spans.{spans_of}
use Rattle.fit_form.specs.Rival.{FitIsLeast}
use Rattle.matrix_form.specs.NodeRows.{rows_of, row_of}
use Rattle.lists.specs.Numbers.{numbers}
use Rattle.lists.specs.Tests.{every}
use Rattle.matrix_form.specs.Shape.{row, MatrixLists}
use Rattle.matrix_form.specs.Questions.{all_in_range, ask_matrix}
use Rattle.matrix_form.specs.declared.refusal.Refusal.TheVariants.{NotBranching, ListSize}
use Rattle.matrix_form.proofs.Passing.{ask_passed, matrix_passed, numbers_asked}
use Rattle.matrix_form.proofs.Each.{and_then_passed}
use Rattle.difference_form.specs.Rows.{difference, node_difference, weighing}
use Rattle.prim_form.specs.Network.{network}
use Rattle.prim_form.proofs.Agreement.{network_agrees}
use Rattle.tree_form.specs.Nodes.{taxa_placed, last_row}
use Rattle.tree_form.proofs.Nodes.{taxa_placed_le}
use Rattle.lists.proofs.Numbers.{numbers-append, length_map_numbers, map-numbers}
use Rattle.lists.proofs.Every.{every-from}
use Rattle.matrix_form.proofs.Row.{row-length}
use Rattle.file_form.specs.Job.{has_codes}
use Rattle.tree_form.specs.declared.branch.Branch.{Branch}
use Rattle.tree_form.specs.Branches.{ancestors_of, lent_branching}
use Rattle.tree_form.proofs.Passed.{PlacementAsked}
use Rattle.tree_form.specs.Placing.{place}
use Rattle.tree_form.specs.Rival.{PlacementIsLeast}
use Rattle.rivals.specs.Accepted.{CodeRows, matrix_lent, HandedIn}
use Rattle.rivals.proofs.Demand.{no_rival}
use Rattle.tree_form.specs.Growing.{row_one_alone}
use Rattle.tree_form.specs.Asking.{htus_of, ask_branching, branches_size}
use Rattle.matrix_form.proofs.NodeRows.{row_of-rows_of}

-- the network that the call answers is the one that the claim and the listing speak of
pub same-network : (lists : MatrixLists) (n m : ℕ)
    → network (node_difference (difference lists.weights) (row_of (rows_of lists.codes m n))) n
    ≡ network (node_difference (difference lists.weights) (row lists.codes m)) n
unfolding node_difference
same-network lists n m =
    network_agrees (node_difference (difference lists.weights) (row_of (rows_of lists.codes m n)))
    (node_difference (difference lists.weights) (row lists.codes m)) n
    (λ x y tx ty. ap₂ (difference lists.weights) (row_of-rows_of lists.codes m n x tx.0 tx.1) (row_of-rows_of lists.codes m n y ty.0 ty.1))

-- a test of the rows of some nodes, row by row
rows-every : (test : List ℤ → Bool) (codes : List ℤ) (m first count : ℕ)
    → ((v : ℕ) → first ≤ v → v < first + count → test (row codes m v) ≡ true)
    → every test (map (row codes m) (numbers first count)) ≡ true
rows-every test codes m first count h = every-from test [] (map (row codes m) (numbers first count)) at_index
  where
    at_index : (i : ℕ) → i < length (map (row codes m) (numbers first count))
        → test (get_or (map (row codes m) (numbers first count)) i []) ≡ true
    at_index i below =
        let small : i < count = omega (arith, length_map_numbers (row codes m) first count) in
        rw (map-numbers (row codes m) [] first count i small) (h (first + i) (omega arith) (omega arith))

-- a tree and a taxon that the questions of a placement let pass
module _ (lists : MatrixLists) (n m : ℕ) (tree : List ℕ) (b : ℕ) (asked : PlacementAsked lists n m tree b) where
  -- behind the rows of the taxa, those of the HTUs make the rows of all nodes of the tree
  rows_behind : rows_of lists.codes m n ++ map (row lists.codes m) (htus_of n tree) ≡ rows_of lists.codes m (last_row n tree)
  unfolding rows_of htus_of last_row
  rows_behind =
      let next : n + 1 ≡ 1 + n = omega arith in
      rw (next, numbers-append 1 n (taxa_placed n tree - 2))
      (sym (map-append (row lists.codes m) (numbers 1 n) (numbers (1 + n) (taxa_placed n tree - 2))))

  -- the row of each HTU of the tree has m codes from -999 to 999
  htu-rows : CodeRows m (map (row lists.codes m) (htus_of n tree))
  unfolding htus_of has_codes
  htu-rows =
      let lent = matrix_passed lists n m asked.matrix in
      record {
        full = rows-every (has_codes m) lists.codes m (n + 1) (taxa_placed n tree - 2) (λ v low high.
            eq-eqb _ _
            (row-length lists.codes m v lent.full lent.characters (omega arith) (omega (arith, lent.taxa, taxa_placed_le tree n))));
        known = rows-every all_in_range lists.codes m (n + 1) (taxa_placed n tree - 2)
            ((numbers_asked lists m (n + 1) (taxa_placed n tree - 2)).0 asked.htus);
      }

  -- a tree that is not row 1 alone is handed in, with the rows of its HTUs, as the claim wants it
  pub handed_in : length tree ≡ 127 → row_one_alone tree ≡ false → HandedIn n m tree (map (row lists.codes m) (htus_of n tree))
  unfolding htus_of
  handed_in sized several =
      record {
        sized = sized;
        growing = asked.growing;
        count = length_map_numbers (row lists.codes m) (n + 1) (taxa_placed n tree - 2);
        codes = htu-rows;
        intervals = several;
      }

  -- on a tree that is not row 1 alone our placement is least
  pub placement-lent : length tree ≡ 127 → row_one_alone tree ≡ false
      → PlacementIsLeast (difference lists.weights) n m tree (rows_of lists.codes m (last_row n tree)) b
      (place (difference lists.weights) (row lists.codes m) n tree b)
  placement-lent sized several =
      let grows = growing-fact tree n (omega (arith, asked.unplaced.other, asked.unplaced.taxon)) asked.growing in
      rw (by_list (difference lists.weights) lists.codes n m tree b grows asked.unplaced, ← rows_behind)
      ((no_rival n m lists.weights (rows_of lists.codes m n) (matrix_lent lists n m asked.matrix)).placement tree _ (handed_in sized
      several) b
      asked.unplaced)

-- a lent branching that no question refuses: the fit on it is least
pub fit-lent : (lists : MatrixLists) (n m : ℕ) (records : List Branch) → ask_branching lists n m records ≡ Ok tt
    → FitIsLeast (weighing lists.weights).step (ancestors_of n records) (spans_of lists m n) n m
unfolding spans_of ask_branching
fit-lent lists n m records e =
    let size = ask_passed (eqb (length records) branches_size) ListSize _ e in
    let matrix = and_then_passed (ask_matrix lists n m) _ size.1 in
    let whole = ask_passed (lent_branching n records) NotBranching (Ok tt) matrix.1 in
    (no_rival n m lists.weights (rows_of lists.codes m n) (matrix_lent lists n m matrix.0)).lent_fit records whole.0
