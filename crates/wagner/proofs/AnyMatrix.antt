-- A build in a matrix of its shape, whatever its codes: each turn places a taxon, and writes over states of HTUs alone.
use mathlib.Core.Path.{◌≡◌, ap, ◌∙◌}
use mathlib.Core.List.{List}
use Prim.Native.Nat.{ℕ, suc, ◌≤◌, ◌<◌}
use native.Mathlib.Omega.{arith}
use lib.IntN.{ℤ}
use lib.ListN.{length, drop, length-take}
use Rattle.lists.specs.Numbers.{numbers}
use Rattle.lists.specs.Least.{least_of}
use Rattle.lists.proofs.Least.{least_of-mem}
use Rattle.matrix_form.specs.Shape.{columns, row, row_start, last_node, state_at, MatrixLists}
use Rattle.matrix_form.specs.NodeRows.{with_rows, HtusWritten}
use Rattle.matrix_form.proofs.Limits.{many-unshaped}
use Rattle.matrix_form.proofs.NodeRows.{none-written, more-written, row-written, taxon-unwritten}
use Rattle.difference_form.specs.Rows.{difference}
use Rattle.difference_form.proofs.Laws.Rows.{length-medians}
use Rattle.tree_form.specs.Ancestors.{ancestor}
use Rattle.tree_form.specs.Nodes.{nodes_out, taxa_placed, last_row, Unplaced}
use Rattle.tree_form.specs.Facts.{GrowingTree, alone, several}
use Rattle.tree_form.specs.Hanging.{only_row_one, next_htu}
use Rattle.tree_form.specs.Placing.{AfterPlacing, median_row}
use Rattle.tree_form.proofs.Counts.{some-unplaced, unplaced-taxon}
use Rattle.tree_form.proofs.Nodes.{only_row_one-none, only_row_one-size}
use Rattle.tree_form.proofs.Placing.{place_grows, place-size}
use Rattle.tree_form.proofs.Test.{growing-placed}
use Rattle.branching.specs.declared.placement.Placed.{Placed}
use Rattle.branching.specs.Views.{ancestors}
use Rattle.branching.specs.Nearest.{nearest_lower}
use Rattle.branching.specs.Calls.{place_in, matrix_placed}
use Rattle.branching.specs.Unasked.{unasked, UnaskedDone}
use Rattle.branching.proofs.InMatrix.{written_first, written_later}
use Rattle.branching.proofs.Unasked.{unasked-plain}
use Rattle.tree_form.specs.declared.order.Order.{Order}
use Rattle.wagner.specs.declared.answer.WagnerTree.{WagnerTree}
use Rattle.wagner.specs.Calls.{TreeBuilt}
use Rattle.wagner.specs.Order.{key_of}

-- of a tree in which not all taxa are placed, the unplaced one of least key is not placed
pub least-unplaced : (n : ℕ) (tree keys : List ℕ) (b : ℕ) → taxa_placed n tree < n
    → b ≡ least_of (key_of keys) (nodes_out tree (numbers 1 n)) → Unplaced n tree b
least-unplaced n tree keys b less found =
    let some = some-unplaced n tree less in
    unplaced-taxon n tree b (rw found (least_of-mem (key_of keys) (nodes_out tree (numbers 1 n)) some.0 some.1))

-- what a placement without its questions does, within the limits of n and m
module _ (lists : MatrixLists) (n m : ℕ) (taxa : n ≤ 64) (wide : m ≤ 128) (tree : List ℕ) (b : ℕ) (new : List ℤ) (made : Placed)
    (by : UnaskedDone lists new n m tree b made) where
  -- it is the placement
  same : unasked lists n m tree b ≡ place_in lists n m tree b
  same = unasked-plain lists n m tree b taxa wide

  -- so is what it hands back
  pub placement-is : made.placement ≡ (place_in lists n m tree b).placement
  placement-is = by.placement ∙ ap (λ (p : AfterPlacing). p.placement) same

  -- the tree
  pub tree-is : ancestors made.tree ≡ (place_in lists n m tree b).tree
  tree-is = by.tree ∙ ap (λ (p : AfterPlacing). p.tree) same

  -- and the matrix
  pub matrix-is : new ≡ matrix_placed lists n m tree b
  unfolding matrix_placed
  matrix-is = by.matrix ∙ ap (λ (p : AfterPlacing). with_rows lists.codes (next_htu n tree) p.made) same

-- k of n taxa are placed, and of the matrix at most states of HTUs are written over
pub record PlacedIn (n m k : ℕ) (codes now : List ℤ) (tree : List ℕ) : Type 0 where
  pub growing : GrowingTree n tree k
  pub sized : length tree ≡ 127
  pub only : HtusWritten n m codes now

-- before the first placement
pub begun_in : (n m : ℕ) (codes : List ℤ) (tree : List ℕ) → tree ≡ only_row_one → PlacedIn n m 1 codes codes tree
begun_in n m codes tree is =
    record { growing = rw is (alone only_row_one-none); sized = rw is only_row_one-size; only = none-written n m codes }

-- the median row of nodes of a matrix has at most m codes
median-short : (codes : List ℤ) (m b c e : ℕ) → length (median_row (row codes m) b c e) ≤ m
unfolding median_row row
median-short codes m b c e =
    omega (arith, length-medians (row codes m b) (row codes m c) (row codes m e), length-take m (drop (row_start b) codes))

-- a placement writes over states of HTUs alone
placed_only : (lists : MatrixLists) (n m k : ℕ) (tree : List ℕ) (b : ℕ) → m ≤ 128 → k < n → GrowingTree n tree k
    → HtusWritten n m lists.codes (matrix_placed lists n m tree b)
placed_only lists n m k tree b wide less (alone none) = rw (written_first lists n m tree b none) (none-written n m lists.codes)
placed_only lists n m k tree b wide less (several g) =
    let c = nearest_lower lists n m tree b in
    rw (written_later lists n m tree b k g)
    (row-written lists.codes (suc (last_row n tree)) _ n m (unfold last_row in omega arith)
    (unfold last_row last_node in omega (arith, g.placed, g.at_least_two)) (median-short lists.codes m b c (ancestor tree c)) wide)

-- one taxon more
pub next_in : (lists : MatrixLists) (n m k : ℕ) (codes : List ℤ) (tree keys : List ℕ) (b : ℕ) → 1 ≤ n → n ≤ 64 → m ≤ 128 → k < n
    → PlacedIn n m k codes lists.codes tree → b ≡ least_of (key_of keys) (nodes_out tree (numbers 1 n))
    → (new : List ℤ) (made : Placed) → UnaskedDone lists new n m tree b made → PlacedIn n m (suc k) codes new (ancestors made.tree)
unfolding place_in
next_in lists n m k codes tree keys b some taxa wide less before found new made by =
    let free = least-unplaced n tree keys b (omega (arith, growing-placed tree n some before.growing)) found in
    let after = tree-is lists n m taxa wide tree b new made by in
    record {
      growing = rw after (place_grows (difference lists.weights) n tree (row lists.codes m) b before.growing (omega (arith, before.sized)) free);
      sized = rw after (place-size (difference lists.weights) n tree (row lists.codes m) b ∙ before.sized);
      only =
          more-written n m codes lists.codes new before.only
          (rw (matrix-is lists n m taxa wide tree b new made by) (placed_only lists n m k tree b wide less before.growing));
    }

-- whatever matrix is handed to a build, the codes of its taxa stay
pub taxa_same : (order : Order) (lists : MatrixLists) (new : List ℤ) (n m : ℕ) (r : WagnerTree) → TreeBuilt order lists new n m r
    → (v j : ℕ) → 1 ≤ v → v ≤ n → 1 ≤ j → j ≤ columns → state_at new v j ≡ state_at lists.codes v j
taxa_same order lists new n m r of = taxon-unwritten n m lists.codes new of.only

-- for more than 64 taxa nothing is written, and none is placed
pub many-unbuilt : (order : Order) (lists : MatrixLists) (new : List ℤ) (n m : ℕ) (r : WagnerTree) → TreeBuilt order lists new n m r
    → 64 < n → (new ≡ lists.codes) × (r.placements.count ≡ 0)
many-unbuilt order lists new n m r of more =
    let none = of.unshaped (many-unshaped (length lists.codes) n m more) in
    (none.0, none.1.placements.count)
