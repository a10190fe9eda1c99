-- The tree of a build is a branching of all n taxa.
use mathlib.Core.Path.{◌≡◌}
use mathlib.Core.Bool.{true}
use mathlib.Core.List.{List, ◌++◌}
use Prim.Native.Nat.{ℕ, zero, suc, ◌+◌, ◌*◌, ◌-◌, ◌≤◌, ◌<◌}
use native.Mathlib.Omega.{arith}
use native.Mathlib.Nat.{zero-add}
use lib.IntN.{ℤ}
use lib.ListN.{length}
use Rattle.difference_form.specs.Rows.{node_difference}
use Rattle.matrix_form.specs.NodeRows.{row_of}
use Rattle.lists.specs.Least.{least_of}
use Rattle.lists.specs.Numbers.{numbers}
use Rattle.tree_form.specs.Nodes.{taxa_placed, nodes_out, Unplaced}
use Rattle.tree_form.specs.Facts.{GrowingTree, alone, Branching}
use Rattle.tree_form.specs.Hanging.{only_row_one}
use Rattle.tree_form.specs.Branches.{lent_branching}
use Rattle.tree_form.proofs.Nodes.{only_row_one-none, only_row_one-size}
use Rattle.tree_form.proofs.Counts.{some-unplaced, unplaced-taxon}
use Rattle.tree_form.proofs.Test.{growing-placed}
use Rattle.tree_form.proofs.Records.{records-lent}
use Rattle.tree_form.specs.declared.order.Order.{Order}
use Rattle.tree_form.specs.declared.order.Order.TheVariants.{Advance, Closest}
use Rattle.wagner_form.specs.Next.{advancement, by_advancement, next_by}
use Rattle.wagner_form.specs.Build.{build_on, build, wagner, wagner_branches}
use Rattle.wagner_form.proofs.Closest.{adds, closeness_least}
use Rattle.tree_form.specs.Placing.{AfterPlacing, place}
use Rattle.lists.proofs.Least.{least_of-mem}
use Rattle.tree_form.proofs.Placing.{place_grows, place-size}

-- a rule for the next taxon chooses one that is not placed, as long as there is one
abbrev pub Chooses : (ℕ → List ℕ → List (List ℤ) → ℕ) → ℕ → Type 0
Chooses next n =
    (tree : List ℕ) (rows : List (List ℤ)) → taxa_placed n tree < n → Unplaced n tree (next n tree rows)

-- the first of least key chooses so, whatever the key
least_chooses : (n : ℕ) (tree : List ℕ) (key : ℕ → ℕ) → taxa_placed n tree < n → Unplaced n tree (least_of key (nodes_out tree (numbers 1 n)))
least_chooses n tree key h =
    let some = some-unplaced n tree h in
    unplaced-taxon n tree (least_of key (nodes_out tree (numbers 1 n))) (least_of-mem key (nodes_out tree (numbers 1 n)) some.0 some.1)

-- so do the two orders of placing
pub order_chooses : (d : List ℤ → List ℤ → ℕ) (order : Order) (n : ℕ) → Chooses (next_by d order) n
unfolding next_by by_advancement
order_chooses d Advance n tree rows h = least_chooses n tree (advancement d rows) h
order_chooses d Closest n tree rows h = rw (closeness_least d n tree rows) (least_chooses n tree (adds d n tree rows) h)

module _ (d : List ℤ → List ℤ → ℕ) (next : ℕ → List ℕ → List (List ℤ) → ℕ) (n : ℕ) (taxa : 1 ≤ n) (chooses : Chooses next n) where
  -- each placement of a build makes the growing tree one taxon larger
  pub build_on_grows : (count k : ℕ) (tree : List ℕ) (rows : List (List ℤ)) → GrowingTree n tree k → count + k ≤ n → 2 * n - 2 < length tree
      → GrowingTree n (build_on d next n count tree rows).tree (count + k)
  unfolding build_on
  build_on_grows zero k tree rows g h room = rw zero-add g
  build_on_grows (suc count) k tree rows g h room =
      let b : ℕ = next n tree rows in
      let placed : AfterPlacing = place d (row_of rows) n tree b in
      let chosen = chooses tree rows (omega (arith, growing-placed tree n taxa g)) in
      let grows = place_grows d n tree (row_of rows) b g room chosen in
      let larger = build_on_grows count (suc k) placed.tree (rows ++ placed.made) grows (omega arith) (rw (place-size d n tree (row_of rows) b) room) in
      let same : suc count + k ≡ count + suc k = omega arith in
      rw same larger

  -- the tree of a build is a branching
  pub build-branching : n ≤ 64 → (rows : List (List ℤ)) → Branching n (build d next n rows).tree
  unfolding build
  build-branching h rows =
      let all : n - 1 + 1 ≡ n = omega arith in
      rw all at (build_on_grows (n - 1) 1 only_row_one rows (alone only_row_one-none) (omega arith) (rw only_row_one-size (omega arith)))

module _ (d : List ℤ → List ℤ → ℕ) (order : Order) (n : ℕ) (taxa : 1 ≤ n) (most : n ≤ 64) (rows : List (List ℤ)) where
  -- the Wagner tree of 1 to 64 rows is a branching
  pub wagner-branching : Branching n (wagner d order n rows).tree
  unfolding wagner
  wagner-branching = build-branching d (next_by d order) n taxa (order_chooses d order n) most rows

  -- its branch records, lent again, are a branching
  pub wagner-lent : lent_branching n (wagner_branches d n (wagner d order n rows)) ≡ true
  unfolding wagner_branches
  wagner-lent = records-lent (node_difference d (row_of (wagner d order n rows).rows)) n (wagner d order n rows).tree wagner-branching taxa
