-- A branching is a connected network of its taxa with its HTUs for further nodes: its links are the branches, and by what the steps between
-- the states of an assignment cost its length is the total.
use mathlib.Core.Path.{◌≡◌, refl, ap}
use mathlib.Core.List.{List, map, Memᴰ}
use mathlib.Core.List.Memᴰ
use mathlib.Core.Logic.{inr, by_cases}
use Prim.Native.Nat.{ℕ, ◌-◌, ◌*◌, ◌≤◌}
use native.Mathlib.Omega.{arith}
use native.Mathlib.Decide.{ℕ_discrete}
use lib.IntN.{ℤ}
use Rattle.lists.specs.Numbers.{numbers}
use Rattle.lists.specs.Sums.{sum_over}
use Rattle.lists.proofs.Numbers.{mem-numbers, numbers-within}
use Rattle.lists.proofs.Sums.{sum_map}
use Rattle.tree_form.specs.Ancestors.{ancestor}
use Rattle.tree_form.specs.Nodes.{other_nodes}
use Rattle.tree_form.specs.Facts.{ReachesRoot, root, up, Branching}
use Rattle.tree_form.proofs.Whole.{branching_nodes, growing_ancestor_le, branching_reaches}
use Rattle.fit_form.specs.Assignments.{total, branch_length}
use Rattle.prim_form.specs.Rival.{Reached, start, step, links_length, IsTaxon, IsNode, ConnectedWith}

-- the branches of a tree of n taxa, as links
unfoldable pub branch_links : ℕ → List ℕ → List (ℕ × ℕ)
branch_links n tree = map {B = ℕ × ℕ} (λ v. (v, ancestor tree v)) (other_nodes n)

-- the length of these links, by what the steps between the states of their ends cost, is the total
pub branches-total : (cost : ℕ → ℤ → ℤ → ℕ) (n m : ℕ) (tree : List ℕ) (states : ℕ → ℕ → ℤ)
    → links_length (λ x y. sum_over (λ j. cost j (states x j) (states y j)) (numbers 1 m)) (branch_links n tree)
    ≡ total cost tree n m states
unfolding links_length branch_links total branch_length
branches-total cost n m tree states =
    let by : ℕ → ℕ → ℕ = λ x y. sum_over (λ j. cost j (states x j) (states y j)) (numbers 1 m) in
    sum_map {B = ℕ × ℕ} (λ l. by l.0 l.1) (λ v. (v, ancestor tree v)) (other_nodes n)

module _ (n : ℕ) (tree : List ℕ) (two : 2 ≤ n) (b : Branching n tree) where
  -- v is one of the nodes 1 to 2n-2
  abbrev Inside : ℕ → Type 0
  Inside v = (1 ≤ v) × (v ≤ 2 * n - 2)

  -- the ends of the branch of a node are nodes
  branch_ends : (v : ℕ) → Memᴰ v (other_nodes n) → Inside v × Inside (ancestor tree v)
  unfolding other_nodes
  branch_ends v i =
      let w = numbers-within 2 (2 * n - 3) v i in
      let last = w.1 in
      let first = w.0 in
      ((omega arith, omega arith), (branching_nodes n tree b v first (omega arith), growing_ancestor_le n tree b v))

  -- a node from which going up reaches node 1 is reached from there over the branches
  reached_down : {v : ℕ} → ReachesRoot tree v → Inside v → Reached (λ x. x ≡ 1) (branch_links n tree) v
  unfolding branch_links other_nodes
  reached_down root i = start refl
  reached_down (up v r) i = at (ℕ_discrete v 1) (λ k. reached_down r k)
    where
      at : Dec (v ≡ 1) → (Inside (ancestor tree v) → Reached (λ x. x ≡ 1) (branch_links n tree) (ancestor tree v))
          → Reached (λ x. x ≡ 1) (branch_links n tree) v
      at (yes e) above = start e
      at (no other) above =
          let first = i.0 in
          let last = i.1 in
          let m = (mem-numbers 2 (2 * n - 3) v).1 (omega arith, omega arith) in
          step (above (branch_ends v m).1) (inr (Memᴰ.map (λ u. (u, ancestor tree u)) m))

  -- so the branches are a connected network of the n taxa and the n-2 HTUs
  pub branches_connected : ConnectedWith n (n - 2) (branch_links n tree)
  unfolding branch_links
  branches_connected = record { between = between; reached = reached }
    where
      between : (x y : ℕ) → Memᴰ (x, y) (branch_links n tree) → IsNode n (n - 2) x × IsNode n (n - 2) y
      between x y m =
          let made = Memᴰ.of_map {B = ℕ × ℕ} (λ u. (u, ancestor tree u)) (other_nodes n) m in
          let ends = branch_ends made.0 made.1 in
          let first : made.0 ≡ x = ap (λ (l : ℕ × ℕ). l.0) made.2 in
          let last : ancestor tree made.0 ≡ y = ap (λ (l : ℕ × ℕ). l.1) made.2 in
          let below : Inside made.0 = ends.0 in
          let above : Inside (ancestor tree made.0) = ends.1 in
          ((omega arith, omega arith), (omega arith, omega arith))

      reached : (v : ℕ) → IsTaxon n v → Reached (λ x. x ≡ 1) (branch_links n tree) v
      reached v t =
          by_cases
          (ℕ_discrete v 1)
          (λ one. start one)
          (λ other. reached_down (branching_reaches n tree two b v (omega arith) (omega arith)) (omega arith, omega arith))
