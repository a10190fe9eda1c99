-- The nodes of a tree: the tests and the facts that they tell.
use mathlib.Core.Path.{◌≡◌, refl, sym, ap, ◌∙◌}
use mathlib.Core.Logic.{◌↔◌, inl, inr, ⊎_elim, by_cases, ◌≢◌}
use mathlib.Core.List.{List, Memᴰ}
use mathlib.Core.Bool.{true, false, not, ◌||◌, false≢true}
use Prim.Native.Nat.{ℕ, zero, suc, ◌*◌, ◌-◌, ◌≤◌, ◌<◌}
use native.Mathlib.Omega.{arith}
use native.Mathlib.Decide.{dec_le}
use lib.Dec.{leb, eqb}
use lib.ListN.{length, get_or, replicate, get_or-eq_default}
use borrow.Author.Tests.{ne_eqb, leb-false, lt-leb, not-true}
use Rattle.lists.specs.Numbers.{numbers}
use Rattle.lists.proofs.Numbers.{length-numbers, numbers-within, numbers-among}
use Rattle.lists.proofs.Both.{leb_iff, eqb_iff, or_iff}
use Rattle.tree_form.specs.Ancestors.{ancestor}
use Rattle.tree_form.specs.Nodes.{has_ancestor, in_tree, nodes_in, other_nodes, taxa_placed}
use Rattle.tree_form.specs.Facts.{InTree}
use Rattle.tree_form.specs.Hanging.{only_row_one}
use Rattle.lists.proofs.Keep.{keep-mem, mem-keep, length_keep_le}

-- a list of one number throughout has it at every place, and beyond its end if it stands in there
pub same_everywhere : {A : Type 0} (count v : ℕ) (a : A) → get_or (replicate count a) v a ≡ a
same_everywhere zero v a = refl
same_everywhere (suc count) zero a = refl
same_everywhere (suc count) (suc v) a = same_everywhere count v a

-- in row 1 alone, as a build starts, no node has an ancestor
pub only_row_one-none : (v : ℕ) → ancestor only_row_one v ≡ 0
unfolding only_row_one ancestor
only_row_one-none v = same_everywhere 127 v 0

-- it has 127 entries
pub only_row_one-size : length only_row_one ≡ 127
unfolding only_row_one
only_row_one-size = refl

-- whether a node is in the tree turns on its ancestor alone
pub in_tree-same : (old new : List ℕ) (v : ℕ) → ancestor new v ≡ ancestor old v → in_tree new v ≡ in_tree old v
unfolding in_tree has_ancestor
in_tree-same old new v e = ap (λ (a : ℕ). eqb v 1 || leb 1 a) e

module _ (tree : List ℕ) where
  -- a number beyond the list of ancestors has none
  pub ancestor-beyond : (v : ℕ) → length tree ≤ v → ancestor tree v ≡ 0
  unfolding ancestor
  ancestor-beyond v h = get_or-eq_default tree 0 h

  -- so a number that has one is a place of the list
  pub ancestor-place : (v : ℕ) → 1 ≤ ancestor tree v → v < length tree
  ancestor-place v h = by_cases (dec_le (length tree) v) (λ b. absurd (omega (arith, ancestor-beyond v b))) (λ b. omega arith)

  -- the test for having an ancestor
  pub has_ancestor_iff : (v : ℕ) → (has_ancestor tree v ≡ true) ↔ (1 ≤ ancestor tree v)
  unfolding has_ancestor
  has_ancestor_iff v = leb_iff 1 (ancestor tree v)

  -- the test for having none
  pub no_ancestor_iff : (v : ℕ) → (not (has_ancestor tree v) ≡ true) ↔ (ancestor tree v ≡ 0)
  unfolding has_ancestor
  no_ancestor_iff v = (
    λ e. omega (arith, leb-false 1 (ancestor tree v) (not-true (has_ancestor tree v) e)),
    λ e. ap not (lt-leb 1 (ancestor tree v) (omega arith)),
  )

  -- the test for being in the tree
  pub in_tree_iff : (v : ℕ) → (in_tree tree v ≡ true) ↔ InTree tree v
  unfolding in_tree
  in_tree_iff v = or_iff (eqb_iff v 1) (has_ancestor_iff v)

  -- a number other than 1 without an ancestor is not in the tree
  pub false-in_tree : (v : ℕ) → 2 ≤ v → ancestor tree v ≡ 0 → in_tree tree v ≡ false
  unfolding in_tree has_ancestor
  false-in_tree v h e = rw (ne_eqb v 1 (λ p. omega arith)) (lt-leb 1 (ancestor tree v) (omega arith))

  -- what is not in the tree is not node 1 and has no ancestor
  pub not-in_tree : (v : ℕ) → not (in_tree tree v) ≡ true → (v ≢ 1) × (ancestor tree v ≡ 0)
  not-in_tree v e =
      let out : ¬ InTree tree v = λ i. false≢true (sym (not-true (in_tree tree v) e) ∙ (in_tree_iff v).1 i) in
      (λ p. out (inl p), by_cases (dec_le 1 (ancestor tree v)) (λ a. absurd (out (inr a))) (λ a. omega arith))

  -- at most all taxa are placed
  pub taxa_placed_le : (n : ℕ) → taxa_placed n tree ≤ n
  unfolding taxa_placed nodes_in
  taxa_placed_le n = omega (arith, length_keep_le (in_tree tree) (numbers 1 n), length-numbers 1 n)

  -- a node in the tree other than node 1 is one of nodes 2 to 2n-2 in the tree
  pub nodes_in_node : (n v : ℕ) → 2 ≤ v → v ≤ 2 * n - 2 → InTree tree v → Memᴰ v (nodes_in tree (other_nodes n))
  unfolding nodes_in other_nodes
  nodes_in_node n v l h i =
      let m = numbers-among 2 (2 * n - 3) v l (omega arith) in mem-keep (in_tree tree) (numbers 2 (2 * n - 3)) v m ((in_tree_iff v).1 i)

  -- and each of these has an ancestor
  pub node_nodes_in : (n v : ℕ) → Memᴰ v (nodes_in tree (other_nodes n)) → (2 ≤ v) × (v ≤ 2 * n - 2) × (1 ≤ ancestor tree v)
  unfolding nodes_in other_nodes
  node_nodes_in n v m =
      let k = keep-mem (in_tree tree) (numbers 2 (2 * n - 3)) v m in
      let b = numbers-within 2 (2 * n - 3) v k.0 in
      ⊎_elim (λ e. absurd (omega arith)) (λ h. (omega arith, omega arith, h)) ((in_tree_iff v).0 k.1)
