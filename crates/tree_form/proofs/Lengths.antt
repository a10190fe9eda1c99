-- The length of a tree, and what a taxon that is linked or hung adds to it.
use mathlib.Core.Path.{◌≡◌, ap, ◌∙◌}
use mathlib.Core.List.{List}
use mathlib.Core.Bool.{Bool}
use Prim.Native.Nat.{ℕ, ◌+◌, ◌*◌, ◌-◌, ◌≤◌, ◌<◌}
use native.Mathlib.Omega.{arith}
use lib.Dec.{leb}
use lib.ListN.{length}
use borrow.Author.Tests.{le-leb}
use Rattle.tree_form.specs.Ancestors.{ancestor}
use Rattle.tree_form.specs.Nodes.{nodes_in, other_nodes, Unplaced}
use Rattle.tree_form.specs.Hanging.{linked, hung}
use Rattle.tree_form.specs.Branches.{tree_length}
use Rattle.tree_form.proofs.Nodes.{node_nodes_in}
use Rattle.lists.proofs.Sums.{sum_same, sum_none, pick}
use Rattle.tree_form.proofs.BranchSums.{sum_of_branches, sum_set, tree_length_sum, Joint, sum_hung}

-- two differences that agree on the branches of a tree give it one length
pub tree_length-same : (d e : ℕ → ℕ → ℕ) (n : ℕ) (tree : List ℕ)
    → ((v : ℕ) → 2 ≤ v → 1 ≤ ancestor tree v → d v (ancestor tree v) ≡ e v (ancestor tree v))
    → tree_length d n tree ≡ tree_length e n tree
unfolding tree_length
tree_length-same d e n tree same =
    sum_same (λ v. d v (ancestor tree v)) (λ v. e v (ancestor tree v)) (nodes_in tree (other_nodes n)) λ v m.
    let h = node_nodes_in tree n v m in
    same v h.0 h.2

module _ (d : ℕ → ℕ → ℕ) where
  -- the length of the branch from node v up to a, and 0 if there is none
  span : ℕ → ℕ → ℕ
  span v a = pick (leb 1 a) (d v a)

  -- nothing where there is no branch
  span_none : (v a : ℕ) → a ≡ 0 → span v a ≡ 0
  unfolding span
  span_none v a e = rw e

  -- the difference where there is one
  span-some : (v a : ℕ) → 1 ≤ a → span v a ≡ d v a
  unfolding span
  span-some v a h = ap (λ (t : Bool). pick t (d v a)) (le-leb 1 a h)

  -- the length of a tree is the sum of them
  spans : (n : ℕ) (tree : List ℕ) → tree_length d n tree ≡ sum_of_branches span n tree
  unfolding span
  spans n tree = tree_length_sum d n tree

  -- row 1 alone has length 0
  pub alone-length : (n : ℕ) (tree : List ℕ) → ((v : ℕ) → ancestor tree v ≡ 0) → tree_length d n tree ≡ 0
  unfolding sum_of_branches
  alone-length n tree none =
      spans n tree ∙ sum_none (λ v. span v (ancestor tree v)) (other_nodes n) (λ v m. span_none v (ancestor tree v) (none v))

  -- with the first taxon linked to it, it has the length of that branch
  pub linked-length : (n : ℕ) (tree : List ℕ) → ((v : ℕ) → ancestor tree v ≡ 0) → 2 * n - 2 < length tree → (b : ℕ) → Unplaced n tree b
      → tree_length d n (linked tree b) ≡ d b 1
  unfolding linked
  linked-length n tree none room b u =
      let before = spans n tree in
      let after = spans n (linked tree b) in
      let none_yet = alone-length n tree none in
      let old = span_none b (ancestor tree b) (none b) in
      let new = span-some b 1 (omega arith) in
      let change = sum_set span n tree b 1 (omega arith) u.other (omega arith) in
      omega arith

  -- a taxon hung on the interval between c and its ancestor through y: that branch goes, three come
  pub hung-length : (n : ℕ) (tree : List ℕ) (b c y : ℕ) → Joint n tree b c y
      → ancestor tree b ≡ 0 → 1 ≤ ancestor tree c → ancestor tree y ≡ 0
      → tree_length d n (hung tree b c y) + d c (ancestor tree c) ≡ tree_length d n tree + (d b y + d c y + d y (ancestor tree c))
  hung-length n tree b c y j b-out c-in y-out =
      let before = spans n tree in
      let after = spans n (hung tree b c y) in
      let b-old = span_none b (ancestor tree b) b-out in
      let c-old = span-some c (ancestor tree c) c-in in
      let y-old = span_none y (ancestor tree y) y-out in
      let b-new = span-some b y (omega (arith, j.htu.1)) in
      let c-new = span-some c y (omega (arith, j.htu.1)) in
      let y-new = span-some y (ancestor tree c) c-in in
      let change = sum_hung n tree b c y j span in
      omega arith
