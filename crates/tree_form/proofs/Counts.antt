-- How many taxa are placed, which are not, and which nodes a growing tree has.
use mathlib.Core.Path.{◌≡◌, refl, ap}
use mathlib.Core.Logic.{inl, inr, ⊎_elim, ◌≢◌}
use mathlib.Core.List.{List, Memᴰ}
use mathlib.Core.Bool.{true, not}
use Prim.Native.Nat.{ℕ, suc, ◌*◌, ◌-◌, ◌≤◌, ◌<◌}
use native.Mathlib.Omega.{arith}
use Rattle.lists.specs.Numbers.{numbers}
use Rattle.lists.proofs.Numbers.{length-numbers, numbers-within, numbers-among}
use Rattle.tree_form.specs.Ancestors.{ancestor}
use Rattle.lists.specs.Filters.{keep}
use Rattle.tree_form.specs.Nodes.{in_tree, nodes_in, nodes_out, other_nodes, taxa_placed, Unplaced}
use Rattle.tree_form.specs.Growing.{descendants_wanted}
use Rattle.tree_form.specs.Facts.{Grown}
use Rattle.tree_form.proofs.Nodes.{false-in_tree, not-in_tree, taxa_placed_le, nodes_in_node, in_tree_iff}
use Rattle.lists.proofs.Sums.{length-keep, sum_changed, counted}
use Rattle.lists.proofs.Keep.{keep-mem, mem-keep, keep-split, keep_grows, length-mem, length_keep_le}
use Rattle.tree_form.proofs.Descendants.{has_descendant}

-- if all taxa are placed, each is in the tree
pub all_placed : (n : ℕ) (tree : List ℕ) → taxa_placed n tree ≡ n → (v : ℕ) → 2 ≤ v → v ≤ n → 1 ≤ ancestor tree v
unfolding taxa_placed nodes_in
all_placed n tree all v l h =
    ⊎_elim
    (λ back.
    let m = numbers-among 1 n v (omega arith) (omega arith) in
    ⊎_elim (λ e. absurd (omega arith)) (λ a. a) ((in_tree_iff tree v).0 (back v m refl)))
    (λ less. absurd (omega (arith, length_keep_le (λ v. true) (numbers 1 n), length-numbers 1 n)))
    (keep_grows (in_tree tree) (λ v. true) (numbers 1 n) (λ v m t. refl))

-- so with a taxon that is not in the tree not all are placed
pub taxa_placed_lt : (n : ℕ) (tree : List ℕ) (b : ℕ) → Unplaced n tree b → taxa_placed n tree < n
taxa_placed_lt n tree b u =
    let not-all : taxa_placed n tree ≢ n = λ all. omega (arith, all_placed n tree all b u.other u.taxon) in
    omega (arith, taxa_placed_le tree n)

-- when just taxon b comes in, one taxon more is placed
pub taxa_placed-more : (n : ℕ) (old new : List ℕ) (b : ℕ) → Unplaced n old b → 1 ≤ ancestor new b
    → ((v : ℕ) → v ≤ n → v ≢ b → in_tree new v ≡ in_tree old v)
    → taxa_placed n new ≡ suc (taxa_placed n old)
unfolding taxa_placed nodes_in
taxa_placed-more n old new b u comes same =
    let before = length-keep (in_tree old) (numbers 1 n) in
    let after = length-keep (in_tree new) (numbers 1 n) in
    let b-in : counted (in_tree new b) ≡ 1 = ap counted ((in_tree_iff new b).1 (inr comes)) in
    let b-out : counted (in_tree old b) ≡ 0 = ap counted (false-in_tree old b u.other u.free) in
    let change =
    sum_changed (λ v. counted (in_tree new v)) (λ v. counted (in_tree old v)) b 1 n (omega arith) (omega arith) λ v m ne.
    ap counted (same v (omega (arith, numbers-within 1 n v m)) ne) in
    omega arith

-- if not all taxa are placed, one is not
pub some-unplaced : (n : ℕ) (tree : List ℕ) → taxa_placed n tree < n → (v : ℕ) × Memᴰ v (nodes_out tree (numbers 1 n))
unfolding taxa_placed nodes_in nodes_out
some-unplaced n tree h =
    length-mem
    (keep (λ v. not (in_tree tree v)) (numbers 1 n))
    (omega (arith, keep-split (in_tree tree) (numbers 1 n), length-numbers 1 n))

-- what is not placed is a taxon other than row 1 without an ancestor
pub unplaced-taxon : (n : ℕ) (tree : List ℕ) (v : ℕ) → Memᴰ v (nodes_out tree (numbers 1 n)) → Unplaced n tree v
unfolding nodes_out
unplaced-taxon n tree v m =
    let k = keep-mem (λ v. not (in_tree tree v)) (numbers 1 n) v m in
    let b = numbers-within 1 n v k.0 in
    let out = not-in_tree tree v k.1 in
    record { other = omega arith; taxon = omega arith; free = out.1 }

-- and each such taxon is one that is not placed
pub taxon-unplaced : (n : ℕ) (tree : List ℕ) (v : ℕ) → Unplaced n tree v → Memᴰ v (nodes_out tree (numbers 1 n))
unfolding nodes_out
taxon-unplaced n tree v u =
    mem-keep (λ v. not (in_tree tree v)) (numbers 1 n) v (numbers-among 1 n v (omega (arith, u.other)) (omega (arith, u.taxon)))
    (ap not (false-in_tree tree v u.other u.free))

-- a growing tree of several taxa has a node other than node 1
pub grown_node : (n k : ℕ) (tree : List ℕ) → Grown n k tree → (u : ℕ) × Memᴰ u (nodes_in tree (other_nodes n))
unfolding descendants_wanted nodes_in
grown_node n k tree g =
    let h = has_descendant n tree 1 (rw (g.descendants_right 1 (inl refl)) (omega arith)) in
    (h.0, mem-keep (in_tree tree) (other_nodes n) h.0 h.1 ((in_tree_iff tree h.0).1 (inr (omega (arith, h.2)))))

-- every node of it with an ancestor is one of nodes 2 to 2n-2
pub grown-within : (n k : ℕ) (tree : List ℕ) → Grown n k tree → (v : ℕ) → 1 ≤ ancestor tree v → (2 ≤ v) × (v ≤ 2 * n - 2)
grown-within n k tree g v a =
    let within = g.nodes_only v a in
    let taxa = g.placed in
    let most = taxa_placed_le tree n in
    omega arith

-- and stands in the list of those in the tree
pub grown_nodes : (n k : ℕ) (tree : List ℕ) → Grown n k tree → (v : ℕ) → 1 ≤ ancestor tree v → Memᴰ v (nodes_in tree (other_nodes n))
grown_nodes n k tree g v a =
    let within = grown-within n k tree g v a in
    nodes_in_node tree n v within.0 within.1 (inr a)
