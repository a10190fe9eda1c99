-- A branching has all nodes 1 to 2n-2, and only its ancestors count: the list that holds them may be longer or shorter.
use mathlib.Core.Path.{◌≡◌, refl, sym, ap, ◌∙◌, subst, fun_ext}
use mathlib.Core.Logic.{◌⊎◌, inl, inr, ⊎_elim, by_cases}
use mathlib.Core.List.{List, Memᴰ}
use mathlib.Core.Bool.{Bool, true}
use Prim.Native.Nat.{ℕ, ◌*◌, ◌-◌, ◌≤◌, ◌<◌}
use native.Mathlib.Omega.{arith}
use native.Mathlib.Decide.{dec_le}
use lib.Dec.{eqb}
use lib.ListN.{length}
use Rattle.lists.specs.Numbers.{numbers}
use Rattle.matrix_form.specs.Shape.{last_node}
use Rattle.lists.proofs.Numbers.{numbers-within}
use Rattle.tree_form.specs.Ancestors.{ancestor}
use Rattle.lists.specs.Filters.{keep}
use Rattle.tree_form.specs.Nodes.{in_tree, nodes_in, other_nodes, taxa_placed}
use Rattle.tree_form.specs.Growing.{descendant_count, descendants_wanted, climbs}
use Rattle.tree_form.specs.Facts.{InTree, ReachesRoot, root, up, Grown, GrowingTree, alone, several, Branching}
use Rattle.lists.specs.Sums.{sum_over}
use Rattle.tree_form.specs.Branches.{tree_length}
use Rattle.tree_form.proofs.Nodes.{in_tree-same, taxa_placed_le, in_tree_iff}
use Rattle.tree_form.proofs.Counts.{all_placed, grown-within}
use Rattle.tree_form.proofs.Test.{reaches_within}
use Rattle.lists.proofs.Keep.{keep_all}
use Rattle.tree_form.proofs.Descendants.{wanted_taxon, wanted_htu, descendants-keep}

-- every node of a branching but node 1 has an immediate ancestor
pub branching_nodes : (n : ℕ) (tree : List ℕ) → Branching n tree → (v : ℕ) → 2 ≤ v → v ≤ 2 * n - 2 → 1 ≤ ancestor tree v
branching_nodes n tree b v l h = go b refl
  where
    go : {k : ℕ} → GrowingTree n tree k → k ≡ n → 1 ≤ ancestor tree v
    go (alone none) e = absurd (omega arith)
    go (several {k = k} g) e =
        by_cases
        (dec_le v n)
        (λ taxon. all_placed n tree (g.placed ∙ e) v l taxon)
        (λ htu. g.htus_in v (omega arith) (omega arith))

-- only nodes 2 to 2n-2 of a growing tree have an ancestor
pub growing-within : (n : ℕ) (tree : List ℕ) {k : ℕ} → GrowingTree n tree k → (v : ℕ) → 1 ≤ ancestor tree v → (2 ≤ v) × (v ≤ 2 * n - 2)
growing-within n tree (alone none) v a = absurd (omega (arith, none v))
growing-within n tree (several {k = k} g) v a = grown-within n k tree g v a

-- no other number has one
pub growing-outside : (n : ℕ) (tree : List ℕ) {k : ℕ} → GrowingTree n tree k → (v : ℕ) → (v < 2) ⊎ (2 * n - 2 < v) → ancestor tree v ≡ 0
growing-outside n tree g v out =
    by_cases
    (dec_le 1 (ancestor tree v))
    (λ a. let w = growing-within n tree g v a in absurd (⊎_elim (λ l. omega arith) (λ l. omega arith) out))
    (λ a. omega arith)

-- no ancestor in a growing tree has a number above 2n-2
pub growing_ancestor_le : (n : ℕ) (tree : List ℕ) {k : ℕ} → GrowingTree n tree k → (v : ℕ) → ancestor tree v ≤ 2 * n - 2
growing_ancestor_le n tree (alone none) v = omega (arith, none v)
growing_ancestor_le n tree (several {k = k} g) v =
    by_cases
    (dec_le 1 (ancestor tree v))
    (λ a.
    ⊎_elim
    (λ e. omega (arith, g.placed, taxa_placed_le tree n, g.at_least_two))
    (λ h. (growing-within n tree (several g) (ancestor tree v) h).1)
    (g.ancestors_in v a))
    (λ a. omega arith)

-- a branching of two taxa or more is a tree of all n taxa
pub branching-grown : (n : ℕ) (tree : List ℕ) → 2 ≤ n → Branching n tree → Grown n n tree
branching-grown n tree two b = go b refl
  where
    go : {k : ℕ} → GrowingTree n tree k → k ≡ n → Grown n n tree
    go (alone none) e = absurd (omega arith)
    go (several {k = k} g) e = subst (λ (j : ℕ). Grown n j tree) e g

-- in document 01's words, for two taxa or more
module _ (n : ℕ) (tree : List ℕ) (two : 2 ≤ n) (b : Branching n tree) where
  -- node 1 is the ancestor of exactly one node
  pub branching-root : descendant_count n tree 1 ≡ 1
  unfolding descendants_wanted
  branching-root = (branching-grown n tree two b).descendants_right 1 (inl refl)

  -- each other taxon of none
  pub branching-taxon : (v : ℕ) → 2 ≤ v → v ≤ n → descendant_count n tree v ≡ 0
  branching-taxon v l h =
      (branching-grown n tree two b).descendants_right v (inr (branching_nodes n tree b v l (omega arith))) ∙ wanted_taxon n v l h

  -- each HTU of exactly two
  pub branching-htu : (v : ℕ) → n < v → v ≤ 2 * n - 2 → descendant_count n tree v ≡ 2
  branching-htu v l h =
      (branching-grown n tree two b).descendants_right v (inr (branching_nodes n tree b v (omega arith) h)) ∙ wanted_htu n v (omega arith) l

  -- going up from any node reaches node 1
  pub branching_reaches : (v : ℕ) → 2 ≤ v → v ≤ 2 * n - 2 → ReachesRoot tree v
  branching_reaches v l h = (branching-grown n tree two b).rooted v (inr (branching_nodes n tree b v l h))

  -- within 2n-2 steps
  pub branching-climbs : (v : ℕ) → 2 ≤ v → v ≤ 2 * n - 2 → climbs tree (2 * n - 2) v ≡ true
  unfolding last_node
  branching-climbs v l h =
      let last : last_node n ≡ 2 * n - 2 = omega arith in
      rw last at (reaches_within tree n (growing-within n tree b) (branching_reaches v l h))

-- the length of a branching is the sum over all nodes but node 1
pub branching-length : (d : ℕ → ℕ → ℕ) (n : ℕ) (tree : List ℕ) → Branching n tree
    → tree_length d n tree ≡ sum_over (λ v. d v (ancestor tree v)) (other_nodes n)
unfolding tree_length nodes_in other_nodes
branching-length d n tree b =
    ap (sum_over (λ v. d v (ancestor tree v))) (keep_all (in_tree tree) (other_nodes n) all)
  where
    all : (v : ℕ) → Memᴰ v (numbers 2 (2 * n - 3)) → in_tree tree v ≡ true
    all v m =
        let w = numbers-within 2 (2 * n - 3) v m in
        (in_tree_iff tree v).1 (inr (branching_nodes n tree b v w.0 (omega arith)))

-- two lists that give every number one ancestor
module _ (n : ℕ) (old new : List ℕ) (same : (v : ℕ) → ancestor old v ≡ ancestor new v) where
  -- as many taxa are placed
  taxa_placed-same : taxa_placed n old ≡ taxa_placed n new
  unfolding taxa_placed nodes_in
  taxa_placed-same = ap (λ (test : ℕ → Bool). length (keep test (numbers 1 n))) (fun_ext (λ v. in_tree-same new old v (same v)))

  -- each node has as many descendants
  count_same : (v : ℕ) → descendant_count n old v ≡ descendant_count n new v
  unfolding descendant_count
  count_same v =
      ap length (descendants-keep old (other_nodes n) v)
      ∙ ap (λ (test : ℕ → Bool). length (keep test (other_nodes n))) (fun_ext (λ u. ap (λ (a : ℕ). eqb a v) (same u)))
      ∙ sym (ap length (descendants-keep new (other_nodes n) v))

  -- going up reaches node 1 from the same nodes
  reaches_same : {v : ℕ} → ReachesRoot old v → ReachesRoot new v
  reaches_same root = root
  reaches_same (up v r) = up v (rw same at (reaches_same r))

  -- what is in the second tree is in the first
  back : (v : ℕ) → InTree new v → InTree old v
  back v (inl e) = inl e
  back v (inr a) = inr (rw same a)

  -- and the other way round
  forth : (v : ℕ) → InTree old v → InTree new v
  forth v (inl e) = inl e
  forth v (inr a) = inr (rw same at a)

  -- if one is a growing tree, so is the other
  pub growing-same : {k : ℕ} → GrowingTree n old k → GrowingTree n new k
  growing-same (alone none) = alone (λ v. sym (same v) ∙ none v)
  growing-same (several g) =
      several
      (record {
        placed = sym taxa_placed-same ∙ g.placed;
        at_least_two = g.at_least_two;
        nodes_only = λ v a. g.nodes_only v (rw same a);
        htus_in = λ v l h. rw same at (g.htus_in v l h);
        ancestors_in = λ v a. rw same at (forth (ancestor old v) (g.ancestors_in v (rw same a)));
        descendants_right = λ v i. sym (count_same v) ∙ g.descendants_right v (back v i);
        rooted = λ v i. reaches_same (g.rooted v (back v i));
      })
