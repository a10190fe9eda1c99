-- The test for a growing tree and the proposition agree.
use mathlib.Core.Path.{◌≡◌, refl, ap}
use mathlib.Core.Logic.Iff
use mathlib.Core.Logic.{◌↔◌, ◌⊎◌, inl, inr, ⊎_elim, by_cases}
use mathlib.Core.List.{List, Memᴰ}
use mathlib.Core.Bool.{Bool, true, not, ◌&&◌, ◌||◌, and-eq-true_iff}
use Prim.Native.Nat.{ℕ, zero, suc, ◌+◌, ◌*◌, ◌-◌, ◌≤◌, ◌<◌}
use native.Mathlib.Omega.{arith}
use native.Mathlib.Decide.{dec_le, ℕ_discrete}
use lib.Dec.{leb, eqb}
use lib.ListN.{length}
use borrow.Author.Tests.{eqb-true, eq-eqb}
use Rattle.lists.specs.Numbers.{numbers}
use Rattle.matrix_form.specs.Shape.{last_node}
use Rattle.lists.specs.Tests.{every}
use Rattle.lists.proofs.Both.{leb_iff, eqb_iff, and_iff, or_iff, implies_iff}
use Rattle.lists.proofs.Every.{every_iff}
use Rattle.lists.proofs.Numbers.{length-numbers, numbers-within, numbers-among}
use Rattle.tree_form.specs.Ancestors.{ancestor}
use Rattle.lists.specs.Filters.{keep}
use Rattle.tree_form.specs.Nodes.{has_ancestor, in_tree, nodes_in, other_nodes, taxa_placed, htus_with}
use Rattle.tree_form.specs.Growing.{descendant_count, descendants_wanted, climbs, row_one_alone, nodes_only, htus_in, ancestors_in}
use Rattle.tree_form.specs.Growing.{descendants_right, all_climb, grown, growing_tree, branching}
use Rattle.tree_form.specs.Facts.{InTree, ReachesRoot, root, Grown, GrowingTree, alone, several, Branching}
use Rattle.tree_form.proofs.Climbing.{climbs_reaches, reaches_climbs, never_climbs}
use Rattle.tree_form.proofs.Nodes.{ancestor-place, has_ancestor_iff, no_ancestor_iff, in_tree_iff, taxa_placed_le, nodes_in_node}
use Rattle.tree_form.proofs.Nodes.{node_nodes_in}
use Rattle.lists.proofs.Keep.{keep-none}

-- only nodes 2 to `last` have an ancestor
abbrev pub NodesTo : List ℕ → ℕ → Type 0
NodesTo tree last = (v : ℕ) → 1 ≤ ancestor tree v → (2 ≤ v) × (v ≤ last)

module _ (tree : List ℕ) where
  -- a test of every place of the list
  pub entries_iff : (test : ℕ → Bool) → (every test (numbers 0 (length tree)) ≡ true) ↔ ((v : ℕ) → v < length tree → test v ≡ true)
  entries_iff test =
      let each = every_iff test (numbers 0 (length tree)) in (
        λ e v h. each.0 e v (numbers-among 0 (length tree) v (omega arith) (omega arith)),
        λ h. each.1 (λ v m. h v (omega (arith, numbers-within 0 (length tree) v m))),
      )

  -- row 1 alone: no number has an ancestor
  pub alone_iff : (row_one_alone tree ≡ true) ↔ ((v : ℕ) → ancestor tree v ≡ 0)
  unfolding row_one_alone
  alone_iff =
      let each = entries_iff (λ v. not (has_ancestor tree v)) in (
        λ e v.
            by_cases
            (dec_le 1 (ancestor tree v))
            (λ a. (no_ancestor_iff tree v).0 (each.0 e v (ancestor-place tree v a)))
            (λ a. omega arith),
        λ none. each.1 (λ v h. (no_ancestor_iff tree v).1 (none v)),
      )

  -- row 1 alone has one taxon
  pub alone-placed : (n : ℕ) → 1 ≤ n → ((v : ℕ) → ancestor tree v ≡ 0) → taxa_placed n tree ≡ 1
  unfolding taxa_placed nodes_in numbers keep in_tree
  alone-placed zero l h = absurd (omega arith)
  alone-placed (suc m) l h = ap suc (keep-none (in_tree tree) (numbers 2 m) none)
    where
      none : (v : ℕ) → Memᴰ v (numbers 2 m) → in_tree tree v ≡ true → ⊥
      none v i t = ⊎_elim (λ e. omega (arith, numbers-within 2 m v i)) (λ a. omega (arith, h v)) ((in_tree_iff tree v).0 t)

  module _ (n k : ℕ) where
    -- only nodes 2 to n+k-2 have an ancestor
    pub nodes_only_iff : (nodes_only n k tree ≡ true) ↔ NodesTo tree (n + k - 2)
    unfolding nodes_only
    nodes_only_iff = (
      λ e v a. (each v).0 (all.0 e v (ancestor-place tree v a)) a,
      λ h. all.1 (λ v l. (each v).1 (h v)),
    )
      where
        test : ℕ → Bool
        test v = not (has_ancestor tree v) || (leb 2 v && leb v (n + k - 2))

        all : (every test (numbers 0 (length tree)) ≡ true) ↔ ((v : ℕ) → v < length tree → test v ≡ true)
        all = entries_iff test

        each : (v : ℕ) → (test v ≡ true) ↔ (1 ≤ ancestor tree v → (2 ≤ v) × (v ≤ n + k - 2))
        each v = implies_iff (has_ancestor_iff tree v) (and_iff (leb_iff 2 v) (leb_iff v (n + k - 2)))

    -- HTUs n+1 to n+k-2 are in the tree
    pub htus_in_iff : (htus_in n k tree ≡ true) ↔ ((v : ℕ) → n < v → v ≤ n + k - 2 → 1 ≤ ancestor tree v)
    unfolding htus_in
    htus_in_iff =
        let each = every_iff (has_ancestor tree) (htus_with n k) in (
          λ e v l h. (has_ancestor_iff tree v).0 (each.0 e v (numbers-among (n + 1) (k - 2) v (omega arith) (omega arith))),
          λ h.
              each.1 λ v m.
              let b = numbers-within (n + 1) (k - 2) v m in
              (has_ancestor_iff tree v).1 (h v (omega arith) (omega arith)),
        )

  -- for a tree in which only nodes 2 to 2n-2 have an ancestor
  module _ (n : ℕ) (only : NodesTo tree (2 * n - 2)) where
    -- a test of the nodes in the tree other than node 1 is a test of all that have an ancestor
    pub others_iff : (test : ℕ → Bool)
        → (every test (nodes_in tree (other_nodes n)) ≡ true) ↔ ((v : ℕ) → 1 ≤ ancestor tree v → test v ≡ true)
    others_iff test =
        let each = every_iff test (nodes_in tree (other_nodes n)) in (
          λ e v a. each.0 e v (nodes_in_node tree n v (only v a).0 (only v a).1 (inr a)),
          λ h. each.1 (λ v m. h v (node_nodes_in tree n v m).2),
        )

    -- each node in the tree but node 1 has its immediate ancestor in the tree
    pub ancestors_in_iff : (ancestors_in n tree ≡ true) ↔ ((v : ℕ) → 1 ≤ ancestor tree v → InTree tree (ancestor tree v))
    unfolding ancestors_in
    ancestors_in_iff =
        let each = others_iff (λ v. in_tree tree (ancestor tree v)) in (
          λ e v a. (in_tree_iff tree (ancestor tree v)).0 (each.0 e v a),
          λ h. each.1 (λ v a. (in_tree_iff tree (ancestor tree v)).1 (h v a)),
        )

    -- each node in the tree is the ancestor of as many nodes as it has to be
    pub descendants_right_iff : (descendants_right n tree ≡ true)
        ↔ ((v : ℕ) → InTree tree v → descendant_count n tree v ≡ descendants_wanted n v)
    unfolding descendants_right every
    descendants_right_iff = (λ e. fact (parts.0 e), λ h. parts.1 (h 1 (inl refl), λ v a. h v (inr a)))
      where
        Right : ℕ → Type 0
        Right v = descendant_count n tree v ≡ descendants_wanted n v

        test : ℕ → Bool
        test v = eqb (descendant_count n tree v) (descendants_wanted n v)

        right : (v : ℕ) → (test v ≡ true) ↔ Right v
        right v = eqb_iff (descendant_count n tree v) (descendants_wanted n v)

        others : (every test (nodes_in tree (other_nodes n)) ≡ true) ↔ ((v : ℕ) → 1 ≤ ancestor tree v → Right v)
        others = (λ e v a. (right v).0 ((others_iff test).0 e v a), λ h. (others_iff test).1 (λ v a. (right v).1 (h v a)))

        parts : ((test 1 && every test (nodes_in tree (other_nodes n))) ≡ true) ↔ (Right 1 × ((v : ℕ) → 1 ≤ ancestor tree v → Right v))
        parts = and_iff (right 1) others

        fact : Right 1 × ((v : ℕ) → 1 ≤ ancestor tree v → Right v) → (v : ℕ) → InTree tree v → Right v
        fact h v (inl p) = rw p h.0
        fact h v (inr a) = h.1 v a

    -- only node 1 and nodes with an ancestor ever climb, and those are nodes 1 to 2n-2
    climbers : (v : ℕ) → Memᴰ v (numbers 1 (last_node n)) ⊎ ((steps : ℕ) → ¬ (climbs tree steps v ≡ true))
    unfolding last_node
    climbers v = go (dec_le 1 (ancestor tree v)) (ℕ_discrete v 1)
      where
        ground : ancestor tree 0 ≡ 0
        ground = by_cases (dec_le 1 (ancestor tree 0)) (λ a. absurd (omega (arith, only 0 a))) (λ a. omega arith)

        go : Dec (1 ≤ ancestor tree v) → Dec (v ≡ 1) → Memᴰ v (numbers 1 (last_node n)) ⊎ ((steps : ℕ) → ¬ (climbs tree steps v ≡ true))
        go (yes a) i = let b = only v a in inl (numbers-among 1 (last_node n) v (omega arith) (omega arith))
        go (no a) (yes e) = inl (numbers-among 1 (last_node n) v (omega arith) (omega arith))
        go (no a) (no ne) = inr (λ steps. never_climbs tree ground steps v ne (omega arith))

    -- what reaches node 1 climbs within 2n-2 steps
    pub reaches_within : {v : ℕ} → ReachesRoot tree v → climbs tree (last_node n) v ≡ true
    unfolding last_node
    reaches_within r =
        let one = numbers-among 1 (last_node n) 1 (omega arith) (omega arith) in
        rw length-numbers at (reaches_climbs tree (numbers 1 (last_node n)) one climbers r)

    -- going up from any node in the tree reaches node 1
    pub all_climb_iff : (all_climb n tree ≡ true) ↔ ((v : ℕ) → InTree tree v → ReachesRoot tree v)
    unfolding all_climb
    all_climb_iff = (fact, λ h. (others_iff (climbs tree (last_node n))).1 (λ v a. reaches_within (h v (inr a))))
      where
        fact : every (climbs tree (last_node n)) (nodes_in tree (other_nodes n)) ≡ true → (v : ℕ) → InTree tree v → ReachesRoot tree v
        fact e v (inl p) = rw p root
        fact e v (inr a) = climbs_reaches tree (last_node n) v ((others_iff (climbs tree (last_node n))).0 e v a)

  -- a tree of k taxa: the test and the proposition
  module _ (n k : ℕ) (placed : taxa_placed n tree ≡ k) where
    -- of k taxa placed, n+k-2 is at most 2n-2
    within : NodesTo tree (n + k - 2) → NodesTo tree (2 * n - 2)
    within only v a = let b = only v a in let l = taxa_placed_le tree n in omega arith

    -- what passes the test is a tree of k taxa
    pub grown-fact : grown n k tree ≡ true → Grown n k tree
    unfolding grown
    grown-fact e =
        let parts = (and-eq-true_iff (leb 2 k && (nodes_only n k tree && htus_in n k tree)) _).0 e in
        let nodes = (and_iff (leb_iff 2 k) (and_iff (nodes_only_iff n k) (htus_in_iff n k))).0 parts.0 in
        let inside = within nodes.1.0 in
        let shape = (and_iff (ancestors_in_iff n inside) (and_iff (descendants_right_iff n inside) (all_climb_iff n inside))).0 parts.1 in
        record {
          placed = placed;
          at_least_two = nodes.0;
          nodes_only = nodes.1.0;
          htus_in = nodes.1.1;
          ancestors_in = shape.0;
          descendants_right = shape.1.0;
          rooted = shape.1.1;
        }

    -- and a tree of k taxa passes it
    pub grown_test : Grown n k tree → grown n k tree ≡ true
    unfolding grown
    grown_test g =
        let inside = within g.nodes_only in
        (and_iff
        (and_iff (leb_iff 2 k) (and_iff (nodes_only_iff n k) (htus_in_iff n k)))
        (and_iff (ancestors_in_iff n inside) (and_iff (descendants_right_iff n inside) (all_climb_iff n inside)))
        ).1
        ((g.at_least_two, (g.nodes_only, g.htus_in)), (g.ancestors_in, (g.descendants_right, g.rooted)))

  module _ (n : ℕ) (taxa : 1 ≤ n) where
    -- what passes the test is a growing tree of the taxa that it has placed
    pub growing-fact : growing_tree n tree ≡ true → GrowingTree n tree (taxa_placed n tree)
    unfolding growing_tree
    growing-fact e =
        ⊎_elim
        (λ none. rw (alone-placed n taxa none) (alone none))
        (λ g. several (grown-fact n (taxa_placed n tree) refl g))
        ((or_iff alone_iff Iff.rfl).0 e)

    -- a growing tree with k taxa placed has k of them
    pub growing-placed : {k : ℕ} → GrowingTree n tree k → taxa_placed n tree ≡ k
    growing-placed (alone none) = alone-placed n taxa none
    growing-placed (several g) = g.placed

    -- and passes the test
    pub growing_test : {k : ℕ} → GrowingTree n tree k → growing_tree n tree ≡ true
    unfolding growing_tree
    growing_test (alone none) = (or_iff alone_iff Iff.rfl).1 (inl none)
    growing_test (several {k = k} g) = (or_iff alone_iff Iff.rfl).1 (inr (rw g.placed (grown_test n k g.placed g)))

    -- the test for a branching and the proposition agree
    pub branching_iff : (branching n tree ≡ true) ↔ Branching n tree
    unfolding branching
    branching_iff =
        let both = and-eq-true_iff (growing_tree n tree) (eqb (taxa_placed n tree) n) in (
          λ e. let h = both.0 e in rw (eqb-true (taxa_placed n tree) n h.1) at (growing-fact h.0),
          λ b. both.1 (growing_test b, eq-eqb (taxa_placed n tree) n (growing-placed b)),
        )
