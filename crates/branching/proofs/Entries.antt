-- The test for a growing tree, entry by entry, is the test of the definition, for a list of 127 entries and at most 64 taxa.
use mathlib.Core.Path.{◌≡◌, refl, sym, ap, ◌∙◌}
use mathlib.Core.Logic.{◌↔◌, inl, inr, ⊎_elim, by_cases}
use mathlib.Core.List.{List, [], ◌∷◌, ◌++◌, append-nil, Memᴰ}
use mathlib.Core.Bool.{Bool, true, false, cond, ◌&&◌, ◌||◌}
use Prim.Native.Nat.{ℕ, ◌+◌, ◌*◌, ◌-◌, ◌≤◌, ◌<◌, min}
use native.Mathlib.Nat.{min-eq_left, min-eq_right}
use native.Mathlib.Omega.{arith}
use native.Mathlib.Decide.{dec_le}
use lib.Dec.{leb, ltb, eqb}
use lib.ListN.{length}
use borrow.Author.Tests.{eq-eqb, eqb-true, le-leb, lt-leb, leb-true, lt-ltb, ltb-true}
use Rattle.lists.specs.Tests.{every}
use Rattle.lists.specs.Filters.{keep}
use Rattle.lists.specs.Numbers.{numbers}
use Rattle.lists.proofs.Both.{same_test, eqb_iff, and_iff, and_left, and_right, and_both, or_cases, or_left, or_right}
use Rattle.lists.proofs.Keep.{keep-none}
use Rattle.lists.proofs.Numbers.{numbers-within, numbers-append}
use Rattle.matrix_form.specs.Shape.{last_node}
use Rattle.tree_form.specs.Ancestors.{ancestor}
use Rattle.tree_form.specs.Nodes.{has_ancestor, in_tree, nodes_in, other_nodes, taxa_placed}
use Rattle.tree_form.specs.Growing.{descendant_count, descendants_wanted, climbs, grown}
use Rattle.tree_form.specs.Facts.{InTree, ReachesRoot, root, Grown}
use Rattle.branching.specs.Testing.{node_right, entry_right}
use Rattle.tree_form.proofs.Nodes.{ancestor-place, has_ancestor_iff, in_tree_iff, taxa_placed_le}
use Rattle.tree_form.proofs.Climbing.{climbs_reaches}
use Rattle.tree_form.proofs.Test.{entries_iff, grown-fact, grown_test, reaches_within}
use Rattle.tree_form.proofs.Counts.{grown-within}

-- what is kept of two lists, one after the other
pub keep_append : (test : ℕ → Bool) (us vs : List ℕ) → keep test (us ++ vs) ≡ keep test us ++ keep test vs
unfolding keep
keep_append test [] vs = refl
keep_append test (u ∷ us) vs = go (test u) (keep_append test us vs)
  where
    go : (t : Bool) → keep test (us ++ vs) ≡ keep test us ++ keep test vs
        → cond t (u ∷ keep test (us ++ vs)) (keep test (us ++ vs)) ≡ cond t (u ∷ keep test us) (keep test us) ++ keep test vs
    go true e = ap (λ (rest : List ℕ). u ∷ rest) e
    go false e = e

module _ (tree : List ℕ) where
  -- what the test of a node says
  node_iff : (n v : ℕ)
      → (node_right n tree v ≡ true)
      ↔ (InTree tree (ancestor tree v) × ((descendant_count n tree v ≡ descendants_wanted n v) × (climbs tree (last_node n) v ≡ true)))
  unfolding node_right
  node_iff n v =
      and_iff
      (in_tree_iff tree (ancestor tree v))
      (and_iff (eqb_iff (descendant_count n tree v) (descendants_wanted n v)) (λ e. e, λ e. e))

  module _ (n k v : ℕ) where
    -- what the test of a place says where there is an ancestor
    pub entry_has : 1 ≤ ancestor tree v → entry_right n k tree v ≡ ((leb 2 v && leb v (n + k - 2)) && node_right n tree v)
    unfolding entry_right
    entry_has a = rw ((has_ancestor_iff tree v).1 a)

    -- and where there is none
    pub entry_none : ancestor tree v ≡ 0 → entry_right n k tree v ≡ (leb v n || ltb (n + k - 2) v)
    unfolding entry_right has_ancestor
    entry_none a = rw (lt-leb 1 (ancestor tree v) (omega arith))

module _ (tree : List ℕ) (size : length tree ≡ 127) where
  -- of consecutive numbers, those beyond the entries are not in the tree
  kept-entries : (first most count : ℕ) → first + most ≡ 127 → 2 ≤ first + most
      → keep (in_tree tree) (numbers first count) ≡ keep (in_tree tree) (numbers first (min count most))
  kept-entries first most count end several = by_cases (dec_le count most) (λ h. rw (min-eq_left h)) beyond
    where
      out : (v : ℕ) → Memᴰ v (numbers (first + most) (count - most)) → in_tree tree v ≡ true → ⊥
      out v m t =
          let w = numbers-within (first + most) (count - most) v m in
          ⊎_elim (λ e. omega arith) (λ a. omega (arith, ancestor-place tree v a)) ((in_tree_iff tree v).0 t)

      empty : (vs : List ℕ) → length vs ≡ 0 → vs ≡ []
      empty [] e = refl
      empty (v ∷ vs) e = absurd (omega arith)

      nothing : keep (in_tree tree) (numbers (first + most) (count - most)) ≡ []
      nothing = empty _ (keep-none (in_tree tree) (numbers (first + most) (count - most)) out)

      beyond : ¬ (count ≤ most) → keep (in_tree tree) (numbers first count) ≡ keep (in_tree tree) (numbers first (min count most))
      beyond h =
          let least : most ≤ count = omega arith in
          let all : count ≡ most + (count - most) = omega arith in
          ap (λ (k : ℕ). keep (in_tree tree) (numbers first k)) all
          ∙ ap (keep (in_tree tree)) (numbers-append first most (count - most))
          ∙ keep_append (in_tree tree) (numbers first most) (numbers (first + most) (count - most))
          ∙ ap (λ (rest : List ℕ). keep (in_tree tree) (numbers first most) ++ rest) nothing
          ∙ append-nil (keep (in_tree tree) (numbers first most))
          ∙ ap (λ (k : ℕ). keep (in_tree tree) (numbers first k)) (sym (min-eq_right least))

  -- no taxon beyond the entries is placed
  pub taxa_placed-entries : (n : ℕ) → taxa_placed n tree ≡ length (keep (in_tree tree) (numbers 1 (min n 126)))
  unfolding taxa_placed nodes_in
  taxa_placed-entries n = ap length (kept-entries 1 126 n refl (omega arith))

  -- no node beyond the entries is in the tree
  pub nodes_in-entries : (n : ℕ) → nodes_in tree (other_nodes n) ≡ keep (in_tree tree) (numbers 2 (min (2 * n - 3) 125))
  unfolding nodes_in other_nodes
  nodes_in-entries n = kept-entries 2 125 (2 * n - 3) refl (omega arith)

  module _ (n k : ℕ) (most : n ≤ 64) (placed : taxa_placed n tree ≡ k) (several : 2 ≤ k) where
    -- the test of node 1 and of every place
    abbrev all_right : Bool
    all_right = eqb (descendant_count n tree 1) 1 && every (entry_right n k tree) (numbers 0 (length tree))

    -- a tree of k taxa passes it
    right_grown : Grown n k tree → all_right ≡ true
    unfolding descendants_wanted
    right_grown g =
        and_both
        (eq-eqb (descendant_count n tree 1) 1 (g.descendants_right 1 (inl refl)))
        ((entries_iff tree (entry_right n k tree)).1 (λ v h. by_cases (dec_le 1 (ancestor tree v)) (has v) (none v)))
      where
        has : (v : ℕ) → 1 ≤ ancestor tree v → entry_right n k tree v ≡ true
        has v a =
            let b = g.nodes_only v a in
            let climbing = reaches_within tree n (grown-within n k tree g) (g.rooted v (inr a)) in
            entry_has tree n k v a
            ∙ and_both
            (and_both (le-leb 2 v b.0) (le-leb v (n + k - 2) b.1))
            ((node_iff tree n v).1 (g.ancestors_in v a, (g.descendants_right v (inr a), climbing)))

        none : (v : ℕ) → ¬ (1 ≤ ancestor tree v) → entry_right n k tree v ≡ true
        none v a =
            entry_none tree n k v (omega arith)
            ∙ by_cases
            (dec_le v n)
            (λ h. or_left (leb v n) _ (le-leb v n h))
            (λ h.
            or_right (leb v n) _
            (by_cases
            (dec_le v (n + k - 2))
            (λ l. absurd (a (g.htus_in v (omega arith) l)))
            (λ l. lt-ltb (n + k - 2) v (omega arith))))

    -- what passes it is a tree of k taxa
    grown_right : all_right ≡ true → Grown n k tree
    unfolding descendants_wanted
    grown_right e = record {
      placed = placed;
      at_least_two = several;
      nodes_only = λ v a. let r = right v a in (leb-true 2 v (and_left (leb 2 v) _ r.0), leb-true v _ (and_right (leb 2 v) _ r.0));
      htus_in = λ v l h.
          by_cases (dec_le 1 (ancestor tree v)) (λ a. a) (λ a. absurd (missing v l h (omega arith)));
      ancestors_in = λ v a. (right v a).1.0;
      descendants_right = counted;
      rooted = climbing;
    }
      where
        each : (v : ℕ) → v < length tree → entry_right n k tree v ≡ true
        each = (entries_iff tree (entry_right n k tree)).0 (and_right (eqb (descendant_count n tree 1) 1) _ e)

        right : (v : ℕ) → 1 ≤ ancestor tree v
            → ((leb 2 v && leb v (n + k - 2)) ≡ true)
            × (InTree tree (ancestor tree v) × ((descendant_count n tree v ≡ descendants_wanted n v) × (climbs tree (last_node n) v ≡ true)))
        right v a =
            let h = sym (entry_has tree n k v a) ∙ each v (ancestor-place tree v a) in
            (and_left (leb 2 v && leb v (n + k - 2)) _ h, (node_iff tree n v).0 (and_right (leb 2 v && leb v (n + k - 2)) _ h))

        missing : (v : ℕ) → n < v → v ≤ n + k - 2 → ancestor tree v ≡ 0 → ⊥
        missing v l h a =
            let most-placed = taxa_placed_le tree n in
            or_cases (leb v n) (ltb (n + k - 2) v)
            (sym (entry_none tree n k v a) ∙ each v (omega arith))
            (λ t. omega (arith, leb-true v n t))
            (λ t. omega (arith, ltb-true (n + k - 2) v t))

        counted : (v : ℕ) → InTree tree v → descendant_count n tree v ≡ descendants_wanted n v
        counted v (inl p) = rw p (eqb-true (descendant_count n tree 1) 1 (and_left (eqb (descendant_count n tree 1) 1) _ e))
        counted v (inr a) = (right v a).1.1.0

        climbing : (v : ℕ) → InTree tree v → ReachesRoot tree v
        climbing v (inl p) = rw p root
        climbing v (inr a) = climbs_reaches tree (last_node n) v (right v a).1.1.1

    -- so it is the test of the definition, put to the 127 entries
    pub grown-entries : grown n k tree ≡ (eqb (descendant_count n tree 1) 1 && every (entry_right n k tree) (numbers 0 127))
    grown-entries =
        same_test (grown n k tree) all_right
        (λ e. right_grown (grown-fact tree n k placed e))
        (λ e. grown_test tree n k placed (grown_right e))
        ∙ ap (λ (count : ℕ). eqb (descendant_count n tree 1) 1 && every (entry_right n k tree) (numbers 0 count)) size
