-- The first taxon linked to row 1 gives a growing tree with two taxa.
use mathlib.Core.Path.{◌≡◌, sym, ap, ◌∙◌}
use mathlib.Core.Logic.{inl, inr, ◌≢◌, by_cases}
use mathlib.Core.List.{List}
use Prim.Native.Nat.{ℕ, suc, ◌*◌, ◌-◌, ◌≤◌, ◌<◌}
use native.Mathlib.Omega.{arith}
use native.Mathlib.Decide.{ℕ_discrete}
use lib.Dec.{eqb}
use lib.ListN.{length}
use borrow.Author.Tests.{ne_eqb}
use Rattle.tree_form.specs.Ancestors.{ancestor}
use Rattle.tree_form.specs.Nodes.{in_tree, taxa_placed, Unplaced}
use Rattle.tree_form.specs.Growing.{descendant_count, descendants_wanted}
use Rattle.tree_form.specs.Facts.{InTree, ReachesRoot, root, up, Grown}
use Rattle.tree_form.specs.Hanging.{linked}
use Rattle.tree_form.proofs.Nodes.{in_tree-same}
use Rattle.tree_form.proofs.Test.{alone-placed}
use Rattle.lists.proofs.Sums.{counted}
use Rattle.tree_form.proofs.Counts.{taxa_placed-more}
use Rattle.tree_form.proofs.BranchSums.{ancestor_set_same, ancestor_set_other, sum_set, count_sum}
use Rattle.tree_form.proofs.Descendants.{count_none, wanted_taxon}

-- row 1 alone with a place for every node, and a taxon b
module _ (n : ℕ) (tree : List ℕ) (none : (v : ℕ) → ancestor tree v ≡ 0) (room : 2 * n - 2 < length tree) (b : ℕ)
    (u : Unplaced n tree b) where
  -- the tree with b linked to row 1
  abbrev new : List ℕ
  new = linked tree b

  -- b has row 1 as ancestor
  pub linked-taxon : ancestor new b ≡ 1
  unfolding linked
  linked-taxon = ancestor_set_same tree b 1 (omega arith)

  -- nothing else has an ancestor
  pub linked-other : (v : ℕ) → v ≢ b → ancestor new v ≡ 0
  unfolding linked
  linked-other v ne = ancestor_set_other tree b 1 v ne ∙ none v

  -- what has an ancestor is b
  only-taxon : (v : ℕ) → 1 ≤ ancestor new v → v ≡ b
  only-taxon v a = by_cases (ℕ_discrete v b) (λ e. e) (λ ne. absurd (omega (arith, linked-other v ne)))

  -- two taxa are placed: row 1 and b
  placed_two : taxa_placed n new ≡ 2
  placed_two =
      let same : (v : ℕ) → v ≤ n → v ≢ b → in_tree new v ≡ in_tree tree v =
      λ v l ne. in_tree-same tree new v (linked-other v ne ∙ sym (none v)) in
      taxa_placed-more n tree new b u (omega (arith, linked-taxon)) same ∙ ap suc (alone-placed tree n (omega arith) none)

  -- of the nodes, row 1 alone has a descendant, and just one
  count-linked : (v : ℕ) → 1 ≤ v → descendant_count n new v ≡ counted (eqb 1 v)
  unfolding linked
  count-linked v l =
      let before = count_sum n tree v in
      let after = count_sum n new v in
      let none_yet = count_none n tree v (λ u e. omega (arith, none u)) in
      let not-zero : counted (eqb 0 v) ≡ 0 = ap counted (ne_eqb 0 v (λ e. omega arith)) in
      let old : counted (eqb (ancestor tree b) v) ≡ 0 = ap (λ (a : ℕ). counted (eqb a v)) (none b) ∙ not-zero in
      let change = sum_set (λ u a. counted (eqb a v)) n tree b 1 (omega arith) u.other (omega arith) in
      omega arith

  -- so each node in the tree has as many as it has to have
  descendants_right-linked : (v : ℕ) → InTree new v → descendant_count n new v ≡ descendants_wanted n v
  unfolding descendants_wanted
  descendants_right-linked v (inl e) = rw e (count-linked 1 (omega arith))
  descendants_right-linked v (inr a) =
      rw
      (only-taxon v a)
      (count-linked b (omega arith) ∙ ap counted (ne_eqb 1 b (λ e. omega arith)) ∙ sym (wanted_taxon n b u.other u.taxon))

  -- going up from b reaches node 1
  rooted-linked : (v : ℕ) → InTree new v → ReachesRoot new v
  rooted-linked v (inl e) = rw e root
  rooted-linked v (inr a) = rw (only-taxon v a) (up b (rw linked-taxon root))

  -- the first taxon linked to row 1 gives a growing tree with two taxa
  pub linked-grown : Grown n 2 new
  linked-grown =
      record {
        placed = placed_two;
        at_least_two = omega arith;
        nodes_only = λ v a. let e = only-taxon v a in omega arith;
        htus_in = λ v l h. absurd (omega arith);
        ancestors_in = λ v a. inl (ap (ancestor new) (only-taxon v a) ∙ linked-taxon);
        descendants_right = descendants_right-linked;
        rooted = rooted-linked;
      }
