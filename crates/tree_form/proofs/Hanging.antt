-- A taxon hung on an interval of a growing tree gives a growing tree with one taxon more.
use mathlib.Core.Path.{◌≡◌, refl, sym, ap, ◌∙◌, subst}
use mathlib.Core.Logic.{inl, inr, ◌≢◌, by_cases}
use mathlib.Core.List.{List}
use Prim.Native.Nat.{ℕ, suc, ◌+◌, ◌*◌, ◌-◌, ◌≤◌, ◌<◌}
use native.Mathlib.Omega.{arith}
use native.Mathlib.Decide.{ℕ_discrete, dec_le}
use lib.Dec.{eqb}
use lib.ListN.{length}
use borrow.Author.Tests.{ne_eqb, eq-eqb}
use Rattle.tree_form.specs.Ancestors.{ancestor}
use Rattle.tree_form.specs.Nodes.{in_tree, taxa_placed, Unplaced}
use Rattle.tree_form.specs.Growing.{descendant_count, descendants_wanted}
use Rattle.tree_form.specs.Facts.{InTree, ReachesRoot, root, up, Grown}
use Rattle.tree_form.specs.Hanging.{hung}
use Rattle.tree_form.proofs.Nodes.{in_tree-same, in_tree_iff}
use Rattle.tree_form.proofs.Counts.{taxa_placed_lt, taxa_placed-more}
use Rattle.lists.proofs.Sums.{counted}
use Rattle.tree_form.proofs.Descendants.{count_out, wanted_taxon, wanted_htu}
use Rattle.tree_form.proofs.BranchSums.{count_sum, Joint, hung-taxon, hung-lower, hung-htu, hung-other, sum_hung}

-- with one taxon more the last HTU has the next number: what was no later than the last still is
last_later : (n k v : ℕ) → 2 ≤ k → v ≤ n + k - 2 → v ≤ n + suc k - 2
last_later n k v two h = omega arith

-- and what is no later than the new last, and not the new HTU, was
last_before : (n k v : ℕ) → 2 ≤ k → v ≢ n + k - 1 → v ≤ n + suc k - 2 → v ≤ n + k - 2
last_before n k v two ne h = omega arith

-- a growing tree of k taxa with a place for every node, a taxon b that is not in it, and a node c of it other than row 1
module _ (n k : ℕ) (tree : List ℕ) (g : Grown n k tree) (room : 2 * n - 2 < length tree) (b c : ℕ) (u : Unplaced n tree b)
    (inside : 1 ≤ ancestor tree c) where
  -- the new HTU
  abbrev y : ℕ
  y = n + k - 1

  -- the tree with b hung through it
  abbrev new : List ℕ
  new = hung tree b c y

  -- not all taxa are placed
  not-all : k < n
  not-all = omega (arith, taxa_placed_lt n tree b u, g.placed)

  -- the new HTU is not in the tree
  pub htu_out : ancestor tree y ≡ 0
  htu_out = by_cases (dec_le 1 (ancestor tree y)) (λ a. absurd (omega (arith, g.nodes_only y a, g.at_least_two))) (λ a. omega arith)

  -- b, c and the new HTU are three entries of the tree
  pub hung_joint : Joint n tree b c y
  hung_joint =
      let lower = g.nodes_only c inside in
      let more = not-all in
      let two = g.at_least_two in
      record {
        taxon = omega arith;
        lower = omega arith;
        htu = omega arith;
        taxon_lower = λ e. omega (arith, ap (ancestor tree) e);
        taxon_htu = λ e. omega arith;
        lower_htu = λ e. omega arith;
      }

  -- in the new tree b has y
  pub at_taxon : ancestor new b ≡ y
  at_taxon = hung-taxon n tree b c y hung_joint

  -- so has c
  at_lower : ancestor new c ≡ y
  at_lower = hung-lower n tree b c y hung_joint

  -- y has c's old ancestor
  at_htu : ancestor new y ≡ ancestor tree c
  at_htu = hung-htu n tree b c y hung_joint

  -- no other ancestor changes
  at_other : (v : ℕ) → v ≢ b → v ≢ c → v ≢ y → ancestor new v ≡ ancestor tree v
  at_other = hung-other n tree b c y hung_joint

  -- what holds of b, c, y and of every other number holds of all
  by_node : (P : ℕ → Type 0) → P b → P c → P y → ((v : ℕ) → v ≢ b → v ≢ c → v ≢ y → P v) → (v : ℕ) → P v
  by_node P pb pc py other v =
      by_cases
      (ℕ_discrete v b)
      (λ e. subst P (sym e) pb)
      (λ nb.
      by_cases
      (ℕ_discrete v c)
      (λ e. subst P (sym e) pc)
      (λ nc. by_cases (ℕ_discrete v y) (λ e. subst P (sym e) py) (λ ny. other v nb nc ny)))

  -- what was in the tree still is
  pub stays : (v : ℕ) → InTree tree v → InTree new v
  stays v (inl e) = inl e
  stays v (inr a) =
      by_node
      (λ v. 1 ≤ ancestor tree v → InTree new v)
      (λ h. inr (omega (arith, at_taxon)))
      (λ h. inr (omega (arith, at_lower, g.at_least_two)))
      (λ h. inr (omega (arith, at_htu)))
      (λ v nb nc ny h. inr (omega (arith, at_other v nb nc ny)))
      v
      a

  -- any other node was in it before
  was_in : (v : ℕ) → v ≢ b → v ≢ c → v ≢ y → InTree new v → InTree tree v
  was_in v nb nc ny (inl e) = inl e
  was_in v nb nc ny (inr a) = inr (rw (at_other v nb nc ny) at a)

  -- of the taxa, just b comes in
  pub only-taxon : (v : ℕ) → v ≢ b → v ≢ y → in_tree new v ≡ in_tree tree v
  only-taxon v nb ny =
      by_cases
      (ℕ_discrete v c)
      (λ e. rw e ((in_tree_iff new c).1 (stays c (inr inside)) ∙ sym ((in_tree_iff tree c).1 (inr inside))))
      (λ nc. in_tree-same tree new v (at_other v nb nc ny))

  -- one taxon more is placed
  placed-more : taxa_placed n new ≡ suc k
  placed-more =
      let two = g.at_least_two in
      let same : (v : ℕ) → v ≤ n → v ≢ b → in_tree new v ≡ in_tree tree v = λ v l nb. only-taxon v nb (λ e. omega arith) in
      taxa_placed-more n tree new b u (omega (arith, at_taxon)) same ∙ ap suc g.placed

  -- only nodes 2 to n+k-1 have an ancestor
  nodes_only-more : (v : ℕ) → 1 ≤ ancestor new v → (2 ≤ v) × (v ≤ n + suc k - 2)
  nodes_only-more =
      let two = g.at_least_two in
      by_node
      (λ v. 1 ≤ ancestor new v → (2 ≤ v) × (v ≤ n + suc k - 2))
      (λ h. omega arith)
      (λ h. let l = g.nodes_only c inside in omega arith)
      (λ h. omega arith)
      (λ v nb nc ny h. let l = g.nodes_only v (rw (at_other v nb nc ny) at h) in (l.0, last_later n k v two l.1))

  -- HTUs n+1 to n+k-1 have one
  htus_in-more : (v : ℕ) → n < v → v ≤ n + suc k - 2 → 1 ≤ ancestor new v
  htus_in-more =
      let two = g.at_least_two in
      by_node
      (λ v. n < v → v ≤ n + suc k - 2 → 1 ≤ ancestor new v)
      (λ l h. omega arith)
      (λ l h. omega (arith, at_lower))
      (λ l h. omega (arith, at_htu))
      (λ v nb nc ny l h. rw (at_other v nb nc ny) (g.htus_in v l (last_before n k v two ny h)))

  -- each ancestor is in the tree
  ancestors_in-more : (v : ℕ) → 1 ≤ ancestor new v → InTree new (ancestor new v)
  ancestors_in-more =
      by_node
      (λ v. 1 ≤ ancestor new v → InTree new (ancestor new v))
      (λ h. rw at_taxon htu_in)
      (λ h. rw at_lower htu_in)
      (λ h. rw at_htu (stays (ancestor tree c) (g.ancestors_in c inside)))
      (λ v nb nc ny h. rw (at_other v nb nc ny) (stays (ancestor tree v) (g.ancestors_in v (rw (at_other v nb nc ny) at h))))
    where
      htu_in : InTree new y
      htu_in = inr (omega (arith, at_htu))

  -- the descendants of node v after the hanging: two more if it is y
  count_change : (v : ℕ) → 1 ≤ v → descendant_count n new v ≡ descendant_count n tree v + (counted (eqb y v) + counted (eqb y v))
  count_change v l =
      let none : counted (eqb 0 v) ≡ 0 = ap counted (ne_eqb 0 v (λ e. omega arith)) in
      let taxon : counted (eqb (ancestor tree b) v) ≡ 0 = ap (λ (a : ℕ). counted (eqb a v)) u.free ∙ none in
      let htu : counted (eqb (ancestor tree y) v) ≡ 0 = ap (λ (a : ℕ). counted (eqb a v)) htu_out ∙ none in
      let before = count_sum n tree v in
      let after = count_sum n new v in
      let change = sum_hung n tree b c y hung_joint (λ u a. counted (eqb a v)) in
      omega arith

  -- so any other node has as many as before
  count_same : (v : ℕ) → 1 ≤ v → v ≢ y → descendant_count n new v ≡ descendant_count n tree v
  count_same v l ne = let other : counted (eqb y v) ≡ 0 = ap counted (ne_eqb y v (λ e. ne (sym e))) in omega (arith, count_change v l)

  -- each node has as many as it has to have
  descendants_right-more : (v : ℕ) → InTree new v → descendant_count n new v ≡ descendants_wanted n v
  descendants_right-more =
      by_node
      (λ v. InTree new v → descendant_count n new v ≡ descendants_wanted n v)
      (λ i. taxon-count)
      (λ i. count_same c (omega (arith, g.nodes_only c inside)) hung_joint.lower_htu ∙ g.descendants_right c (inr inside))
      (λ i. htu-count)
      (λ v nb nc ny i. count_same v (positive v i) ny ∙ g.descendants_right v (was_in v nb nc ny i))
    where
      taxon-count : descendant_count n new b ≡ descendants_wanted n b
      taxon-count =
          count_same b (omega arith) hung_joint.taxon_htu
          ∙ count_out n tree b g.ancestors_in u.other u.free
          ∙ sym (wanted_taxon n b u.other u.taxon)

      htu-count : descendant_count n new y ≡ descendants_wanted n y
      htu-count =
          let two = g.at_least_two in
          let itself : counted (eqb y y) ≡ 1 = ap counted (eq-eqb y y refl) in
          let before = count_out n tree y g.ancestors_in (omega arith) htu_out in
          let wanted = wanted_htu n y (omega arith) (omega arith) in
          omega (arith, count_change y (omega arith))

      positive : (v : ℕ) → InTree new v → 1 ≤ v
      positive v (inl e) = omega arith
      positive v (inr a) = omega (arith, nodes_only-more v a)

  -- if going up from c's old ancestor reaches node 1, so does going up from y, c and b
  htu-rooted : ReachesRoot new (ancestor tree c) → ReachesRoot new y
  htu-rooted r = up y (rw at_htu r)

  -- going up from a node of the old tree reaches node 1 in the new one
  still_rooted : {v : ℕ} → ReachesRoot tree v → InTree tree v → ReachesRoot new v
  still_rooted root i = root
  still_rooted (up v r) (inl e) = rw e root
  still_rooted (up v r) (inr a) = go v a (still_rooted r (g.ancestors_in v a))
    where
      go : (v : ℕ) → 1 ≤ ancestor tree v → ReachesRoot new (ancestor tree v) → ReachesRoot new v
      go =
          by_node
          (λ v. 1 ≤ ancestor tree v → ReachesRoot new (ancestor tree v) → ReachesRoot new v)
          (λ a r. absurd (omega arith))
          (λ a r. up c (rw at_lower (htu-rooted r)))
          (λ a r. absurd (omega (arith, htu_out)))
          (λ v nb nc ny a r. up v (rw (at_other v nb nc ny) r))

  -- going up from any node reaches node 1
  rooted_more : (v : ℕ) → InTree new v → ReachesRoot new v
  rooted_more =
      by_node
      (λ v. InTree new v → ReachesRoot new v)
      (λ i. up b (rw at_taxon at_y))
      (λ i. still_rooted (g.rooted c (inr inside)) (inr inside))
      (λ i. at_y)
      (λ v nb nc ny i. let o = was_in v nb nc ny i in still_rooted (g.rooted v o) o)
    where
      at_y : ReachesRoot new y
      at_y = let i = g.ancestors_in c inside in htu-rooted (still_rooted (g.rooted (ancestor tree c) i) i)

  -- a taxon hung on an interval of a growing tree gives a growing tree with one taxon more
  pub hung-grown : Grown n (suc k) new
  hung-grown =
      record {
        placed = placed-more;
        at_least_two = omega (arith, g.at_least_two);
        nodes_only = nodes_only-more;
        htus_in = htus_in-more;
        ancestors_in = ancestors_in-more;
        descendants_right = descendants_right-more;
        rooted = rooted_more;
      }
