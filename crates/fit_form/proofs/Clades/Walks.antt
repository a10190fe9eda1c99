-- A branching of two taxa or more and the clade built from it: every node below row 1 stands in the clade exactly once.
use Rattle.std.proofs.Common.{◌≡◌, ℕ, zero, suc, ◌+◌, ◌-◌, ◌*◌, ◌<◌, ◌≤◌, Bool, true, false, eqb, ◌⊎◌, List, length, sym, refl, ap, ◌∙◌, subst, inl, inr, ⊎_elim, arith, eq-eqb, ne_eqb}
use Rattle.lists.specs.Numbers.{numbers}
use Rattle.lists.proofs.Numbers.{numbers-within}
use Rattle.lists.proofs.Both.{eqb-sym}
use Rattle.tree_form.specs.Ancestors.{ancestor, descendants}
use Rattle.tree_form.specs.Nodes.{other_nodes}
use Rattle.lists.specs.Sums.{sum_over}
use Rattle.tree_form.specs.Facts.{Grown}
use Rattle.lists.proofs.Sums.{pick, sum_same, sum_plus, sum_swap, sum_outside, sum_one}
use Rattle.tree_form.proofs.Descendants.{sum_descendants}
use Rattle.fit_form.specs.Clades.{clade_at}
use Rattle.fit_form.proofs.Cases.{either}
use Rattle.fit_form.proofs.Clades.Sums.{sum_clade, sum_clade_above}
use Rattle.fit_form.proofs.Clades.Branching.{Climbs, no_ancestor, none_below, two_below, steps_up}

-- x, as often as going up from node v, at most `steps` steps, comes to node u
unfoldable pub along : List ℕ → ℕ → ℕ → ℕ → ℕ → ℕ
along tree zero v u x = pick (eqb v u) x
along tree (suc steps) v u x = pick (eqb v u) x + along tree steps (ancestor tree v) u x

-- of two tests of a number either may come first
pick_swap : (p q : Bool) (x : ℕ) → pick p (pick q x) ≡ pick q (pick p x)
pick_swap true true x = refl
pick_swap true false x = refl
pick_swap false true x = refl
pick_swap false false x = refl

-- node 2n-2 is the last of the nodes below row 1
below_last : (n v : ℕ) → 2 ≤ n → v ≤ 2 * n - 2 → v < 2 + (2 * n - 3)
below_last n v p q = omega arith

module _ (n : ℕ) (tree : List ℕ) (grown : Grown n n tree) where
  -- node v is one of u's descendants exactly if its ancestor is u
  descends : (u v x : ℕ) → 1 ≤ u → sum_over (λ a. pick (eqb v a) x) (descendants tree (other_nodes n) u)
      ≡ pick (eqb (ancestor tree v) u) x
  unfolding other_nodes
  descends u v x h = sum_descendants (λ a. pick (eqb v a) x) tree (numbers 2 (2 * n - 3)) u
      ∙ sum_same (λ a. pick (eqb (ancestor tree a) u) (pick (eqb v a) x))
      (λ a. pick (eqb a v) (pick (eqb (ancestor tree a) u) x)) (numbers 2 (2 * n - 3))
      (λ a m. pick_swap (eqb (ancestor tree a) u) (eqb v a) x ∙ ap (λ t. pick t (pick (eqb (ancestor tree a) u) x)) (eqb-sym v a))
      ∙ either 2 v
      (λ p. either v (2 * n - 2)
      (λ q. sum_one 2 (2 * n - 3) v (λ a. pick (eqb (ancestor tree a) u) x) p (below_last n v grown.at_least_two q))
      (λ q. nothing (inr q)))
      (λ p. nothing (inl p))
    where
      nothing : (v < 2) ⊎ (2 * n - 2 < v) →
          sum_over (λ a. pick (eqb a v) (pick (eqb (ancestor tree a) u) x)) (numbers 2 (2 * n - 3))
          ≡ pick (eqb (ancestor tree v) u) x
      nothing outside = sum_outside 2 (2 * n - 3) v (λ a. pick (eqb (ancestor tree a) u) x)
          (λ r s. ⊎_elim (λ l. omega arith) (λ l. omega (arith, grown.at_least_two)) outside)
          ∙ sym (ap (λ t. pick t x) (ne_eqb (ancestor tree v) u (λ e. omega (arith, no_ancestor n tree grown v outside))))

  -- going up from a node comes to u as often as going on from its ancestor comes to a descendant of u
  along_descends : (steps u v x : ℕ) → 1 ≤ u →
      sum_over (λ a. along tree steps v a x) (descendants tree (other_nodes n) u) ≡ along tree steps (ancestor tree v) u x
  unfolding along
  along_descends zero u v x h = descends u v x h
  along_descends (suc steps) u v x h =
      sum_plus (λ a. pick (eqb v a) x) (λ a. along tree steps (ancestor tree v) a x) (descendants tree (other_nodes n) u)
      ∙ omega (arith, descends u v x h, along_descends steps u (ancestor tree v) x h)

  -- a node below row 1 has no descendant or two
  descendant_number : (v : ℕ) → 2 ≤ v → v ≤ 2 * n - 2 →
      (length (descendants tree (other_nodes n) v) ≡ 1 → ⊥) × (length (descendants tree (other_nodes n) v) ≤ 2)
  descendant_number v p q = either v n
      (λ h. let e = none_below n tree grown v p h in (λ k. omega arith, omega arith))
      (λ h. let e = two_below n tree grown v h q in (λ k. omega arith, omega arith))

  -- quantities that are equal on all nodes below row 1 have equal sums over descendants
  over-descendants : (f g : ℕ → ℕ) (u : ℕ) → ((a : ℕ) → 2 ≤ a → a ≤ 2 * n - 2 → f a ≡ g a) →
      sum_over f (descendants tree (other_nodes n) u) ≡ sum_over g (descendants tree (other_nodes n) u)
  unfolding other_nodes
  over-descendants f g u e = sum_descendants f tree (numbers 2 (2 * n - 3)) u
      ∙ sum_same (λ a. pick (eqb (ancestor tree a) u) (f a)) (λ a. pick (eqb (ancestor tree a) u) (g a)) (numbers 2 (2 * n - 3))
      (λ a m.
      let w = numbers-within 2 (2 * n - 3) a m in
      ap (λ x. pick (eqb (ancestor tree a) u) x) (e a w.0 (omega arith)))
      ∙ sym (sum_descendants g tree (numbers 2 (2 * n - 3)) u)

  -- the sum over the clade of node u is the sum over all nodes from which going up comes to u
  Gathers : (ℕ → ℕ) → ℕ → ℕ → Type 0
  Gathers q depth u = sum_clade q (clade_at tree (other_nodes n) depth u) ≡ sum_over (λ v. along tree depth v u (q v)) (other_nodes n)

  -- if it is so for u's descendants, the sum over their clades is the sum over all nodes from whose ancestors it comes to u
  gathers_below : (q : ℕ → ℕ) (depth u : ℕ) → 1 ≤ u → ((a : ℕ) → 2 ≤ a → a ≤ 2 * n - 2 → Gathers q depth a) →
      sum_over (λ a. sum_clade q (clade_at tree (other_nodes n) depth a)) (descendants tree (other_nodes n) u)
      ≡ sum_over (λ v. along tree depth (ancestor tree v) u (q v)) (other_nodes n)
  unfolding Gathers
  gathers_below q depth u h each =
      over-descendants (λ a. sum_clade q (clade_at tree (other_nodes n) depth a))
      (λ a. sum_over (λ v. along tree depth v a (q v)) (other_nodes n)) u each
      ∙ sum_swap (λ a v. along tree depth v a (q v)) (descendants tree (other_nodes n) u) (other_nodes n)
      ∙ sum_same (λ v. sum_over (λ a. along tree depth v a (q v)) (descendants tree (other_nodes n) u))
      (λ v. along tree depth (ancestor tree v) u (q v)) (other_nodes n) (λ v m. along_descends depth u v (q v) h)

  -- over all nodes below row 1, node u alone is equal to u
  own_node : (q : ℕ → ℕ) (u : ℕ) → 2 ≤ u → u ≤ 2 * n - 2 → sum_over (λ v. pick (eqb v u) (q v)) (other_nodes n) ≡ q u
  unfolding other_nodes
  own_node q u p h = sum_one 2 (2 * n - 3) u q p (below_last n u grown.at_least_two h)

  -- the sum over the clade of every node is so
  gathers : (q : ℕ → ℕ) (depth u : ℕ) → 2 ≤ u → u ≤ 2 * n - 2 → Gathers q depth u
  unfolding Gathers clade_at sum_clade along
  gathers q zero u p h = sym (own_node q u p h)
  gathers q (suc depth) u p h =
      sum_clade_above q u (λ v. clade_at tree (other_nodes n) depth v) (descendants tree (other_nodes n) u)
      (descendant_number u p h).0 (descendant_number u p h).1
      ∙ omega (
        arith,
        own_node q u p h,
        gathers_below q depth u (omega arith) (λ a r s. gathers q depth a r s),
        sum_plus (λ v. pick (eqb v u) (q v)) (λ v. along tree depth (ancestor tree v) u (q v)) (other_nodes n),
      )

  -- row 1 has no ancestor
  row1_top : ancestor tree 1 ≡ 0
  row1_top = no_ancestor n tree grown 1 (inl (omega arith))

  -- 0 has no ancestor
  zero_top : ancestor tree 0 ≡ 0
  zero_top = no_ancestor n tree grown 0 (inl (omega arith))

  -- going up from 0 does not reach row 1
  never_climbs : (k : ℕ) → Climbs tree k 0 → ⊥
  never_climbs zero e = omega arith
  never_climbs (suc k) c = never_climbs k (subst (λ v. Climbs tree k v) zero_top c)

  -- going up from 0 does not come to row 1
  along_zero : (steps x : ℕ) → along tree steps 0 1 x ≡ 0
  unfolding along
  along_zero zero x = refl
  along_zero (suc steps) x = rw zero_top (omega (arith, along_zero steps x))

  -- a node from which one step up or more reach row 1 is not row 1 itself
  climbs_not_row1 : (k v : ℕ) → Climbs tree (suc k) v → v ≡ 1 → ⊥
  climbs_not_row1 k v c e = never_climbs k (subst (λ u. Climbs tree k u) (ap (ancestor tree) e ∙ row1_top) c)

  -- going up from a node from which row 1 is reached comes to row 1 exactly once
  along_climbs : (k steps v x : ℕ) → Climbs tree k v → k ≤ steps → along tree steps v 1 x ≡ x
  unfolding along
  along_climbs zero zero v x c h = rw (eq-eqb v 1 c)
  along_climbs zero (suc steps) v x c h = rw (c, row1_top, along_zero steps x) (omega arith)
  along_climbs (suc k) zero v x c h = absurd (omega arith)
  along_climbs (suc k) (suc steps) v x c h =
      rw (ne_eqb v 1 (climbs_not_row1 k v c)) (omega (arith, along_climbs k steps (ancestor tree v) x c (omega arith)))

  -- the number of steps up to row 1 is unique
  pub climbs_unique : (j k v : ℕ) → Climbs tree j v → Climbs tree k v → j ≡ k
  climbs_unique zero zero v c d = refl
  climbs_unique zero (suc k) v c d = absurd (climbs_not_row1 k v d c)
  climbs_unique (suc j) zero v c d = absurd (climbs_not_row1 j v c d)
  climbs_unique (suc j) (suc k) v c d = ap suc (climbs_unique j k (ancestor tree v) c d)

  -- from the ancestor of a node below row 1, row 1 is reached exactly once
  along_node : (depth : ℕ) → 2 * n - 2 ≤ depth → (v x : ℕ) → 2 ≤ v → v ≤ 2 * n - 2 →
      along tree depth (ancestor tree v) 1 x ≡ x
  along_node depth deep v x p h = let c = steps_up n tree grown v p h in go c.0 c.1 c.2
    where
      go : (k : ℕ) → k ≤ 2 * n - 2 → Climbs tree k v → along tree depth (ancestor tree v) 1 x ≡ x
      go zero l c = absurd (omega arith)
      go (suc k) l c = along_climbs k depth (ancestor tree v) x c (omega arith)

  -- the sum over the clades that hang from row 1 is the sum over all nodes below row 1
  pub sum_clade_all : (depth : ℕ) → 2 * n - 2 ≤ depth → (q : ℕ → ℕ) →
      sum_over (λ a. sum_clade q (clade_at tree (other_nodes n) depth a)) (descendants tree (other_nodes n) 1) ≡ sum_over q (other_nodes n)
  sum_clade_all depth deep q = gathers_below q depth 1 (omega arith) (λ a p h. gathers q depth a p h)
      ∙ unfold other_nodes in sum_same (λ v. along tree depth (ancestor tree v) 1 (q v)) q (numbers 2 (2 * n - 3))
      (λ v m. let w = numbers-within 2 (2 * n - 3) v m in along_node depth deep v (q v) w.0 (omega arith))
