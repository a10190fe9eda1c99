-- Where each node of a branching of two taxa or more hangs, and its clade as a part of the whole.
use Rattle.std.proofs.Common.{◌≡◌, ℕ, zero, suc, ◌+◌, ◌-◌, ◌*◌, ◌<◌, ◌≤◌, List, [], ◌∷◌, map, sym, refl, ap, ◌∙◌, subst, ap₂, ⊎_elim, arith}
use mathlib.Core.List.Memᴰ
use mathlib.Core.List.{Memᴰ}
use Rattle.lists.specs.Numbers.{numbers}
use Rattle.lists.proofs.Numbers.{numbers-among, length-numbers}
use Rattle.lists.proofs.Sums.{length_sum}
use Rattle.tree_form.specs.Ancestors.{ancestor, descendants}
use Rattle.tree_form.specs.Nodes.{other_nodes}
use Rattle.tree_form.specs.Facts.{Grown}
use Rattle.tree_form.proofs.Descendants.{mem-descendants}
use Rattle.clades.specs.Clades.{Clade, tip, fork}
use Rattle.fit_form.specs.Clades.{above, clade_at}
use Rattle.clades.specs.ByNode.{value_at}
use Rattle.fit_form.proofs.Cases.{either}
use Rattle.clades.proofs.Clades.Sides.{Side, left, right, on, on_map, on_each}
use Rattle.clades.proofs.Clades.Parts.{Part, whole, below, part_on, handed, handed_on}
use Rattle.clades.proofs.Clades.Downward.{downward, downward_part}
use Rattle.fit_form.proofs.Clades.Sums.{size, size-fork}
use Rattle.fit_form.proofs.Clades.Branching.{Climbs, only_nodes, row1_or_node, none_below, steps_up}
use Rattle.fit_form.proofs.Clades.Built.{Made, Htu, CladeOf, clade_of_lem, none_in, htu_two, htu_descends, top_clade_at, clade_to, clade_to_taxon}
use Rattle.fit_form.proofs.Clades.Built.{clade_to_htu, clade_to_whole}

-- a part has no more nodes than the whole
part-size : (s t : Clade) → Part s t → size s ≤ size t
part-size s t whole = omega arith
part-size s t (below side v a b p) =
    omega (
      arith,
      part-size s (on side a b) p,
      size-fork v a b,
      on_each (λ c. size c ≤ size a + size b) side a b (omega arith) (omega arith),
    )

-- a part of a clade of n taxa is one
part_made : (n : ℕ) (tree : List ℕ) (s t : Clade) → Part s t → Made n tree t → Made n tree s
part_made n tree s t whole m = m
part_made n tree s t (below side v a b p) m = part_made n tree s (on side a b) p (on_each (Made n tree) side a b m.4 m.5)

-- node v hangs from row 1, or on a side of an HTU
pub data Hangs (n : ℕ) (tree : List ℕ) (v : ℕ) : Type 0 where
  from_row1 : ancestor tree v ≡ 1 → Hangs n tree v
  from_htu : (side : Side) (a b : ℕ) → Htu n tree (ancestor tree v) a b → v ≡ on side a b → Hangs n tree v

module _ (n : ℕ) (tree : List ℕ) (grown : Grown n n tree) where
  -- the clade of the branching
  abbrev pub clade_of : CladeOf n tree
  clade_of = clade_of_lem n tree grown

  -- s is a part of the branching's clade
  abbrev pub InWhole : Clade → Type 0
  InWhole s = Part s clade_of.clade

  -- the clade of a node
  abbrev pub clade_from : ℕ → Clade
  clade_from v = clade_to n tree grown (2 * n) v

  -- a node stands among the descendants of its ancestor
  among : (v : ℕ) → 2 ≤ v → v ≤ 2 * n - 2 → Memᴰ v (descendants tree (other_nodes n) (ancestor tree v))
  unfolding other_nodes
  among v p h =
      (mem-descendants tree (numbers 2 (2 * n - 3)) (ancestor tree v) v).1
      (numbers-among 2 (2 * n - 3) v p (omega (arith, grown.at_least_two)), refl)

  -- every node below row 1 hangs from row 1 or on a side of an HTU
  pub hangs : (v : ℕ) → 2 ≤ v → v ≤ 2 * n - 2 → Hangs n tree v
  hangs v p h = ⊎_elim from_row1 (λ a. node (only_nodes n tree grown u a)) (row1_or_node n tree grown v p h)
    where
      u : ℕ
      u = ancestor tree v

      taxon : 2 ≤ u → u ≤ n → ⊥
      taxon q l =
          let none = none_in (descendants tree (other_nodes n) u) (none_below n tree grown u q l) in
          Memᴰ.not-nil (subst (λ us. Memᴰ v us) none (among v p h))

      htu : n < u → u ≤ 2 * n - 2 → Hangs n tree v
      htu l q =
          let two = htu_two n tree grown u l q in
          ⊎_elim
          (λ e. from_htu left two.0 two.1 two.2 e)
          (λ m. from_htu right two.0 two.1 two.2 (Memᴰ.eq_of_singleton m))
          (Memᴰ.cases_cons (subst (λ us. Memᴰ v us) two.2.are (among v p h)))

      node : (2 ≤ u) × (u ≤ 2 * n - 2) → Hangs n tree v
      node is = either u n (λ l. absurd (taxon is.0 l)) (λ l. htu l is.1)

  -- the node that hangs from row 1 has the whole clade
  pub first-whole : (v : ℕ) → 2 ≤ v → v ≤ 2 * n - 2 → ancestor tree v ≡ 1 → clade_from v ≡ clade_of.clade
  first-whole v p h e = ap clade_from (Memᴰ.eq_of_singleton m) ∙ clade_of.from_root
    where
      m : Memᴰ v (clade_of.root ∷ [])
      m = subst (λ us. Memᴰ v us) clade_of.of_row1 (subst (λ u. Memᴰ v (descendants tree (other_nodes n) u)) e (among v p h))

  -- the whole has no more than 2n nodes
  clade_size : size clade_of.clade ≤ 2 * n
  clade_size = unfold size other_nodes in
      omega (arith, clade_of.sums (λ v. 1), length_sum (numbers 2 (2 * n - 3)), length-numbers 2 (2 * n - 3))

  -- a part of the whole that is a node's clade to some depth is the node's clade
  part-whole : (depth v : ℕ) → 2 ≤ v → v ≤ 2 * n - 2 → InWhole (clade_to n tree grown depth v) → clade_from v ≡ clade_to n tree grown depth v
  part-whole depth v p h part = clade_to_whole n tree grown depth (2 * n) v p h
      (part_made n tree (clade_to n tree grown depth v) clade_of.clade part clade_of.is_made)
      (omega (arith, part-size (clade_to n tree grown depth v) clade_of.clade part, clade_size))

  -- the clade of HTU u is the fork of its descendants' clades, which are parts of the whole
  record Split (u a b : ℕ) : Type 0 where
    is_fork : clade_from u ≡ fork u (clade_from a) (clade_from b)
    parts : (side : Side) → InWhole (clade_from (on side a b))

  -- an HTU's clade that is a part of the whole splits so
  split : (u a b : ℕ) → Htu n tree u a b → InWhole (clade_from u) → Split u a b
  split u a b htu part = record {
    is_fork = step ∙ ap₂ (fork u) (sym (same left)) (sym (same right));
    parts = λ side. subst InWhole (sym (same side)) (inside side);
  }
    where
      to : ℕ → Clade
      to v = clade_to n tree grown (2 * n - 1) v

      step : clade_from u ≡ fork u (to a) (to b)
      step = ap (λ depth. clade_to n tree grown depth u) (omega (arith, grown.at_least_two)) ∙ clade_to_htu n tree grown (2 * n - 1) u a b htu

      inside : (side : Side) → InWhole (to (on side a b))
      inside side = subst InWhole (sym (on_map to side a b)) (part_on side u (to a) (to b) clade_of.clade (subst InWhole step part))

      same : (side : Side) → clade_from (on side a b) ≡ to (on side a b)
      same side =
          let d = htu_descends n tree grown side u a b htu in
          part-whole (2 * n - 1) (on side a b) d.second d.last (inside side)

  -- an HTU is below row 1
  pub htu_second : (u a b : ℕ) → Htu n tree u a b → 2 ≤ u
  htu_second u a b htu = omega (arith, htu.above, grown.at_least_two)

  -- the clade of a node is a part of the whole if that of its ancestor is
  part-hangs : (v : ℕ) → 2 ≤ v → v ≤ 2 * n - 2 → Hangs n tree v →
      (2 ≤ ancestor tree v → ancestor tree v ≤ 2 * n - 2 → InWhole (clade_from (ancestor tree v))) →
      InWhole (clade_from v)
  part-hangs v p h (from_row1 e) f = subst InWhole (sym (first-whole v p h e)) whole
  part-hangs v p h (from_htu side a b htu e) f =
      let u = ancestor tree v in
      subst (λ w. InWhole (clade_from w)) (sym e) ((split u a b htu (f (htu_second u a b htu) htu.last)).parts side)

  -- the clade of a node from which so many steps up reach row 1 is a part of the whole
  part-climbs : (k v : ℕ) → 2 ≤ v → v ≤ 2 * n - 2 → Climbs tree (suc k) v → InWhole (clade_from v)
  part-climbs zero v p h c = subst InWhole (sym (first-whole v p h c)) whole
  part-climbs (suc k) v p h c = part-hangs v p h (hangs v p h) (λ q r. part-climbs k (ancestor tree v) q r c)

  -- the clade of every node below row 1 is a part of the whole
  pub part_of : (v : ℕ) → 2 ≤ v → v ≤ 2 * n - 2 → InWhole (clade_from v)
  part_of v p h = let c = steps_up n tree grown v p h in go c.0 c.2
    where
      go : (k : ℕ) → Climbs tree k v → InWhole (clade_from v)
      go zero c = absurd (omega arith)
      go (suc k) c = part-climbs k v p h c

  -- the value of a node among those found from the top down
  pub value-part : {X A : Type 0} (own : X → Clade → A) (to : Side → X → Clade → Clade → X) (x : X) (otherwise : A) (v : ℕ)
      (p : InWhole (clade_from v)) → value_at otherwise (downward own to x clade_of.clade) v ≡ own (handed to x p) (clade_from v)
  value-part own to x otherwise v p =
      subst (λ u. value_at otherwise (downward own to x clade_of.clade) u ≡ own (handed to x p) (clade_from v))
      (top_clade_at tree (other_nodes n) (2 * n) v)
      (downward_part own to (clade_from v) x clade_of.clade p clade_of.is_distinct otherwise)

  -- the clade of a node is a clade of n taxa
  pub clade_from_made : (v : ℕ) → 2 ≤ v → v ≤ 2 * n - 2 → Made n tree (clade_from v)
  clade_from_made v p h = part_made n tree (clade_from v) clade_of.clade (part_of v p h) clade_of.is_made

  -- it has no more than 2n nodes
  pub clade_from-size : (v : ℕ) → 2 ≤ v → v ≤ 2 * n - 2 → size (clade_from v) ≤ 2 * n
  clade_from-size v p h = omega (arith, part-size (clade_from v) clade_of.clade (part_of v p h), clade_size)

  -- the clade of row 1 as a node is a tip, since one node descends from it
  row1-tip : (depth : ℕ) → clade_to n tree grown (suc depth) 1 ≡ tip 1
  unfolding clade_at above
  row1-tip depth = ap (λ us. above 1 (map (clade_to n tree grown depth) us)) clade_of.of_row1

  -- the clade of a taxon is a tip
  pub clade_from-taxon : (v : ℕ) → 1 ≤ v → v ≤ n → clade_from v ≡ tip v
  clade_from-taxon v p l = ap (λ depth. clade_to n tree grown depth v) (omega (arith, grown.at_least_two))
      ∙ either 2 v
      (λ second. clade_to_taxon n tree grown (2 * n - 1) v second l)
      (λ first. let row1 : v ≡ 1 = omega arith in rw row1 (row1-tip (2 * n - 1)))

  module _ (u a b : ℕ) (htu : Htu n tree u a b) where
    -- the clade of an HTU is a part of the whole
    pub htu-part : InWhole (clade_from u)
    htu-part = part_of u (htu_second u a b htu) htu.last

    -- the clade of an HTU is the fork of its descendants' clades
    pub clade_from-htu : clade_from u ≡ fork u (clade_from a) (clade_from b)
    clade_from-htu = (split u a b htu htu-part).is_fork

    -- what an HTU hands on to either side
    pub hands : {X : Type 0} (to : Side → X → Clade → Clade → X) (x : X) (side : Side) (p : InWhole (clade_from u)) →
        (q : InWhole (clade_from (on side a b))) × (handed to x q ≡ to side (handed to x p) (clade_from a) (clade_from b))
    hands to x side =
        subst
        (λ s. (p : InWhole s) →
        (q : InWhole (clade_from (on side a b))) × (handed to x q ≡ to side (handed to x p) (clade_from a) (clade_from b)))
        (sym clade_from-htu)
        (λ p.
        subst
        (λ s. (q : InWhole s) × (handed to x q ≡ to side (handed to x p) (clade_from a) (clade_from b)))
        (sym (on_map clade_from side a b)) (
          part_on side u (clade_from a) (clade_from b) clade_of.clade p,
          handed_on to side u (clade_from a) (clade_from b) x clade_of.clade p,
        ))

  -- to the node that hangs from row 1 is handed what is handed to the whole
  pub first-handed : {X : Type 0} (to : Side → X → Clade → Clade → X) (x : X) (v : ℕ) → 2 ≤ v → v ≤ 2 * n - 2 → ancestor tree v ≡ 1 →
      (q : InWhole (clade_from v)) × (handed to x q ≡ x)
  first-handed to x v p h e =
      subst (λ s. (q : InWhole s) × (handed to x q ≡ x)) (sym (first-whole v p h e)) (whole, unfold handed in refl)
