-- The clade built from a branching of two taxa or more: its tips are taxa and its forks HTUs, its links are those of the tree,
-- its nodes are distinct, and all nodes below row 1 are in it.
use Rattle.std.proofs.Common.{◌≡◌, ℕ, zero, suc, ◌+◌, ◌-◌, ◌*◌, ◌<◌, ◌≤◌, true, eqb, List, [], ◌∷◌, map, length, ℤ, sym, refl, ap, ◌∙◌, subst, ap₂, arith}
use mathlib.Core.List.{Memᴰ}
use Rattle.lists.specs.Numbers.{numbers}
use Rattle.lists.specs.Sums.{sum_over}
use Rattle.lists.proofs.Numbers.{numbers-within}
use Rattle.lists.proofs.Sums.{pick, sum_outside, sum_one}
use Rattle.tree_form.specs.Ancestors.{ancestor, descendants}
use Rattle.tree_form.specs.Nodes.{other_nodes}
use Rattle.tree_form.specs.Facts.{Grown}
use Rattle.tree_form.proofs.Descendants.{mem-descendants}
use Rattle.clades.specs.Clades.{Clade, tip, fork}
use Rattle.fit_form.specs.Clades.{above, clade_at, clades_below}
use Rattle.fit_form.proofs.Cases.{either}
use Rattle.clades.proofs.Clades.Sides.{Side, left, right, on}
use Rattle.clades.proofs.Clades.Nodes.{has, Distinct, top}
use Rattle.clades.proofs.Clades.Cost.{cost}
use Rattle.fit_form.proofs.Clades.Sums.{sum_clade, count, count_has, distinct_of, size, size_positive, size-fork}
use Rattle.fit_form.proofs.Clades.Walks.{sum_clade_all, climbs_unique}
use Rattle.fit_form.proofs.Clades.Branching.{Climbs, one_below, none_below, two_below, steps_up}

-- a clade of n taxa: tips are taxa other than row 1, forks are HTUs, and each descendant has the fork's HTU as its ancestor
abbrev pub Made : ℕ → List ℕ → Clade → Type 0
Made n tree (tip v) = (2 ≤ v) × (v ≤ n)
Made n tree (fork v a b) =
    (n < v) × (v ≤ 2 * n - 2) × (ancestor tree (top a) ≡ v) × (ancestor tree (top b) ≡ v) × Made n tree a × Made n tree b

-- the cost of such a clade is the sum, over its nodes, of what the steps from their ancestors cost
pub cost_sum_clade : (step : ℤ → ℤ → ℕ) (n : ℕ) (tree : List ℕ) (f : ℕ → ℤ) (y : ℤ) (t : Clade) → Made n tree t →
    f (ancestor tree (top t)) ≡ y → cost step f y t ≡ sum_clade (λ v. step (f v) (f (ancestor tree v))) t
unfolding cost sum_clade top
cost_sum_clade step n tree f y (tip v) m e = rw e
cost_sum_clade step n tree f y (fork v a b) m e =
    rw (e, cost_sum_clade step n tree f (f v) a m.4 (ap f m.2), cost_sum_clade step n tree f (f v) b m.5 (ap f m.3))

-- the top node of node v above its descendants' clades is v
top_above : (v : ℕ) (ts : List Clade) → top (above v ts) ≡ v
unfolding top above
top_above v [] = refl
top_above v (a ∷ []) = refl
top_above v (a ∷ b ∷ ts) = refl

-- the top node of the clade of node v, to any depth, is v
pub top_clade_at : (tree nodes : List ℕ) (depth v : ℕ) → top (clade_at tree nodes depth v) ≡ v
unfolding clade_at
top_clade_at tree nodes zero v = unfold top in refl
top_clade_at tree nodes (suc depth) v = top_above v (map (λ u. clade_at tree nodes depth u) (descendants tree nodes v))

-- a list of length 0 is empty
pub none_in : (us : List ℕ) → length us ≡ 0 → us ≡ []
none_in [] e = refl
none_in (a ∷ us) e = absurd (omega arith)

-- a list of length 1 has one number
one_in : (us : List ℕ) → length us ≡ 1 → (a : ℕ) × (us ≡ a ∷ [])
one_in [] e = absurd (omega arith)
one_in (a ∷ []) e = (a, refl)
one_in (a ∷ b ∷ us) e = absurd (omega arith)

-- a list of length 2 has two numbers
two_in : (us : List ℕ) → length us ≡ 2 → (a : ℕ) × (b : ℕ) × (us ≡ a ∷ b ∷ [])
two_in [] e = absurd (omega arith)
two_in (a ∷ []) e = absurd (omega arith)
two_in (a ∷ b ∷ []) e = (a, b, refl)
two_in (a ∷ b ∷ c ∷ us) e = absurd (omega arith)

-- a is a descendant of u: a node below row 1 with ancestor u
pub record Descends (n : ℕ) (tree : List ℕ) (u a : ℕ) : Type 0 where
  pub from : ancestor tree a ≡ u
  pub second : 2 ≤ a
  pub last : a ≤ 2 * n - 2

-- a and b are the two descendants of HTU u
pub record Htu (n : ℕ) (tree : List ℕ) (u a b : ℕ) : Type 0 where
  pub above : n < u
  pub last : u ≤ 2 * n - 2
  pub are : descendants tree (other_nodes n) u ≡ a ∷ b ∷ []

module _ (n : ℕ) (tree : List ℕ) (grown : Grown n n tree) where
  -- a member of a node's list of descendants is a descendant
  descends_of : (u a : ℕ) → Memᴰ a (descendants tree (other_nodes n) u) → Descends n tree u a
  unfolding other_nodes
  descends_of u a m =
      let r = (mem-descendants tree (numbers 2 (2 * n - 3)) u a).0 m in
      let s = numbers-within 2 (2 * n - 3) a r.0 in
      record { from = r.1; second = s.0; last = omega (arith, s.1, grown.at_least_two) }

  -- each HTU has two descendants
  pub htu_two : (u : ℕ) → n < u → u ≤ 2 * n - 2 → (a : ℕ) × (b : ℕ) × Htu n tree u a b
  htu_two u l h =
      let two = two_in (descendants tree (other_nodes n) u) (two_below n tree grown u l h) in
      (two.0, two.1, record { above = l; last = h; are = two.2 })

  -- what stands on either side of an HTU is a descendant
  pub htu_descends : (side : Side) (u a b : ℕ) → Htu n tree u a b → Descends n tree u (on side a b)
  htu_descends left u a b htu = descends_of u a (subst (λ us. Memᴰ a us) (sym htu.are) (Memᴰ.head refl))
  htu_descends right u a b htu = descends_of u b (subst (λ us. Memᴰ b us) (sym htu.are) (Memᴰ.tail (Memᴰ.head refl)))

  -- the clade of a node to some depth
  abbrev pub clade_to : ℕ → ℕ → Clade
  clade_to depth u = clade_at tree (other_nodes n) depth u

  -- a taxon's clade is a tip
  pub clade_to_taxon : (depth u : ℕ) → 2 ≤ u → u ≤ n → clade_to (suc depth) u ≡ tip u
  unfolding clade_at above
  clade_to_taxon depth u p l = ap (λ us. above u (map (clade_to depth) us))
      (none_in (descendants tree (other_nodes n) u) (none_below n tree grown u p l))

  -- an HTU's clade is the fork of its descendants' clades
  pub clade_to_htu : (depth u a b : ℕ) → Htu n tree u a b → clade_to (suc depth) u ≡ fork u (clade_to depth a) (clade_to depth b)
  unfolding clade_at above
  clade_to_htu depth u a b htu = ap (λ us. above u (map (clade_to depth) us)) htu.are

  -- the top node of a descendant's clade has the HTU as its ancestor
  top_descends : (depth u a : ℕ) → Descends n tree u a → ancestor tree (top (clade_to depth a)) ≡ u
  top_descends depth u a d = ap (ancestor tree) (top_clade_at tree (other_nodes n) depth a) ∙ d.from

  -- the clade of a node, if it goes as far down as there are nodes, is a clade of n taxa
  made : (depth u steps : ℕ) → 2 ≤ u → u ≤ 2 * n - 2 → Climbs tree steps u → 2 * n - 2 < steps + depth → Made n tree (clade_to depth u)
  made zero u steps p h c e =
      let k = steps_up n tree grown u p h in
      absurd (omega (arith, climbs_unique n tree grown steps k.0 u c k.2, k.1))
  made (suc depth) u steps p h c e = either u n
      (λ l. rw (clade_to_taxon depth u p l) (p, l))
      (λ l.
      let two = htu_two u l h in
      let a = two.0 in
      let b = two.1 in
      let da = htu_descends left u a b two.2 in
      let db = htu_descends right u a b two.2 in
      rw (clade_to_htu depth u a b two.2) (
        l,
        h,
        top_descends depth u a da,
        top_descends depth u b db,
        made depth a (suc steps) da.second da.last (rw da.from c) (omega arith),
        made depth b (suc steps) db.second db.last (rw db.from c) (omega arith),
      ))

  -- a clade of n taxa is the whole clade of its node already if it goes down as many steps as it has nodes
  pub clade_to_whole : (deep depth u : ℕ) → 2 ≤ u → u ≤ 2 * n - 2 → Made n tree (clade_to deep u) → size (clade_to deep u) ≤ depth →
      clade_to depth u ≡ clade_to deep u
  unfolding clade_at
  clade_to_whole deep zero u p h made e = absurd (omega (arith, size_positive (clade_to deep u)))
  clade_to_whole zero (suc depth) u p h made e = clade_to_taxon depth u p made.1
  clade_to_whole (suc deep) (suc depth) u p h made e = either u n
      (λ l. clade_to_taxon depth u p l ∙ sym (clade_to_taxon deep u p l))
      (λ l.
      let two = htu_two u l h in
      let a = two.0 in
      let b = two.1 in
      let da = htu_descends left u a b two.2 in
      let db = htu_descends right u a b two.2 in
      let split = clade_to_htu deep u a b two.2 in
      let parts = subst (Made n tree) split made in
      let room = size-fork u (clade_to deep a) (clade_to deep b) in
      clade_to_htu depth u a b two.2
      ∙ ap₂ (fork u)
      (clade_to_whole deep depth a da.second da.last parts.4 (omega (arith, ap size split, room, e)))
      (clade_to_whole deep depth b db.second db.last parts.5 (omega (arith, ap size split, room, e)))
      ∙ sym split)

-- the clade that a branching of two taxa or more is
pub record CladeOf (n : ℕ) (tree : List ℕ) : Type 0 where
  pub clade : Clade
  pub root : ℕ
  -- it is the clade of the one descendant of row 1, and alone hangs from row 1
  pub of_row1 : descendants tree (other_nodes n) 1 ≡ root ∷ []
  pub from_root : clade_at tree (other_nodes n) (2 * n) root ≡ clade
  pub below : clades_below tree n ≡ clade ∷ []
  pub from_row1 : ancestor tree (top clade) ≡ 1
  pub is_made : Made n tree clade
  pub is_distinct : Distinct clade
  -- all nodes below row 1 are in it
  pub has_all : (v : ℕ) → 2 ≤ v → v ≤ 2 * n - 2 → has clade v ≡ true
  -- a sum over its nodes is the sum over the nodes below row 1
  pub sums : (q : ℕ → ℕ) → sum_clade q clade ≡ sum_over q (other_nodes n)

-- among consecutive numbers no number is counted twice
count-numbers : (first number w : ℕ) → sum_over (λ v. pick (eqb v w) 1) (numbers first number) ≤ 1
count-numbers first number w = either first w
    (λ p. either (first + number) w
    (λ q. omega (arith, sum_outside first number w (λ v. 1) (λ r s. omega arith)))
    (λ q. omega (arith, sum_one first number w (λ v. 1) p q)))
    (λ p. omega (arith, sum_outside first number w (λ v. 1) (λ r s. omega arith)))

-- every branching of two taxa or more has such a clade
pub clade_of_lem : (n : ℕ) (tree : List ℕ) → Grown n n tree → CladeOf n tree
clade_of_lem n tree grown = record {
  clade = t;
  root = one.0;
  of_row1 = one.1;
  from_root = refl;
  below = unfold clades_below in ap (map (clade_to n tree grown (2 * n))) one.1;
  from_row1 = top_descends n tree grown (2 * n) 1 one.0 first;
  is_made = made n tree grown (2 * n) one.0 1 first.second first.last first.from (omega arith);
  is_distinct = distinct_of t
      (λ w. unfold count other_nodes in omega (arith, sums (λ v. pick (eqb v w) 1), count-numbers 2 (2 * n - 3) w));
  has_all = λ v p h. count_has t v
      (unfold count other_nodes in
      omega (arith, sums (λ u. pick (eqb u v) 1), sum_one 2 (2 * n - 3) v (λ u. 1) p (omega (arith, grown.at_least_two))));
  sums = sums;
}
  where
    one : (a : ℕ) × (descendants tree (other_nodes n) 1 ≡ a ∷ [])
    one = one_in (descendants tree (other_nodes n) 1) (one_below n tree grown)

    t : Clade
    t = clade_to n tree grown (2 * n) one.0

    first : Descends n tree 1 one.0
    first = descends_of n tree grown 1 one.0 (subst (λ us. Memᴰ one.0 us) (sym one.1) (Memᴰ.head refl))

    sums : (q : ℕ → ℕ) → sum_clade q t ≡ sum_over q (other_nodes n)
    sums q = alone
        ∙ ap (λ us. sum_over (λ a. sum_clade q (clade_to n tree grown (2 * n) a)) us) (sym one.1)
        ∙ sum_clade_all n tree grown (2 * n) (omega arith) q
      where
        alone : sum_clade q t ≡ sum_over (λ a. sum_clade q (clade_to n tree grown (2 * n) a)) (one.0 ∷ [])
        alone = unfold sum_over in omega arith
