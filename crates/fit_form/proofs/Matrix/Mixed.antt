-- The third rival and the marks for characters of any kinds, with taxa and a row 1 that may vary, on every branching of n taxa:
-- the chosen states have least length, the range of every node is that of all assignments of least length, and a branch is marked exactly
-- if every assignment of least length gives it a length of at least 1.
use Rattle.std.proofs.Common.{◌≡◌, ℕ, ◌-◌, ◌*◌, ◌≤◌, Bool, true, false, cond, eqb, ltb, ◌↔◌, List, ℤ, sym, refl, ap, ◌∙◌, subst, ap₂, arith, eq-eqb, eqb-true}
use mathlib.Core.Path.{fun_ext}
use mathlib.Core.Logic.{by_cases}
use mathlib.Core.List.{flat_map}
use native.Mathlib.Decide.{dec_le}
use Rattle.lists.specs.Numbers.{numbers}
use Rattle.lists.specs.Sums.{sum_over}
use Rattle.lists.specs.Filters.{keep}
use Rattle.lists.proofs.Sums.{sum_same}
use Rattle.matrix_form.specs.Shape.{last_node}
use Rattle.tree_form.specs.Ancestors.{ancestor, descendants}
use Rattle.tree_form.specs.Nodes.{other_nodes}
use Rattle.tree_form.specs.Facts.{Branching}
use Rattle.tree_form.proofs.Whole.{branching-grown}
use Rattle.clades.specs.Clades.{Clade}
use Rattle.clades.specs.ByNode.{value_at}
use Rattle.clades.specs.Kinds.{Kind}
use Rattle.clades.specs.Character.{state_of, range_of, row1_range}
use Rattle.clades.proofs.Clades.Nodes.{top, has}
use Rattle.clades.proofs.Clades.Parts.{PartAt, part_at, node_above}
use Rattle.clades.proofs.Sets.Laws.{Laws}
use Rattle.difference_form.proofs.Laws.Distance.{times}
use Rattle.clades.proofs.Several.Together.{total_in, AllAssigned, LeastTotal}
use Rattle.clades.proofs.Several.Vanish.{length_between}
use Rattle.clades.proofs.Several.Mixed.{Characters, is_marked, gaps_between, state_in, range_in}
use Rattle.clades.proofs.Several.Mixed.{chosen-least, range_exact, marked_forced}
use Rattle.fit_form.specs.Clades.{clades_below}
use Rattle.fit_form.specs.Assignments.{branch_length, total}
use Rattle.fit_form.proofs.Clades.Built.{CladeOf, clade_of_lem}
use Rattle.fit_form.proofs.Clades.Taxa.{made_off, each_of, each-taxon, node_of, above-ancestor}
use Rattle.fit_form.proofs.Matrix.Totals.{total-cost}

-- assignments to the nodes of a branching of n taxa, for m characters: `Own j v s` says that taxon v may have state s in character j
module _ (Own : ℕ → ℕ → ℤ → Type 0) (step : ℕ → ℤ → ℤ → ℕ) (tree : List ℕ) (n m : ℕ) where
  -- an assignment gives each taxon a state that it may have, and each HTU any whole number
  pub record Assignment (states : ℕ → ℕ → ℤ) : Type 0 where
    pub keeps : (v j : ℕ) → 1 ≤ v → v ≤ n → 1 ≤ j → j ≤ m → Own j v (states v j)

  -- it is of least length if every other has at least its total
  pub record Shortest (states : ℕ → ℕ → ℤ) : Type 0 where
    pub assigns : Assignment states
    pub least : (others : ℕ → ℕ → ℤ) → Assignment others → total step tree n m states ≤ total step tree n m others

  -- node v has state s in character j in some assignment of least length
  pub record Has (v j : ℕ) (s : ℤ) : Type 0 where
    pub states : ℕ → ℕ → ℤ
    pub is_least : Shortest states
    pub here : states v j ≡ s

  -- the claim: `ours` gives the chosen states, `InRange j v s` says that s is in the range of node v in character j, and `mark v` whether
  -- the branch above node v is marked
  pub record Exact (ours : ℕ → ℕ → ℤ) (InRange : ℕ → ℕ → ℤ → Type 0) (mark : ℕ → Bool) : Type 0 where
    pub shortest : Shortest ours
    pub ranges : (v j : ℕ) (s : ℤ) → 1 ≤ v → v ≤ last_node n → 1 ≤ j → j ≤ m → InRange j v s ↔ Has v j s
    pub marks : (v : ℕ) → 2 ≤ v → v ≤ 2 * n - 2 →
        (mark v ≡ true) ↔ ((states : ℕ → ℕ → ℤ) → Shortest states → 1 ≤ branch_length step tree m states v)

-- m characters: of each its kind, its weight, and the taxa's own sets; and a branching of n taxa
module _ (K : ℕ → Kind) (weight : ℕ → ℕ) (own : (j : ℕ) → ℕ → (K j).Set) (tree : List ℕ) (n m : ℕ) where
  -- what a change costs in character j
  abbrev pub step_of : ℕ → ℤ → ℤ → ℕ
  step_of j = times (weight j) (K j).step

  -- taxon v may have the states of its own set
  abbrev pub OwnOf : ℕ → ℕ → ℤ → Type 0
  OwnOf j v s = (K j).In s (own j v)

  -- the chosen state of node v in character j
  abbrev pub state_at : ℕ → ℕ → ℤ
  state_at v j = state_of (K j) (own j) (clades_below tree n) v

  -- the range of node v in character j
  abbrev pub range_at : (j : ℕ) → ℕ → (K j).Set
  range_at j v = range_of (K j) (own j) (clades_below tree n) v

  -- how far the ranges of a node and of its ancestor lie from each other, in all characters together
  unfoldable pub ranges_apart : ℕ → ℕ
  ranges_apart v = sum_over (λ j. (K j).gap (range_at j v) (range_at j (ancestor tree v))) (numbers 1 m)

  -- the branch from node v to its immediate ancestor is marked if in some character the ranges of its ends do not meet
  unfoldable pub mark_of : ℕ → Bool
  mark_of v = ltb 0 (ranges_apart v)

  -- the claim for these characters
  abbrev pub Claim : Type 0
  Claim = Exact OwnOf step_of tree n m state_at (λ j v s. (K j).In s (range_at j v)) mark_of

  -- what each of the characters has to have
  pub record Given : Type 0 where
    pub laws : (j : ℕ) → 1 ≤ j → j ≤ m → Laws (K j)
    pub weighed : (j : ℕ) → 1 ≤ j → j ≤ m → 1 ≤ weight j
    pub proper : (v j : ℕ) → 1 ≤ v → v ≤ n → 1 ≤ j → j ≤ m → (K j).Proper (own j v)

module _ (K : ℕ → Kind) (weight : ℕ → ℕ) (own : (j : ℕ) → ℕ → (K j).Set) (tree : List ℕ) (n m : ℕ) (several : 2 ≤ n)
    (clade_of : CladeOf n tree) (given : Given K weight own tree n m) where
  -- the clade of the branching
  abbrev clade : Clade
  clade = clade_of.clade

  -- row 1 is not in it
  off : has clade 1 ≡ false
  off = made_off n tree clade (omega arith) clade_of.is_made

  -- what a change costs
  abbrev step : ℕ → ℤ → ℤ → ℕ
  step = step_of K weight own tree n m

  -- the states that a taxon may have
  abbrev Own : ℕ → ℕ → ℤ → Type 0
  Own = OwnOf K weight own tree n m

  -- the characters on the clade
  characters : Characters m K weight own clade
  characters = record {
    laws = given.laws;
    weighed = given.weighed;
    proper = λ j r l. each_of n tree (λ v. (K j).Proper (own j v)) clade clade_of.is_made (λ v p q. given.proper v j (omega arith) q r l);
    row1 = λ j r l. given.proper 1 j (omega arith) (omega arith) r l;
  }

  -- the total of an assignment is the sum of its characters' lengths over the clade
  total_clade : (states : ℕ → ℕ → ℤ) → total step tree n m states ≡ total_in m step Own clade states
  unfolding total_in
  total_clade states = total-cost step n m tree clade_of states

  -- an assignment gives row 1 and the taxa of the clade states that they may have
  assigned : (states : ℕ → ℕ → ℤ) → Assignment Own step tree n m states → AllAssigned m step Own clade states
  assigned states h j r l = record {
    row1 = h.keeps 1 j (omega arith) (omega arith) r l;
    keeps = each_of n tree (λ v. Own j v (states v j)) clade clade_of.is_made (λ v p q. h.keeps v j (omega arith) q r l);
  }

  -- and what does so is an assignment
  assignment : (states : ℕ → ℕ → ℤ) → AllAssigned m step Own clade states → Assignment Own step tree n m states
  assignment states h = record {
    keeps = λ v j p q r l.
        by_cases (dec_le 2 v)
        (λ second. each-taxon n tree (λ w. Own j w (states w j)) clade clade_of.is_made (h j r l).keeps v q
        (clade_of.has_all v second (omega arith)))
        (λ first. subst (λ w. Own j w (states w j)) (omega arith) (h j r l).row1);
  }

  -- an assignment of least length is so over the clade
  least_clade : (states : ℕ → ℕ → ℤ) → Shortest Own step tree n m states → LeastTotal m step Own clade states
  least_clade states h = record {
    assigns = assigned states h.assigns;
    least = λ others k. omega (arith, total_clade states, total_clade others, h.least others (assignment others k));
  }

  -- and the other way
  clade_least : (states : ℕ → ℕ → ℤ) → LeastTotal m step Own clade states → Shortest Own step tree n m states
  clade_least states h = record {
    assigns = assignment states h.assigns;
    least = λ others k. omega (arith, total_clade states, total_clade others, h.least others (assigned others k));
  }

  -- the chosen states are those of the clade
  state-one : (v j : ℕ) → state_in m K weight own clade v j ≡ state_at K weight own tree n m v j
  state-one v j = ap (λ ts. state_of (K j) (own j) ts v) (sym clade_of.below)

  -- the ranges are those of the clade
  range-one : (v j : ℕ) → range_in m K weight own clade v j ≡ range_at K weight own tree n m j v
  range-one v j = ap (λ ts. range_of (K j) (own j) ts v) (sym clade_of.below)

  -- the chosen states have least length
  mixed_shortest : Shortest Own step tree n m (state_at K weight own tree n m)
  mixed_shortest = subst (Shortest Own step tree n m) (fun_ext (λ v. fun_ext (λ j. state-one v j)))
      (clade_least (state_in m K weight own clade) (chosen-least m K weight own clade clade_of.is_distinct off characters))

  -- the ranges are those of all assignments of least length
  mixed_ranges : (v j : ℕ) (s : ℤ) → 1 ≤ v → v ≤ 2 * n - 2 → 1 ≤ j → j ≤ m →
      (K j).In s (range_at K weight own tree n m j v) ↔ Has Own step tree n m v j s
  mixed_ranges v j s p q r l =
      let iff = range_exact m K weight own clade clade_of.is_distinct off characters v j s (node_of n tree clade_of v p q) r l in (
        λ i. let o = iff.0 (subst ((K j).In s) (sym (range-one v j)) i) in
            record { states = o.states; is_least = clade_least o.states o.is_least; here = o.here },
        λ h. subst ((K j).In s) (range-one v j)
            (iff.1 (record { states = h.states; is_least = least_clade h.states h.is_least; here = h.here })),
      )

  module _ (v : ℕ) (second : 2 ≤ v) (last : v ≤ 2 * n - 2) where
    -- the clade of the node
    at : PartAt clade v
    at = part_at clade v (clade_of.has_all v second last)

    -- its ancestor is the node above its clade
    ends : ◌≡◌ {A = ℕ × ℕ} (top at.clade, node_above 1 at.part) (v, ancestor tree v)
    ends = λ i. (at.at_top i, above i)
      where
        above : node_above 1 at.part ≡ ancestor tree v
        above = sym (above-ancestor n tree at.clade 1 clade at.part clade_of.is_made clade_of.from_row1)
            ∙ ap (ancestor tree) at.at_top

    -- the mark is that of the clade
    mark-one : is_marked m K weight own clade v (ancestor tree v) ≡ mark_of K weight own tree n m v
    unfolding is_marked gaps_between mark_of ranges_apart
    mark-one = ap (ltb 0)
        (sum_same _ _ (numbers 1 m) (λ j i. ap₂ (K j).gap (range-one v j) (range-one (ancestor tree v) j)))

    -- a branch is marked exactly if every assignment of least length gives it a length of at least 1
    mixed_marks : (mark_of K weight own tree n m v ≡ true)
        ↔ ((states : ℕ → ℕ → ℤ) → Shortest Own step tree n m states → 1 ≤ branch_length step tree m states v)
    unfolding branch_length length_between
    mixed_marks =
        let iff = subst
        (λ u. (is_marked m K weight own clade u.0 u.1 ≡ true)
        ↔ ((states : ℕ → ℕ → ℤ) → LeastTotal m step Own clade states → 1 ≤ length_between m step Own clade states u.0 u.1)) ends
        (marked_forced m K weight own clade clade_of.is_distinct off characters at.clade at.part) in (
          λ e states least. iff.0 (mark-one ∙ e) states (least_clade states least),
          λ all. sym mark-one ∙ iff.1 (λ states least. all states (clade_least states least)),
        )

-- row 1 alone: no branch, no HTU, and a total of 0
module _ (K : ℕ → Kind) (weight : ℕ → ℕ) (own : (j : ℕ) → ℕ → (K j).Set) (tree : List ℕ) (m : ℕ) (given : Given K weight own tree 1 m) where
  -- what a change costs
  abbrev step1 : ℕ → ℤ → ℤ → ℕ
  step1 = step_of K weight own tree 1 m

  -- the states that row 1 may have
  abbrev Own1 : ℕ → ℕ → ℤ → Type 0
  Own1 = OwnOf K weight own tree 1 m

  -- its chosen states
  abbrev ours : ℕ → ℕ → ℤ
  ours = state_at K weight own tree 1 m

  -- every assignment has least length
  alone_shortest : (states : ℕ → ℕ → ℤ) → ((j : ℕ) → 1 ≤ j → j ≤ m → Own1 j 1 (states 1 j)) → Shortest Own1 step1 tree 1 m states
  alone_shortest states h = record {
    assigns = record { keeps = λ v j p q r l. subst (λ u. Own1 j u (states u j)) (omega arith) (h j r l) };
    least = λ others k. unfold total other_nodes numbers sum_over in omega arith;
  }

  -- row 1's range is its own set
  alone-range : (j : ℕ) → range_at K weight own tree 1 m j 1 ≡ own j 1
  alone-range j = unfold range_of row1_range clades_below other_nodes numbers descendants keep flat_map value_at in refl

  -- it takes the lowest state of it
  alone-state : (j : ℕ) → ours 1 j ≡ (K j).lowest (own j 1)
  alone-state j = unfold state_of row1_range clades_below other_nodes numbers descendants keep flat_map value_at in refl

  -- which is one of its own
  ours-own : (j : ℕ) → 1 ≤ j → j ≤ m → Own1 j 1 (ours 1 j)
  ours-own j r l = subst (λ (s : ℤ). (K j).In s (own j 1)) (sym (alone-state j))
      ((given.laws j r l).lowest_in (own j 1) (given.proper 1 j (omega arith) (omega arith) r l))

  -- any state of its own set in one character, and its chosen states in the others
  alone_in : ℕ → ℤ → ℕ → ℕ → ℤ
  alone_in j s v i = cond (eqb i j) s (ours v i)

  -- is an assignment
  alone-own : (j : ℕ) (s : ℤ) → (K j).In s (own j 1) → (i : ℕ) → 1 ≤ i → i ≤ m → Own1 i 1 (alone_in j s 1 i)
  unfolding alone_in
  alone-own j s h i r l = go (eqb i j) refl
    where
      go : (t : Bool) → eqb i j ≡ t → Own1 i 1 (cond t s (ours 1 i))
      go true e = subst (λ k. (K k).In s (own k 1)) (sym (eqb-true i j e)) h
      go false e = ours-own i r l

  -- the claim for row 1 alone
  alone_claim : Claim K weight own tree 1 m
  alone_claim = record {
    shortest = alone_shortest ours ours-own;
    ranges = λ v j s p q r l.
        let first : v ≡ 1 = unfold last_node in omega arith in
        subst (λ u. (K j).In s (range_at K weight own tree 1 m j u) ↔ Has Own1 step1 tree 1 m u j s) (sym first) (
          λ i.
              let h : (K j).In s (own j 1) = subst ((K j).In s) (alone-range j) i in
              record {
                states = alone_in j s;
                is_least = alone_shortest (alone_in j s) (alone-own j s h);
                here = unfold alone_in in rw (eq-eqb j j refl);
              },
          λ o. subst ((K j).In s) (sym (alone-range j))
              (subst (λ (x : ℤ). (K j).In x (own j 1)) o.here (o.is_least.assigns.keeps 1 j (omega arith) (omega arith) r l)),
        );
    marks = λ v p q. absurd (omega arith);
  }

-- for characters of any kinds and weights, taxa and a row 1 that vary, and every branching of n taxa
pub mixed_claim : (K : ℕ → Kind) (weight : ℕ → ℕ) (own : (j : ℕ) → ℕ → (K j).Set) (tree : List ℕ) (n m : ℕ) → 1 ≤ n → Branching n tree →
    Given K weight own tree n m → Claim K weight own tree n m
mixed_claim K weight own tree n m taxa branching given =
    by_cases
    (dec_le 2 n)
    (λ two.
    let clade = clade_of_lem n tree (branching-grown n tree two branching) in
    record {
      shortest = mixed_shortest K weight own tree n m two clade given;
      ranges = λ v j s p q r l. mixed_ranges K weight own tree n m two clade given v j s p (unfold last_node in omega arith) r l;
      marks = mixed_marks K weight own tree n m two clade given;
    })
    (λ one.
    let same : n ≡ 1 = omega arith in
    subst (λ k. Claim K weight own tree k m) (sym same)
    (alone_claim K weight own tree m (subst (λ k. Given K weight own tree k m) same given)))
