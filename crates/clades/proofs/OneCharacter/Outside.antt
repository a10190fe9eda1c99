-- A clade and what lies outside of it, for one character of any kind. `outside` is the set of what lies outside of the clade: row 1's own
-- set, or the join of the sister's set and the `outside` of the ancestor's clade.
use mathlib.Core.Path.{◌≡◌, refl}
use Prim.Native.Nat.{ℕ, ◌+◌, ◌≤◌}
use native.Mathlib.Omega.{arith}
use lib.IntN.{ℤ}
use Rattle.clades.specs.Clades.{Clade, tip, fork}
use Rattle.clades.specs.Kinds.{Kind, offset}
use Rattle.clades.specs.Character.{up}
use Rattle.clades.specs.Passes.{least_cost}
use Rattle.clades.proofs.Clades.Sides.{Side, left, right, on, other, on_each}
use Rattle.clades.proofs.Clades.Nodes.{top}
use Rattle.clades.proofs.Clades.Parts.{Part, whole, below, handed}
use Rattle.clades.proofs.Clades.Cost.{Keeps, each_part, cost, within, cost_top}
use Rattle.clades.proofs.Sets.Laws.{Laws}
use Rattle.clades.proofs.Sets.Among.{among-nearest, among_proper}
use Rattle.clades.proofs.Sets.Distance.{offset_triangle, offset_in_lem, gap-least, gap_turned}
use Rattle.clades.proofs.Sets.Three.{least_sum, least_sum_least, least_sum_same}
use Rattle.clades.proofs.OneCharacter.Basic.{Own, EachProper, up_proper_lem, basic_lemma}
use Rattle.clades.proofs.OneCharacter.Passes.{range_from, outside_to}

module _ (K : Kind) (own : ℕ → K.Set) where
  -- the least cost within a clade, together with how far its set lies from what is outside
  unfoldable pub least_with : K.Set → Clade → ℕ
  least_with outside t = least_cost K own t + K.gap (up K own t) outside

  -- the cost within a clade under an assignment, together with how far its top node's state lies from what is outside
  unfoldable pub cost_with : K.Set → (ℕ → ℤ) → Clade → ℕ
  cost_with outside f t = offset K (f (top t)) outside + within K.step f t

  -- an assignment of least cost in a clade with what is outside: it gives each taxon a member of its own set
  pub record Least (outside : K.Set) (f : ℕ → ℤ) (t : Clade) : Type 0 where
    pub keeps : Keeps (Own K own) f t
    pub costs : cost_with outside f t ≤ least_with outside t

module _ (K : Kind) (laws : Laws K) (own : ℕ → K.Set) where
  module _ (outside : K.Set) (q : K.Proper outside) (v : ℕ) (a b : Clade) (p : EachProper K own (fork v a b)) where
    -- the own sets of the taxa on a side can be the set of a node
    pub side_proper : (side : Side) → EachProper K own (on side a b)
    side_proper side = on_each (EachProper K own) side a b p.0 p.1

    -- the set of a side can be the set of a node
    pub side_set : (side : Side) → K.Proper (up K own (on side a b))
    side_set side = up_proper_lem K laws own (on side a b) (side_proper side)

    -- what is outside of a descendant's clade can be the set of a node
    pub outside_proper : (side : Side) → K.Proper (outside_to K own side outside a b)
    unfolding outside_to
    outside_proper side = laws.join_proper (up K own (on (other side) a b)) outside (side_set (other side)) q

    -- the least cost of a fork is that of its descendants' clades and the least sum of distances from their sets and the outside
    pub least_with_fork : least_with K own outside (fork v a b)
        ≡ least_cost K own a + least_cost K own b + least_sum K (up K own a) (up K own b) outside
    unfolding least_with least_cost up least_sum
    least_with_fork = omega arith

    -- the least sum around a fork, from a side: what is outside of that side is joined first
    least_sum_side : (side : Side) → least_sum K (up K own a) (up K own b) outside
        ≡ least_sum K (up K own (on (other side) a b)) outside (up K own (on side a b))
    least_sum_side left =
        let pa = side_set left in
        let pb = side_set right in
        least_sum_same K laws (up K own a) (up K own b) outside (up K own b) outside (up K own a) pa pb q pb q pa (λ s. omega arith)
    least_sum_side right =
        let pa = side_set left in
        let pb = side_set right in
        least_sum_same K laws (up K own a) (up K own b) outside (up K own a) outside (up K own b) pa pb q pa q pb (λ s. omega arith)

    -- the least costs of the two sides of a fork, the given one first
    sides_cost : (side : Side) →
        least_cost K own a + least_cost K own b ≡ least_cost K own (on side a b) + least_cost K own (on (other side) a b)
    sides_cost left = refl
    sides_cost right = omega arith

    -- the least cost of a fork, from one descendant's clade with the descendant's outside
    pub least_with_side : (side : Side) → least_with K own outside (fork v a b)
        ≡ least_with K own (outside_to K own side outside a b) (on side a b)
        + (least_cost K own (on (other side) a b) + K.gap (up K own (on (other side) a b)) outside)
    least_with_side side =
        let s = least_with_fork in
        let e = least_sum_side side in
        let j = outside_proper side in
        let g = side_set side in
        unfold least_with least_sum outside_to in
        omega (
          arith,
          sides_cost side,
          gap_turned K laws (up K own (on side a b)) (K.join (up K own (on (other side) a b)) outside) g j,
          s,
          e,
        )

    -- the cost of a fork under an assignment, by its sides, the given one first
    pub cost_with_side : (side : Side) (f : ℕ → ℤ) → cost_with K own outside f (fork v a b)
        ≡ offset K (f v) outside + (cost K.step f (f v) (on side a b) + cost K.step f (f v) (on (other side) a b))
    unfolding cost_with top within
    cost_with_side left f = refl
    cost_with_side right f = omega arith

    -- an assignment gives the taxa of a side states of their own sets
    keeps_side : (side : Side) (f : ℕ → ℤ) → Keeps (Own K own) f (fork v a b) → Keeps (Own K own) f (on side a b)
    keeps_side side f k = on_each (Keeps (Own K own) f) side a b k.0 k.1

    -- an assignment of least cost has least cost in a descendant's clade with the descendant's outside
    pub least_side : (side : Side) (f : ℕ → ℤ) → Least K own outside f (fork v a b) →
        Least K own (outside_to K own side outside a b) f (on side a b)
    least_side side f least = record { keeps = keeps_side side f least.keeps; costs = costs }
      where
        near : Clade
        near = on side a b

        far : Clade
        far = on (other side) a b

        j : K.Set
        j = K.join (up K own far) outside

        costs : cost_with K own (outside_to K own side outside a b) f near ≤ least_with K own (outside_to K own side outside a b) near
        costs =
            let e = least_with_side side in
            let c = cost_with_side side f in
            let h = least.costs in
            let k = cost_top K.step f (f v) near in
            let l = basic_lemma K laws own f (f v) far (side_proper (other side)) (keeps_side (other side) f least.keeps) in
            let m = laws.join_apart (up K own far) outside (side_set (other side)) q (f v) in
            let t = offset_triangle K laws (f (top near)) (f v) j (laws.join_proper (up K own far) outside (side_set (other side)) q) in
            let d : cost_with K own (outside_to K own side outside a b) f near ≡ offset K (f (top near)) j + within K.step f near =
            unfold cost_with outside_to in refl in
            omega arith

  -- an assignment of least cost has least cost in every part of the clade with the part's outside
  least-part : (f : ℕ → ℤ) (s : Clade) (outside : K.Set) → K.Proper outside → (t : Clade) (p : Part s t) → EachProper K own t →
      Least K own outside f t → Least K own (handed (outside_to K own) outside p) f s
  unfolding handed
  least-part f s outside q t whole r least = least
  least-part f s outside q t (below side v a b p) r least =
      least-part f s (outside_to K own side outside a b) (outside_proper outside q v a b r side) (on side a b) p
      (side_proper outside q v a b r side) (least_side outside q v a b r side f least)

  -- the outside of a part can be the set of a node
  pub handed_proper : (s : Clade) (outside : K.Set) → K.Proper outside → (t : Clade) (p : Part s t) → EachProper K own t →
      K.Proper (handed (outside_to K own) outside p)
  unfolding handed
  handed_proper s outside q t whole r = q
  handed_proper s outside q t (below side v a b p) r =
      handed_proper s (outside_to K own side outside a b) (outside_proper outside q v a b r side) (on side a b) p
      (side_proper outside q v a b r side)

  -- the range of a clade's top node can be the set of a node
  range_top_proper : (outside : K.Set) → K.Proper outside → (t : Clade) → EachProper K own t → K.Proper (range_from K own outside t)
  unfolding range_from
  range_top_proper outside q (tip v) p = among_proper K laws (own v) outside p q
  range_top_proper outside q (fork v a b) p =
      laws.middle_proper (up K own a) (up K own b) outside (up_proper_lem K laws own a p.0) (up_proper_lem K laws own b p.1) q

  -- and so can that of every part's top node
  pub range_proper_lem : (outside : K.Set) → K.Proper outside → (s t : Clade) (p : Part s t) → EachProper K own t →
      K.Proper (range_from K own (handed (outside_to K own) outside p) s)
  range_proper_lem outside q s t p r =
      range_top_proper (handed (outside_to K own) outside p) (handed_proper s outside q t p r) s
      (each_part (λ v. K.Proper (own v)) s t p r)

  -- in an assignment of least cost the top node of a clade has a state of its range
  least_top : (outside : K.Set) → K.Proper outside → (f : ℕ → ℤ) (t : Clade) → EachProper K own t →
      Least K own outside f t → K.In (f (top t)) (range_from K own outside t)
  unfolding range_from top
  least_top outside q f (tip v) p least =
      (among-nearest K laws (own v) outside p q (f v)).1 (
        least.keeps,
        λ x i.
            let h : offset K (f v) outside + 0 ≤ 0 + K.gap (own v) outside =
            unfold cost_with least_with within least_cost up top in least.costs in
            omega (arith, gap-least K laws (own v) outside p q x, offset_in_lem K laws x (own v) p i),
      )
  least_top outside q f (fork v a b) p least =
      let pa = up_proper_lem K laws own a p.0 in
      let pb = up_proper_lem K laws own b p.1 in
      let e = least_with_fork outside q v a b p in
      let c = cost_with_side outside q v a b p left f in
      let h = least.costs in
      (laws.middle_least (up K own a) (up K own b) outside pa pb q (f v)).1
      (λ x.
      omega (
        arith,
        least_sum_least K laws (up K own a) (up K own b) outside pa pb q x,
        basic_lemma K laws own f (f v) a p.0 least.keeps.0,
        basic_lemma K laws own f (f v) b p.1 least.keeps.1,
      ))

  -- in an assignment of least cost the top node of every part has a state of its range
  pub least-range : (outside : K.Set) → K.Proper outside → (f : ℕ → ℤ) (s t : Clade) (p : Part s t) → EachProper K own t →
      Least K own outside f t → K.In (f (top s)) (range_from K own (handed (outside_to K own) outside p) s)
  least-range outside q f s t p r least =
      least_top (handed (outside_to K own) outside p) (handed_proper s outside q t p r) f s (each_part (λ v. K.Proper (own v)) s t p r)
      (least-part f s outside q t p r least)
