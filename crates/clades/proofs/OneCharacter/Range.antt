-- Every state of the range of a node of a clade is attained in an assignment of least cost, for one character of any kind.
use mathlib.Core.Path.{◌≡◌, refl, ◌∙◌}
use mathlib.Core.Bool.{true}
use Prim.Native.Nat.{ℕ, ◌+◌, ◌≤◌}
use native.Mathlib.Omega.{arith}
use lib.IntN.{ℤ}
use Rattle.clades.specs.Clades.{Clade, tip, fork}
use Rattle.clades.specs.Kinds.{Kind, offset, among}
use Rattle.clades.specs.Character.{up}
use Rattle.clades.specs.Passes.{least_cost}
use Rattle.clades.proofs.Clades.Sides.{Side, left, right, on, other, on_each}
use Rattle.clades.proofs.Clades.Nodes.{top, has, has_top, Separate, Distinct, separate_swap}
use Rattle.clades.proofs.Clades.Parts.{Part, whole, below, part_has, handed}
use Rattle.clades.proofs.Clades.Cost.{Keeps, cost, within, cost_top}
use Rattle.clades.proofs.Clades.Agree.{Agree, cost_agree, keeps_agree, combined, combined_top, combined_left, combined_right}
use Rattle.clades.proofs.Sets.Laws.{Laws, sum_of}
use Rattle.clades.proofs.Sets.Among.{among-nearest}
use Rattle.clades.proofs.Sets.Distance.{closest, closest_in, gap_closest, offset-nearest}
use Rattle.clades.proofs.Sets.Three.{least_sum, least_state, least_sum_attained}
use Rattle.clades.proofs.OneCharacter.Basic.{Own, EachProper, up_proper_lem}
use Rattle.clades.proofs.OneCharacter.Passes.{range_from, outside_to}
use Rattle.clades.proofs.OneCharacter.Chosen.{fit, fit-keeps, fit-cost}
use Rattle.clades.proofs.OneCharacter.Outside.{least_with, cost_with, Least, least_with_fork, least_with_side, cost_with_side}
use Rattle.clades.proofs.OneCharacter.Outside.{side_proper, side_set, outside_proper}

-- an assignment of least cost, with what is outside, under which node w has state s
pub record Attains (K : Kind) (own : ℕ → K.Set) (outside : K.Set) (t : Clade) (w : ℕ) (s : ℤ) : Type 0 where
  pub states : ℕ → ℤ
  pub is_least : Least K own outside states t
  pub here : states w ≡ s

-- the HTU of a fork and its two sides, a given one first, are separate
separate_on : (side : Side) (v : ℕ) (a b : Clade) → Separate v a b → Separate v (on side a b) (on (other side) a b)
separate_on left v a b p = p
separate_on right v a b p = separate_swap v a b p

-- an assignment that gives the taxa on either side of a fork states that they may have gives such states to all taxa of the fork
keeps_both : (Own : ℕ → ℤ → Type 0) (f : ℕ → ℤ) (side : Side) (v : ℕ) (a b : Clade) → Keeps Own f (on side a b) →
    Keeps Own f (on (other side) a b) → Keeps Own f (fork v a b)
keeps_both Own f left v a b j k = (j, k)
keeps_both Own f right v a b j k = (k, j)

module _ (K : Kind) (laws : Laws K) (own : ℕ → K.Set) where
  -- a member of a taxon's own set that is nearest to what is outside is attained
  attain_tip : (outside : K.Set) → K.Proper outside → (v : ℕ) → K.Proper (own v) → (s : ℤ) → K.In s (among K (own v) outside) →
      Attains K own outside (tip v) v s
  attain_tip outside q v p s i =
      let m = (among-nearest K laws (own v) outside p q s).0 i in
      record {
        states = λ w. s;
        is_least = record {
          keeps = m.0;
          costs = unfold cost_with least_with within least_cost up top in
              omega (
                arith,
                m.1 (closest K laws (own v) outside p q) (closest_in K laws (own v) outside p q),
                gap_closest K laws (own v) outside p q,
              );
        };
        here = refl;
      }

  module _ (outside : K.Set) (q : K.Proper outside) (v : ℕ) (a b : Clade) (p : EachProper K own (fork v a b))
      (d : Distinct (fork v a b)) where
    -- a state of the middle of the three sets around a fork is attained: the chosen states follow from it on both sides
    attain_fork : (s : ℤ) → K.In s (K.middle (up K own a) (up K own b) outside) → Attains K own outside (fork v a b) v s
    attain_fork s i = record {
      states = f;
      is_least = record {
        keeps = (
          keeps_agree (Own K own) f (fit K own s s a) a on_left (fit-keeps K laws own s s a d.1 p.0),
          keeps_agree (Own K own) f (fit K own s s b) b on_right (fit-keeps K laws own s s b d.2 p.1),
        );
        costs = costs;
      };
      here = combined_top v s a b (fit K own s s a) (fit K own s s b);
    }
      where
        f : ℕ → ℤ
        f = combined v s a (fit K own s s a) (fit K own s s b)

        on_left : Agree f (fit K own s s a) a
        on_left = combined_left v s a b (fit K own s s a) (fit K own s s b) d.0

        on_right : Agree f (fit K own s s b) b
        on_right = combined_right v s a b (fit K own s s a) (fit K own s s b) d.0

        sum : sum_of K (up K own a) (up K own b) outside s ≤ least_sum K (up K own a) (up K own b) outside
        sum =
            let pa = up_proper_lem K laws own a p.0 in
            let pb = up_proper_lem K laws own b p.1 in
            omega (
              arith,
              (laws.middle_least (up K own a) (up K own b) outside pa pb q s).0 i
                  (least_state K laws (up K own a) (up K own b) outside pa pb q),
              least_sum_attained K laws (up K own a) (up K own b) outside pa pb q,
            )

        costs : cost_with K own outside f (fork v a b) ≤ least_with K own outside (fork v a b)
        costs =
            let c : cost_with K own outside f (fork v a b)
            ≡ offset K s outside + (cost K.step f s a + cost K.step f s b) =
            cost_with_side K laws own outside q v a b p left f ∙ rw (combined_top v s a b (fit K own s s a) (fit K own s s b)) in
            omega (
              arith,
              c,
              cost_agree K.step f (fit K own s s a) s a on_left,
              fit-cost K laws own s s a d.1 p.0,
              cost_agree K.step f (fit K own s s b) s b on_right,
              fit-cost K laws own s s b d.2 p.1,
              least_with_fork K laws own outside q v a b p,
              sum,
            )

    -- a state attained in one descendant's clade is attained in the whole: the HTU takes the nearest member of that descendant's
    -- outside, and the chosen states follow from it on the other side
    attain_side : (side : Side) (w : ℕ) (s : ℤ) → has (on side a b) w ≡ true →
        Attains K own (outside_to K own side outside a b) (on side a b) w s → Attains K own outside (fork v a b) w s
    attain_side side w s h attains = record {
      states = f;
      is_least = record {
        keeps = keeps_both (Own K own) f side v a b (keeps_agree (Own K own) f g near on_near attains.is_least.keeps)
            (keeps_agree (Own K own) f (fit K own u u far) far on_far (fit-keeps K laws own u u far distinct proper));
        costs = costs;
      };
      here = on_near w h ∙ attains.here;
    }
      where
        near : Clade
        near = on side a b

        far : Clade
        far = on (other side) a b

        g : ℕ → ℤ
        g = attains.states

        j : K.Set
        j = outside_to K own side outside a b

        u : ℤ
        u = K.nearest (g (top near)) j

        f : ℕ → ℤ
        f = combined v u near g (fit K own u u far)

        distinct : Distinct far
        distinct = on_each Distinct (other side) a b d.1 d.2

        proper : EachProper K own far
        proper = side_proper K laws own outside q v a b p (other side)

        on_near : Agree f g near
        on_near = combined_left v u near far g (fit K own u u far) (separate_on side v a b d.0)

        on_far : Agree f (fit K own u u far) far
        on_far = combined_right v u near far g (fit K own u u far) (separate_on side v a b d.0)

        joint : offset K u (up K own far) + offset K u outside ≤ K.gap (up K own far) outside
        joint = laws.join_in (up K own far) outside (side_set K laws own outside q v a b p (other side)) q u
            (unfold outside_to in laws.nearest_in (g (top near)) j (outside_proper K laws own outside q v a b p side))

        costs : cost_with K own outside f (fork v a b) ≤ least_with K own outside (fork v a b)
        costs =
            let c : cost_with K own outside f (fork v a b)
            ≡ offset K u outside + (cost K.step f u near + cost K.step f u far) =
            cost_with_side K laws own outside q v a b p side f ∙ rw (combined_top v u near far g (fit K own u u far)) in
            let l : offset K (g (top near)) j + within K.step g near ≤ least_with K own j near =
            unfold cost_with in attains.is_least.costs in
            let t = cost_top K.step g u near in
            let n = offset-nearest K laws (g (top near)) j in
            let m = laws.metric.distance.turned (g (top near)) u in
            omega (
              arith,
              c,
              l,
              cost_agree K.step f g u near on_near,
              cost_agree K.step f (fit K own u u far) u far on_far,
              fit-cost K laws own u u far distinct proper,
              least_with_side K laws own outside q v a b p side,
              joint,
            )

  -- every state of the range of a clade's top node is attained
  pub attain_top : (outside : K.Set) → K.Proper outside → (t : Clade) → EachProper K own t → Distinct t →
      (s : ℤ) → K.In s (range_from K own outside t) → Attains K own outside t (top t) s
  unfolding range_from top
  attain_top outside q (tip v) p d s i = attain_tip outside q v p s i
  attain_top outside q (fork v a b) p d s i = attain_fork outside q v a b p d s i

  -- every state of the range of a part's top node, by the part's outside, is attained
  pub attain_part : (s : Clade) (outside : K.Set) → K.Proper outside → (t : Clade) (c : Part s t) → EachProper K own t → Distinct t →
      (x : ℤ) → K.In x (range_from K own (handed (outside_to K own) outside c) s) → Attains K own outside t (top s) x
  unfolding handed
  attain_part s outside q t whole p d x i = attain_top outside q s p d x i
  attain_part s outside q t (below side v a b c) p d x i =
      attain_side outside q v a b p d side (top s) x (part_has s (on side a b) c (top s) (has_top s))
      (attain_part s (outside_to K own side outside a b) (outside_proper K laws own outside q v a b p side) (on side a b) c
      (side_proper K laws own outside q v a b p side) (on_each Distinct side a b d.1 d.2) x i)
