-- One character of any kind on the clade below row 1, where row 1 may vary too: the chosen states are of least length, the range of every
-- node, row 1, taxon or HTU, has just the states that occur in assignments of least length, and row 1 takes the lowest of its range.
use mathlib.Core.Path.{◌≡◌, sym, ◌∙◌, ap, subst}
use mathlib.Core.Logic.{inl, inr}
use mathlib.Core.Bool.{true, false}
use mathlib.Core.List.{[], ◌∷◌}
use Prim.Native.Nat.{ℕ, ◌+◌, ◌≤◌}
use native.Mathlib.Nat.{le_antisymm}
use native.Mathlib.Omega.{arith}
use lib.IntN.{ℤ}
use lib.Signed.{◌≤ℤ◌}
use Rattle.clades.specs.Clades.{Clade}
use Rattle.clades.specs.Kinds.{Kind, offset, among}
use Rattle.clades.specs.Character.{up, state_of, range_of}
use Rattle.clades.specs.Passes.{least_cost}
use Rattle.clades.proofs.Clades.Nodes.{top, has, Distinct}
use Rattle.clades.proofs.Clades.Parts.{part_at, handed}
use Rattle.clades.proofs.Clades.Cost.{cost, within, cost_top}
use Rattle.clades.proofs.Clades.Agree.{Agree, cost_agree, keeps_agree}
use Rattle.clades.proofs.Clades.Around.{exchanged, exchanged_on, exchanged_off}
use Rattle.clades.proofs.Sets.Laws.{Laws}
use Rattle.clades.proofs.Sets.Among.{among-nearest, among_proper}
use Rattle.clades.proofs.Sets.Distance.{offset_in_lem, offset-nearest, gap-least, gap_turned, closest, closest_in, gap_closest}
use Rattle.clades.proofs.OneCharacter.Basic.{Own, EachProper, up_proper_lem, basic_lemma}
use Rattle.clades.proofs.OneCharacter.Passes.{range_from, outside_to}
use Rattle.clades.proofs.OneCharacter.Chosen.{fit, fit-outside, fit-keeps, fit-cost}
use Rattle.clades.proofs.OneCharacter.LookedUp.{state-fit, state_row1, range_row1, range-part}
use Rattle.clades.proofs.OneCharacter.Outside.{least_with, cost_with, Least, least-range, range_proper_lem}
use Rattle.clades.proofs.OneCharacter.Range.{Attains, attain_part}
use Rattle.clades.proofs.OneCharacter.CharacterFit.{Assigns, length_in, Node, Within, Attained, CharacterFit}

module _ (K : Kind) (laws : Laws K) (own : ℕ → K.Set) (t : Clade) (p : EachProper K own t) (q : K.Proper (own 1)) (d : Distinct t)
    (off : has t 1 ≡ false) where
  -- the set of the clade can be the set of a node
  up_proper : K.Proper (up K own t)
  up_proper = up_proper_lem K laws own t p

  -- the least length: that of the clade, and how far its set lies from row 1's own
  unfoldable pub least_length : ℕ
  least_length = least_with K own (own 1) t

  -- an assignment of at most that length, and so of least length
  abbrev pub IsLeast : (ℕ → ℤ) → Type 0
  IsLeast = Within K.step (Own K own) t least_length

  -- every assignment has at least that
  pub length-least : (f : ℕ → ℤ) → Assigns (Own K own) t f → least_length ≤ length_in K.step t f
  unfolding least_length least_with
  length-least f h =
      omega (
        arith,
        basic_lemma K laws own f (f 1) t p h.keeps,
        gap-least K laws (up K own t) (own 1) up_proper q (f 1),
        offset_in_lem K laws (f 1) (own 1) q h.row1,
      )

  -- an assignment of least length is of least cost in the clade with row 1's own set outside
  least_clade : (f : ℕ → ℤ) → IsLeast f → Least K own (own 1) f t
  unfolding least_length
  least_clade f h = record {
    keeps = h.assigns.keeps;
    costs = unfold cost_with in
        omega (
          arith,
          h.most,
          cost_top K.step f (f 1) t,
          laws.nearest_least (f (top t)) (own 1) q (f 1) h.assigns.row1,
        );
  }

  -- ---- row 1

  -- in an assignment of least length row 1 has a member of its own set that is nearest to the clade's set
  row1_sound : (f : ℕ → ℤ) → IsLeast f → K.In (f 1) (among K (own 1) (up K own t))
  unfolding least_length
  row1_sound f h = (among-nearest K laws (own 1) (up K own t) q up_proper (f 1)).1 (
    h.assigns.row1,
    λ x i.
        let l : length_in K.step t f ≤ least_cost K own t + K.gap (up K own t) (own 1) = unfold least_with in h.most in
        omega (
          arith,
          l,
          basic_lemma K laws own f (f 1) t p h.assigns.keeps,
          gap-least K laws (up K own t) (own 1) up_proper q x,
          offset_in_lem K laws x (own 1) q i,
        ),
  )

  module _ (s : ℤ) (i : K.In s (among K (own 1) (up K own t))) where
    -- the chosen states from a state of row 1
    abbrev from1 : ℕ → ℤ
    from1 = fit K own s s t

    -- row 1 has that state
    from1_row1 : from1 1 ≡ s
    from1_row1 = fit-outside K own s s t 1 off

    -- such a state is a member of row 1's own set, and none is nearer to the clade's set
    member : K.In s (own 1) × ((x : ℤ) → K.In x (own 1) → offset K s (up K own t) ≤ offset K x (up K own t))
    member = (among-nearest K laws (own 1) (up K own t) q up_proper s).0 i

    -- they are of least length
    pub from1_least : IsLeast from1
    unfolding least_length
    from1_least = record {
      assigns = record { row1 = rw from1_row1 member.0; keeps = fit-keeps K laws own s s t d p };
      most = rw from1_row1
          (unfold least_with in
          omega (
            arith,
            fit-cost K laws own s s t d p,
            member.1 (closest K laws (own 1) (up K own t) q up_proper) (closest_in K laws (own 1) (up K own t) q up_proper),
            gap_closest K laws (own 1) (up K own t) q up_proper,
            gap_turned K laws (own 1) (up K own t) q up_proper,
          ));
    }

  -- ---- the nodes of the clade

  module _ (w : ℕ) (s : ℤ) (attains : Attains K own (own 1) t w s) (h : has t w ≡ true) where
    -- row 1 takes the member of its own set that is nearest to the state of the clade's top node
    above : ℤ
    above = K.nearest (attains.states (top t)) (own 1)

    -- the states on the clade, and that of row 1
    whole : ℕ → ℤ
    whole = exchanged t attains.states (λ u. above)

    -- what is attained in the clade is attained in the whole
    attain_whole : Attained K.step (Own K own) t least_length w s
    unfolding whole above least_length
    attain_whole = record {
      states = whole;
      is_within = record {
        assigns = record {
          row1 = rw at1 (laws.nearest_in (attains.states (top t)) (own 1) q);
          keeps = keeps_agree (Own K own) whole attains.states t on attains.is_least.keeps;
        };
        most = rw at1
            (let l : offset K (attains.states (top t)) (own 1) + within K.step attains.states t ≤ least_with K own (own 1) t =
            unfold cost_with in attains.is_least.costs in
            omega (
              arith,
              l,
              cost_agree K.step whole attains.states above t on,
              cost_top K.step attains.states above t,
              offset-nearest K laws (attains.states (top t)) (own 1),
              laws.metric.distance.turned (attains.states (top t)) above,
            ));
      };
      here = on w h ∙ attains.here;
    }
      where
        on : Agree whole attains.states t
        on = exchanged_on attains.states (λ u. above) t

        at1 : whole 1 ≡ above
        at1 = exchanged_off attains.states (λ u. above) t 1 off

  -- ---- the chosen states and the ranges, as they are looked up

  -- the ranges of row 1 and its clade
  abbrev range : ℕ → K.Set
  range = range_of K own (t ∷ [])

  -- the chosen states of row 1 and its clade
  abbrev state : ℕ → ℤ
  state = state_of K own (t ∷ [])

  -- the chosen state of row 1
  abbrev first : ℤ
  first = K.lowest (among K (own 1) (up K own t))

  -- the range of row 1 can be the set of a node
  among_proper1 : K.Proper (among K (own 1) (up K own t))
  among_proper1 = among_proper K laws (own 1) (up K own t) q up_proper

  -- the range of every node can be the set of a node
  pub range_proper : (v : ℕ) → Node t v → K.Proper (range v)
  range_proper v (inl e) = subst (λ u. K.Proper (range u)) (sym e) (rw (range_row1 K own t off) among_proper1)
  range_proper v (inr i) =
      let at = part_at t v i in
      subst (λ u. K.Proper (range u)) at.at_top
      (rw (range-part K own t d at.clade at.part) (range_proper_lem K laws own (own 1) q at.clade t at.part p))

  -- the chosen states are of least length
  pub state-least : IsLeast state
  state-least = record {
    assigns = record {
      row1 = rw (state-fit K own t 1) least.assigns.row1;
      keeps = keeps_agree (Own K own) state (fit K own first first t) t (λ w h. state-fit K own t w) least.assigns.keeps;
    };
    most = omega (
      arith,
      least.most,
      cost_agree K.step state (fit K own first first t) (state 1) t (λ w h. state-fit K own t w),
      ap (λ (y : ℤ). cost K.step (fit K own first first t) y t) (state-fit K own t 1),
    );
  }
    where
      least : IsLeast (fit K own first first t)
      least = from1_least first (laws.lowest_in (among K (own 1) (up K own t)) among_proper1)

  -- in an assignment of least length every node has a state of its range
  pub range_sound : (f : ℕ → ℤ) → IsLeast f → (v : ℕ) → Node t v → K.In (f v) (range v)
  range_sound f h v (inl e) = subst (λ u. K.In (f u) (range u)) (sym e) (rw (range_row1 K own t off) (row1_sound f h))
  range_sound f h v (inr i) =
      let at = part_at t v i in
      subst (λ u. K.In (f u) (range u)) at.at_top
      (rw (range-part K own t d at.clade at.part)
      (least-range K laws own (own 1) q f at.clade t at.part p (least_clade f h)))

  -- every state of a node's range is attained in an assignment of least length
  pub range-reached : (v : ℕ) → Node t v → (s : ℤ) → K.In s (range v) → Attained K.step (Own K own) t least_length v s
  range-reached v (inl e) s i =
      let m : K.In s (among K (own 1) (up K own t)) = rw (range_row1 K own t off) at (subst (λ u. K.In s (range u)) e i) in
      record { states = from1 s m; is_within = from1_least s m; here = ap (from1 s m) e ∙ from1_row1 s m }
  range-reached v (inr h) s i =
      let at = part_at t v h in
      let m : K.In s (range_from K own (handed (outside_to K own) (own 1) at.part) at.clade) =
      rw (range-part K own t d at.clade at.part) at (subst (λ u. K.In s (range u)) (sym at.at_top) i) in
      attain_whole v s
      (subst (λ u. Attains K own (own 1) t u s) at.at_top (attain_part K laws own at.clade (own 1) q t at.part p d s m)) h

  -- the least length is that of the chosen states
  pub state-length : length_in K.step t state ≡ least_length
  state-length = le_antisymm state-least.most (length-least state state-least.assigns)

  -- the fit of the character
  pub character-fit : CharacterFit K.step (Own K own) t state (λ v s. K.In s (range v))
  character-fit = record {
    assigns = state-least.assigns;
    least = λ f h. omega (arith, state-length, length-least f h);
    sound = λ f h. range_sound f (subst (λ k. Within K.step (Own K own) t k f) state-length h);
    reached = λ v node s i. subst (λ k. Attained K.step (Own K own) t k v s) (sym state-length) (range-reached v node s i);
  }

  -- row 1 takes the lowest state that any assignment of least length gives it
  pub row1_lowest : (f : ℕ → ℤ) → IsLeast f → state 1 ≤ℤ f 1
  row1_lowest f h = rw (state_row1 K own t off)
      (laws.lowest_least (among K (own 1) (up K own t)) among_proper1 (f 1) (row1_sound f h))
