-- A branch can vanish in one character, whatever its kind, exactly if the ranges of its two ends meet: by exchange of two assignments of
-- least length on either side of the branch.
use mathlib.Core.Path.{◌≡◌, refl, sym, ◌∙◌, ap, subst}
use mathlib.Core.Logic.{◌↔◌, ◌⊎◌, inl, inr, ⊎_elim}
use mathlib.Core.Bool.{true, false}
use Prim.Native.Nat.{ℕ}
use native.Mathlib.Omega.{arith}
use lib.IntN.{ℤ}
use Rattle.clades.specs.Clades.{Clade, fork}
use Rattle.clades.proofs.Clades.Sides.{on}
use Rattle.clades.proofs.Clades.Nodes.{top, has, has_top, has_on, Distinct}
use Rattle.clades.proofs.Clades.Parts.{Part, whole, below, part_has, node_above}
use Rattle.clades.proofs.Clades.Cost.{each_part}
use Rattle.clades.proofs.Clades.Around.{cost-part, exchanged, exchanged_on, exchanged_off, part_without, above-without}
use Rattle.clades.proofs.Clades.Around.{keeps_exchanged, cost_exchanged}
use Rattle.difference_form.proofs.Laws.Distance.{Distance}
use Rattle.clades.proofs.OneCharacter.CharacterFit.{Assigns, length_in, Within, CharacterFit}

-- the node above a part of a clade below node u is u or a node of the clade
pub above_node : (s : Clade) (u : ℕ) (t : Clade) (p : Part s t) → (node_above u p ≡ u) ⊎ (has t (node_above u p) ≡ true)
unfolding node_above top
above_node s u t whole = inl refl
above_node s u t (below side v a b p) = inr (⊎_elim
    (λ e. subst (λ w. has (fork v a b) w ≡ true) (sym e) (has_top (fork v a b)))
    (λ h. has_on side v a b (node_above v p) h)
    (above_node s v (on side a b) p))

-- an assignment of at most this length that gives nodes v and u the same state
pub record Vanishes (step : ℤ → ℤ → ℕ) (Own : ℕ → ℤ → Type 0) (clade : Clade) (amount v u : ℕ) : Type 0 where
  pub states : ℕ → ℤ
  pub is_within : Within step Own clade amount states
  pub same : states v ≡ states u

-- one state is in the ranges of both nodes v and u
pub record Meet (InRange : ℕ → ℤ → Type 0) (v u : ℕ) : Type 0 where
  pub state : ℤ
  pub in_first : InRange v state
  pub in_second : InRange u state

module _ (step : ℤ → ℤ → ℕ) (distance : Distance step) (Own : ℕ → ℤ → Type 0) (t : Clade) (d : Distinct t) (off : has t 1 ≡ false)
    (chosen : ℕ → ℤ) (InRange : ℕ → ℤ → Type 0) (fit : CharacterFit step Own t chosen InRange) where
  -- an assignment of least length
  abbrev IsLeast : (ℕ → ℤ) → Type 0
  IsLeast = Within step Own t (length_in step t chosen)

  -- for a part of the clade: the clade of the branch's lower end
  module _ (s : Clade) (c : Part s t) where
    -- the upper end of the branch above the part
    abbrev upper : ℕ
    upper = node_above 1 c

    -- one assignment on the part and another around it is an assignment
    assigns_exchanged : (f g : ℕ → ℤ) → Assigns Own t f → Assigns Own t g → Assigns Own t (exchanged s f g)
    assigns_exchanged f g h k = record {
      row1 = subst (Own 1) (sym (exchanged_off f g s 1 (part_without s t c 1 off))) k.row1;
      keeps = keeps_exchanged Own f g s t c d (each_part (λ v. Own v (f v)) s t c h.keeps) k.keeps;
    }

    -- if one assignment of least length has a state at the lower end and another has it at the upper end, then the one on the part and the
    -- other around it are together of least length: the opposite exchange is no shorter, and no longer than by the triangle
    pub exchange_least : (f g : ℕ → ℤ) → IsLeast f → IsLeast g → f (top s) ≡ g upper → IsLeast (exchanged s f g)
    exchange_least f g h k same = record {
      assigns = assigns_exchanged f g h.assigns k.assigns;
      most =
          let opposite = fit.least (exchanged s g f) (assigns_exchanged g f k.assigns h.assigns) in
          let none : step (f (top s)) (g upper) ≡ 0 = ap (λ (x : ℤ). step x (g upper)) same ∙ distance.self (g upper) in
          let shift : step (g upper) (f upper) ≡ step (f (top s)) (f upper) = ap (λ (x : ℤ). step x (f upper)) (sym same) in
          omega (
            arith,
            h.most,
            k.most,
            opposite,
            none,
            shift,
            cost-part step f s 1 t c,
            cost-part step g s 1 t c,
            cost_exchanged step f g 1 s t c d off,
            cost_exchanged step g f 1 s t c d off,
            distance.triangle (g (top s)) (g upper) (f upper),
          );
    }

    -- where the ranges of the two ends meet, some assignment of least length gives both ends the same state
    meet_vanishes : Meet InRange (top s) upper → Vanishes step Own t (length_in step t chosen) (top s) upper
    meet_vanishes meet =
        let f = fit.reached (top s) (inr (part_has s t c (top s) (has_top s))) meet.state meet.in_first in
        let g = fit.reached upper (above_node s 1 t c) meet.state meet.in_second in
        record {
          states = exchanged s f.states g.states;
          is_within = exchange_least f.states g.states f.is_within g.is_within (f.here ∙ sym g.here);
          same = exchanged_on f.states g.states s (top s) (has_top s)
              ∙ f.here
              ∙ sym g.here
              ∙ sym (exchanged_off f.states g.states s upper (above-without s 1 t c d off));
        }

    -- where some assignment of least length gives both ends the same state, their ranges meet
    vanishes_meet : Vanishes step Own t (length_in step t chosen) (top s) upper → Meet InRange (top s) upper
    vanishes_meet v = record {
      state = v.states (top s);
      in_first = fit.sound v.states v.is_within (top s) (inr (part_has s t c (top s) (has_top s)));
      in_second = subst (InRange upper) (sym v.same) (fit.sound v.states v.is_within upper (above_node s 1 t c));
    }

    -- a branch can vanish in the character exactly if the ranges of its two ends meet
    pub vanishes_iff : Vanishes step Own t (length_in step t chosen) (top s) upper ↔ Meet InRange (top s) upper
    vanishes_iff = (vanishes_meet, meet_vanishes)
