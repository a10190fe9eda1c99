-- The chosen states of a clade whose nodes are distinct are an assignment of least cost, and each node's is the member of its set
-- nearest to the state of the node above it.
use mathlib.Core.Path.{◌≡◌, sym, ◌∙◌, ap, subst}
use mathlib.Core.Bool.{false}
use Prim.Native.Nat.{ℕ, ◌+◌, ◌≤◌}
use native.Mathlib.Omega.{arith}
use lib.IntN.{ℤ}
use Rattle.clades.specs.Clades.{Clade, tip, fork}
use Rattle.clades.specs.ByNode.{value_at}
use Rattle.clades.specs.Kinds.{Kind, offset}
use Rattle.clades.specs.Character.{up, chosen}
use Rattle.clades.specs.Passes.{least_cost}
use Rattle.clades.proofs.Clades.Sides.{Side, left, right, on, on_each}
use Rattle.clades.proofs.Clades.Nodes.{top, has, Separate, Distinct}
use Rattle.clades.proofs.Clades.Parts.{Part, whole, below, node_above}
use Rattle.clades.proofs.Clades.Downward.{downward, downward_top, downward_on, downward_outside}
use Rattle.clades.proofs.Clades.Cost.{Keeps, cost}
use Rattle.clades.proofs.Clades.Agree.{Agree, agree_on, agree_top, cost_agree, keeps_agree}
use Rattle.clades.proofs.Sets.Laws.{Laws}
use Rattle.clades.proofs.Sets.Distance.{offset-nearest}
use Rattle.clades.proofs.OneCharacter.Basic.{Own, EachProper, basic_step}
use Rattle.clades.proofs.OneCharacter.Passes.{state_from, state_to, chosen_downward}

module _ (K : Kind) (own : ℕ → K.Set) (otherwise : ℤ) where
  -- the assignment of the chosen states to the nodes of a clade, and of one state to all other nodes
  unfoldable pub fit : ℤ → Clade → ℕ → ℤ
  fit y t w = value_at otherwise (chosen K own y t) w

  -- the chosen states are values found from the top down
  pub fit_downward : (y : ℤ) (t : Clade) (w : ℕ) →
      fit y t w ≡ value_at otherwise (downward (state_from K own) (state_to K own) y t) w
  unfolding fit
  fit_downward y t w = ap (λ values. value_at otherwise values w) (chosen_downward K own y t)

  -- the top node of a clade takes the member of its set nearest to the state above
  pub fit_top : (y : ℤ) (t : Clade) → fit y t (top t) ≡ K.nearest y (up K own t)
  unfolding state_from
  fit_top y t = fit_downward y t (top t) ∙ downward_top (state_from K own) (state_to K own) y t otherwise

  -- a node outside of the clade has the other state
  pub fit-outside : (y : ℤ) (t : Clade) (w : ℕ) → has t w ≡ false → fit y t w ≡ otherwise
  fit-outside y t w h = fit_downward y t w ∙ downward_outside (state_from K own) (state_to K own) y t w otherwise h

  -- on either side of a fork the states are chosen from that of its HTU
  pub fit_on : (side : Side) (y : ℤ) (v : ℕ) (a b : Clade) → Separate v a b →
      Agree (fit y (fork v a b)) (fit (K.nearest y (up K own (fork v a b))) (on side a b)) (on side a b)
  unfolding state_to up
  fit_on side y v a b p w h = fit_downward y (fork v a b) w
      ∙ downward_on (state_from K own) (state_to K own) side y v a b p w otherwise h
      ∙ sym (fit_downward (K.nearest y (K.join (up K own a) (up K own b))) (on side a b) w)

  -- an assignment of the chosen states gives each node the member of its set nearest to the state of the node above
  pub fit-nearest : (g : ℕ → ℤ) (s : Clade) (u : ℕ) (t : Clade) (p : Part s t) → Distinct t → Agree g (fit (g u) t) t →
      g (top s) ≡ K.nearest (g (node_above u p)) (up K own s)
  unfolding node_above
  fit-nearest g s u t whole d h = agree_top g (fit (g u) t) t h ∙ fit_top (g u) t
  fit-nearest g s u t (below side v a b p) d h =
      let y = K.nearest (g u) (up K own (fork v a b)) in
      let here : g v ≡ y = unfold top in agree_top g (fit (g u) (fork v a b)) (fork v a b) h ∙ unfold top in fit_top (g u) (fork v a b) in
      fit-nearest g s v (on side a b) p (on_each Distinct side a b d.1 d.2)
      (λ w i.
      agree_on side g (fit (g u) (fork v a b)) v a b h w i
      ∙ fit_on side (g u) v a b d.0 w i
      ∙ ap (λ (z : ℤ). fit z (on side a b) w) (sym here))

module _ (K : Kind) (laws : Laws K) (own : ℕ → K.Set) (otherwise : ℤ) where
  -- the chosen states are members of the taxa's own sets
  pub fit-keeps : (y : ℤ) (t : Clade) → Distinct t → EachProper K own t → Keeps (Own K own) (fit K own otherwise y t) t
  unfolding up top
  fit-keeps y (tip v) d p = subst (λ (s : ℤ). K.In s (own v)) (sym (fit_top K own otherwise y (tip v))) (laws.nearest_in y (own v) p)
  fit-keeps y (fork v a b) d p =
      let f = fit K own otherwise in
      let s = K.nearest y (K.join (up K own a) (up K own b)) in (
        keeps_agree (Own K own) (f y (fork v a b)) (f s a) a (fit_on K own otherwise left y v a b d.0) (fit-keeps s a d.1 p.0),
        keeps_agree (Own K own) (f y (fork v a b)) (f s b) b (fit_on K own otherwise right y v a b d.0) (fit-keeps s b d.2 p.1),
      )

  -- the chosen states cost the least
  pub fit-cost : (y : ℤ) (t : Clade) → Distinct t → EachProper K own t →
      cost K.step (fit K own otherwise y t) y t ≤ least_cost K own t + offset K y (up K own t)
  unfolding up top cost least_cost
  fit-cost y (tip v) d p =
      omega (arith, ap (λ s. K.step s y) (fit_top K own otherwise y (tip v)), offset-nearest K laws y (own v))
  fit-cost y (fork v a b) d p =
      let f = fit K own otherwise y (fork v a b) in
      let s = K.nearest y (K.join (up K own a) (up K own b)) in
      let here : f v ≡ s = fit_top K own otherwise y (fork v a b) in
      basic_step K laws own y v a b f p here
      (omega (
        arith,
        cost_agree K.step f (fit K own otherwise s a) (f v) a (fit_on K own otherwise left y v a b d.0),
        subst (λ (z : ℤ). cost K.step (fit K own otherwise s a) z a ≤ least_cost K own a + offset K z (up K own a)) (sym here)
            (fit-cost s a d.1 p.0),
      ))
      (omega (
        arith,
        cost_agree K.step f (fit K own otherwise s b) (f v) b (fit_on K own otherwise right y v a b d.0),
        subst (λ (z : ℤ). cost K.step (fit K own otherwise s b) z b ≤ least_cost K own b + offset K z (up K own b)) (sym here)
            (fit-cost s b d.2 p.1),
      ))
