-- The chosen states, the ranges and the outsides of one character are values found from the top of a clade down.
use mathlib.Core.Path.{◌≡◌, refl, ap₂}
use mathlib.Core.List.{◌∷◌, ◌++◌}
use Prim.Native.Nat.{ℕ}
use lib.IntN.{ℤ}
use Rattle.clades.specs.Clades.{Clade, tip, fork}
use Rattle.clades.specs.Kinds.{Kind, among}
use Rattle.clades.specs.Character.{up, chosen, ranges}
use Rattle.clades.specs.Passes.{outsides}
use Rattle.clades.proofs.Clades.Sides.{Side, on, other}
use Rattle.clades.proofs.Clades.Downward.{downward}

module _ (K : Kind) (own : ℕ → K.Set) where
  -- a node's chosen state, from the state above it and its clade
  unfoldable pub state_from : ℤ → Clade → ℤ
  state_from y t = K.nearest y (up K own t)

  -- an HTU hands its chosen state on to either side
  unfoldable pub state_to : Side → ℤ → Clade → Clade → ℤ
  state_to side y a b = K.nearest y (K.join (up K own a) (up K own b))

  -- the chosen states are values found so
  pub chosen_downward : (y : ℤ) (t : Clade) → chosen K own y t ≡ downward state_from state_to y t
  unfolding chosen downward state_from state_to up
  chosen_downward y (tip v) = refl
  chosen_downward y (fork v a b) =
      let s = K.nearest y (K.join (up K own a) (up K own b)) in
      ap₂ (λ l r. (v, s) ∷ (l ++ r)) (chosen_downward s a) (chosen_downward s b)

  -- a node's range, from the set outside and its clade
  unfoldable pub range_from : K.Set → Clade → K.Set
  range_from outside (tip v) = among K (own v) outside
  range_from outside (fork v a b) = K.middle (up K own a) (up K own b) outside

  -- an HTU hands on to either side the join of the other side's set and the set outside
  unfoldable pub outside_to : Side → K.Set → Clade → Clade → K.Set
  outside_to side outside a b = K.join (up K own (on (other side) a b)) outside

  -- the ranges are values found so
  pub ranges_downward : (outside : K.Set) (t : Clade) → ranges K own outside t ≡ downward range_from outside_to outside t
  unfolding ranges downward range_from outside_to
  ranges_downward outside (tip v) = refl
  ranges_downward outside (fork v a b) =
      ap₂ (λ l r. (v, K.middle (up K own a) (up K own b) outside) ∷ (l ++ r)) (ranges_downward (K.join (up K own b) outside) a)
      (ranges_downward (K.join (up K own a) outside) b)

  -- the outsides are values found so
  pub outsides_downward : (outside : K.Set) (t : Clade) →
      outsides K own outside t ≡ downward (λ (x : K.Set) (t : Clade). x) outside_to outside t
  unfolding outsides downward outside_to
  outsides_downward outside (tip v) = refl
  outsides_downward outside (fork v a b) =
      ap₂ (λ l r. (v, outside) ∷ (l ++ r)) (outsides_downward (K.join (up K own b) outside) a)
      (outsides_downward (K.join (up K own a) outside) b)
