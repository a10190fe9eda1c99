-- The chosen states and the ranges of row 1 and of the nodes of the one clade below it, as they are looked up by node number.
use mathlib.Core.Path.{◌≡◌, sym, ◌∙◌, ap}
use mathlib.Core.List.{[], ◌∷◌, flat_map, append-nil}
use mathlib.Core.Bool.{false}
use Prim.Native.Nat.{ℕ}
use lib.IntN.{ℤ}
use Rattle.clades.specs.Clades.{Clade}
use Rattle.clades.specs.ByNode.{value_at}
use Rattle.clades.specs.Kinds.{Kind, among}
use Rattle.clades.specs.Character.{up, chosen, ranges, row1_range, state_of, range_of}
use Rattle.clades.proofs.Clades.Nodes.{top, has, Distinct}
use Rattle.clades.proofs.Clades.Parts.{Part, handed, node_above}
use Rattle.clades.proofs.Clades.Downward.{downward, downward_part, downward_outside}
use Rattle.clades.proofs.OneCharacter.Passes.{range_from, outside_to, ranges_downward}
use Rattle.clades.proofs.OneCharacter.Chosen.{fit, fit-outside, fit-nearest}

module _ (K : Kind) (own : ℕ → K.Set) (t : Clade) where
  -- the range of row 1: the members of its own set that are nearest to the set of the clade
  abbrev pub first_range : K.Set
  first_range = among K (own 1) (up K own t)

  -- the chosen state of row 1
  abbrev pub first_state : ℤ
  first_state = K.lowest first_range

  -- the chosen states are those that follow from row 1's
  pub state-fit : (v : ℕ) → state_of K own (t ∷ []) v ≡ fit K own first_state first_state t v
  unfolding state_of row1_range fit
  state-fit v = unfold flat_map in rw (append-nil (chosen K own first_state t))

  -- the ranges are values found from the top down
  range_downward : (v : ℕ) → range_of K own (t ∷ []) v ≡ value_at first_range (downward (range_from K own) (outside_to K own) (own 1) t) v
  unfolding range_of row1_range
  range_downward v = unfold flat_map in rw (append-nil (ranges K own (own 1) t), ranges_downward K own (own 1) t)

  module _ (off : has t 1 ≡ false) where
    -- the chosen state of row 1, looked up, is the lowest of its range
    pub state_row1 : state_of K own (t ∷ []) 1 ≡ first_state
    state_row1 = state-fit 1 ∙ fit-outside K own first_state first_state t 1 off

    -- the range of row 1, looked up
    pub range_row1 : range_of K own (t ∷ []) 1 ≡ first_range
    range_row1 = range_downward 1 ∙ downward_outside (range_from K own) (outside_to K own) (own 1) t 1 first_range off

    -- every other node takes the member of its set nearest to the state of the node above it
    pub state-nearest : Distinct t → (s : Clade) (c : Part s t) →
        state_of K own (t ∷ []) (top s) ≡ K.nearest (state_of K own (t ∷ []) (node_above 1 c)) (up K own s)
    state-nearest d s c = fit-nearest K own first_state (state_of K own (t ∷ [])) s 1 t c d
        (λ w h. state-fit w ∙ ap (λ (y : ℤ). fit K own first_state y t w) (sym state_row1))

  -- the range of the top node of a part
  pub range-part : Distinct t → (s : Clade) (c : Part s t) →
      range_of K own (t ∷ []) (top s) ≡ range_from K own (handed (outside_to K own) (own 1) c) s
  range-part d s c = range_downward (top s) ∙ downward_part (range_from K own) (outside_to K own) s (own 1) t c d first_range
