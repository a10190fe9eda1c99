-- The fit of one character of any kind by node number, as a program finds it: the set of a node from those of its descendants, its chosen
-- state and its outside from those of its ancestor, its range from the sets of its descendants, or its own set, and its outside.
use Rattle.std.proofs.Common.{◌≡◌, ℕ, ◌+◌, ◌-◌, ◌*◌, ◌≤◌, false, List, [], ◌∷◌, ℤ, sym, ap, ◌∙◌, append-nil, arith}
use mathlib.Core.List.{flat_map}
use Rattle.tree_form.specs.Ancestors.{ancestor}
use Rattle.tree_form.specs.Nodes.{other_nodes}
use Rattle.tree_form.specs.Facts.{Grown}
use Rattle.clades.specs.Clades.{Clade}
use Rattle.clades.specs.ByNode.{value_at}
use Rattle.clades.specs.Kinds.{Kind, among}
use Rattle.clades.specs.Character.{up, state_of, range_of}
use Rattle.clades.specs.Passes.{least_cost, outsides}
use Rattle.clades.proofs.Clades.Sides.{Side, on, other, on_map}
use Rattle.clades.proofs.Clades.Nodes.{top, has}
use Rattle.clades.proofs.Clades.Parts.{handed, node_above}
use Rattle.clades.proofs.Clades.Downward.{downward}
use Rattle.clades.proofs.OneCharacter.Passes.{state_from, state_to, range_from, outside_to, outsides_downward}
use Rattle.clades.proofs.OneCharacter.Chosen.{fit_downward}
use Rattle.clades.proofs.OneCharacter.LookedUp as looked
use Rattle.fit_form.specs.Clades.{clades_below}
use Rattle.fit_form.proofs.Clades.Built.{Htu, top_clade_at}
use Rattle.fit_form.proofs.Clades.Taxa.{made_off, above-ancestor}
use Rattle.fit_form.proofs.Clades.Hanging.{clade_of, InWhole, clade_from, clade_from-taxon}
use Rattle.fit_form.proofs.Clades.Hanging.{clade_from-htu, part_of, htu_second, value-part}
use Rattle.fit_form.proofs.Clades.Hanging.{htu-part, hands, first-handed}

module _ (n : ℕ) (tree : List ℕ) (grown : Grown n n tree) (K : Kind) (own : ℕ → K.Set) where
  -- the clade below row 1
  abbrev clade : Clade
  clade = (clade_of n tree grown).clade

  -- row 1 is not in it
  off : has clade 1 ≡ false
  off = made_off n tree clade (omega (arith, grown.at_least_two)) (clade_of n tree grown).is_made

  -- the set of a node from the tips up
  abbrev set_at : ℕ → K.Set
  set_at v = up K own (clade_from n tree grown v)

  -- the least cost of the clade of a node
  abbrev cost_at : ℕ → ℕ
  cost_at v = least_cost K own (clade_from n tree grown v)

  -- the chosen state of a node
  abbrev state_at : ℕ → ℤ
  state_at v = state_of K own (clades_below tree n) v

  -- the range of a node
  abbrev range_at : ℕ → K.Set
  range_at v = range_of K own (clades_below tree n) v

  -- the outside of a node: the set of all nodes that are not in its clade
  abbrev outside_at : ℕ → K.Set
  outside_at v = value_at (own 1) (flat_map (outsides K own (own 1)) (clades_below tree n)) v

  -- the chosen states are those of the one clade
  pub state-one : (v : ℕ) → state_at v ≡ state_of K own (clade ∷ []) v
  state-one v = ap (λ ts. state_of K own ts v) (clade_of n tree grown).below

  -- the ranges are those of the one clade
  pub range-one : (v : ℕ) → range_at v ≡ range_of K own (clade ∷ []) v
  range-one v = ap (λ ts. range_of K own ts v) (clade_of n tree grown).below

  -- a taxon's set is its own
  pub set-taxon : (v : ℕ) → 1 ≤ v → v ≤ n → set_at v ≡ own v
  unfolding up
  set-taxon v p l = ap (up K own) (clade_from-taxon n tree grown v p l)

  -- an HTU's set joins those of its two descendants
  pub set-htu : (u a b : ℕ) → Htu n tree u a b → set_at u ≡ K.join (set_at a) (set_at b)
  unfolding up
  set-htu u a b htu = ap (up K own) (clade_from-htu n tree grown u a b htu)

  -- the least cost of a taxon's clade is 0
  pub cost-taxon : (v : ℕ) → 1 ≤ v → v ≤ n → cost_at v ≡ 0
  unfolding least_cost
  cost-taxon v p l = ap (least_cost K own) (clade_from-taxon n tree grown v p l)

  -- the least cost of an HTU's clade: how far the sets of its descendants lie from each other, and the least costs of their clades
  pub cost-htu : (u a b : ℕ) → Htu n tree u a b → cost_at u ≡ K.gap (set_at a) (set_at b) + (cost_at a + cost_at b)
  unfolding least_cost
  cost-htu u a b htu = ap (least_cost K own) (clade_from-htu n tree grown u a b htu)

  -- row 1 takes the lowest state of its range
  pub state_row1 : state_at 1 ≡ K.lowest (among K (own 1) (up K own clade))
  state_row1 = state-one 1 ∙ looked.state_row1 K own clade off

  -- the range of row 1: the members of its own set that are nearest to the set of the clade below it
  pub range_row1 : range_at 1 ≡ among K (own 1) (up K own clade)
  range_row1 = range-one 1 ∙ looked.range_row1 K own clade off

  -- the chosen state of a node is the member of its set nearest to what is handed to it
  pub state-handed : (v : ℕ) (p : InWhole n tree grown (clade_from n tree grown v)) →
      state_at v ≡ K.nearest (handed (state_to K own) (K.lowest (among K (own 1) (up K own clade))) p) (set_at v)
  unfolding state_from
  state-handed v p =
      let y = K.lowest (among K (own 1) (up K own clade)) in
      state-one v
      ∙ looked.state-fit K own clade v
      ∙ fit_downward K own y y clade v
      ∙ value-part n tree grown (state_from K own) (state_to K own) y y v p

  module _ (v : ℕ) (second : 2 ≤ v) (last : v ≤ 2 * n - 2) where
    -- the clade of a node, as a part of the whole
    part : InWhole n tree grown (clade_from n tree grown v)
    part = part_of n tree grown v second last

    -- its top node
    at_top : top (clade_from n tree grown v) ≡ v
    at_top = top_clade_at tree (other_nodes n) (2 * n) v

    -- every node below row 1 takes the member of its set nearest to the state chosen for its ancestor
    pub state_node : state_at v ≡ K.nearest (state_at (ancestor tree v)) (set_at v)
    state_node = state-one v
        ∙ ap (state_of K own (clade ∷ [])) (sym at_top)
        ∙ looked.state-nearest K own clade off (clade_of n tree grown).is_distinct (clade_from n tree grown v) part
        ∙ ap (λ u. K.nearest (state_of K own (clade ∷ []) u) (set_at v)) (sym above)
        ∙ ap (λ (s : ℤ). K.nearest s (set_at v)) (sym (state-one (ancestor tree v)))
      where
        above : ancestor tree v ≡ node_above 1 part
        above = ap (ancestor tree) (sym at_top)
            ∙ above-ancestor n tree (clade_from n tree grown v) 1 clade part (clade_of n tree grown).is_made (clade_of n tree grown).from_row1

    -- the range of a node, from its outside and its clade
    range-from : range_at v ≡ range_from K own (handed (outside_to K own) (own 1) part) (clade_from n tree grown v)
    range-from = range-one v
        ∙ ap (range_of K own (clade ∷ [])) (sym at_top)
        ∙ looked.range-part K own clade (clade_of n tree grown).is_distinct (clade_from n tree grown v) part

  -- the outsides are those of the one clade, found from the top down
  outsides-one : flat_map (outsides K own (own 1)) (clade ∷ []) ≡ downward (λ (x : K.Set) (t : Clade). x) (outside_to K own) (own 1) clade
  outsides-one = unfold flat_map in append-nil (outsides K own (own 1) clade) ∙ outsides_downward K own (own 1) clade

  -- the outside of a node is what is handed to it
  pub outside-part : (v : ℕ) (p : InWhole n tree grown (clade_from n tree grown v)) → outside_at v ≡ handed (outside_to K own) (own 1) p
  outside-part v p = ap (λ ts. value_at (own 1) (flat_map (outsides K own (own 1)) ts) v) (clade_of n tree grown).below
      ∙ ap (λ values. value_at (own 1) values v) outsides-one
      ∙ value-part n tree grown (λ (x : K.Set) (t : Clade). x) (outside_to K own) (own 1) (own 1) v p

  -- the outside of the node that hangs from row 1 is row 1's own set
  pub outside-first : (v : ℕ) → 2 ≤ v → v ≤ 2 * n - 2 → ancestor tree v ≡ 1 → outside_at v ≡ own 1
  outside-first v p h e =
      let q = first-handed n tree grown (outside_to K own) (own 1) v p h e in
      outside-part v q.0 ∙ q.1

  -- the outside of any other node is the join of its sister's set and the outside of its ancestor
  pub outside_below : (side : Side) (u a b : ℕ) → Htu n tree u a b →
      outside_at (on side a b) ≡ K.join (set_at (on (other side) a b)) (outside_at u)
  unfolding outside_to
  outside_below side u a b htu =
      let p = htu-part n tree grown u a b htu in
      let q = hands n tree grown u a b htu (outside_to K own) (own 1) side p in
      outside-part (on side a b) q.0
      ∙ q.1
      ∙ ap (λ s. K.join s (handed (outside_to K own) (own 1) p))
      (ap (up K own) (sym (on_map (clade_from n tree grown) (other side) a b)))
      ∙ ap (K.join (set_at (on (other side) a b))) (sym (outside-part u p))

  -- the range of an HTU is the middle of the sets of its two descendants and its outside
  pub range-htu : (u a b : ℕ) → Htu n tree u a b → range_at u ≡ K.middle (set_at a) (set_at b) (outside_at u)
  unfolding range_from
  range-htu u a b htu =
      let second = htu_second n tree grown u a b htu in
      range-from u second htu.last
      ∙ ap (range_from K own (handed (outside_to K own) (own 1) (part u second htu.last))) (clade_from-htu n tree grown u a b htu)
      ∙ ap (K.middle (set_at a) (set_at b)) (sym (outside-part u (part u second htu.last)))

  -- the range of a taxon has the members of its own set that are nearest to its outside
  pub range-taxon : (v : ℕ) → 2 ≤ v → v ≤ n → range_at v ≡ among K (own v) (outside_at v)
  unfolding range_from
  range-taxon v second l =
      let last : v ≤ 2 * n - 2 = omega (arith, grown.at_least_two) in
      range-from v second last
      ∙ ap (range_from K own (handed (outside_to K own) (own 1) (part v second last))) (clade_from-taxon n tree grown v (omega arith) l)
      ∙ ap (among K (own v)) (sym (outside-part v (part v second last)))
