-- The fit of one ordered character by node number: the set of a node from those of its descendants, its chosen state and its outside from
-- those of its ancestor, its range from the sets of its descendants, or its own set, and its outside.
use Rattle.std.proofs.Common.{◌≡◌, ℕ, ◌+◌, ◌-◌, ◌*◌, ◌≤◌, List, ℤ, sym, ap, ◌∙◌, arith}
use Rattle.tree_form.specs.Ancestors.{ancestor}
use Rattle.tree_form.specs.Facts.{Grown}
use Rattle.clades.specs.Character.{up}
use Rattle.clades.proofs.Clades.Sides.{Side, on, other}
use Rattle.clades.proofs.OneCharacter.Basic.{EachProper, up_proper_lem}
use Rattle.clades.proofs.OneCharacter.Outside.{handed_proper}
use Rattle.fit_form.specs.Sets.{Nonempty, join, gap, nearest_member, middle, ordered}
use Rattle.matrix_form.specs.declared.spans.Span.{Span}
use Rattle.fit_form.specs.Assignments.{character}
use Rattle.fit_form.specs.Fit.{chosen_state, range}
use Rattle.fit_sets.specs.Steps.{nearest_members}
use Rattle.fit_passes.specs.Steps.{set_of, cost_of, outside_of}
use Rattle.fit_form.proofs.Sets.IsKind.{ordered_laws}
use Rattle.fit_form.proofs.Sets.Near.{among-near}
use Rattle.fit_form.proofs.Clades.Built.{Htu}
use Rattle.fit_form.proofs.Clades.Taxa.{each_of}
use Rattle.fit_form.proofs.Clades.Hanging.{clade_of, clade_from, part_of}
use Rattle.fit_form.proofs.Matrix.AnyKind as any

module _ (n : ℕ) (tree : List ℕ) (grown : Grown n n tree) (rows : List (List Span)) (j : ℕ) where
  -- the taxa's own sets in character j
  abbrev own : ℕ → Span
  own = character rows j

  -- the chosen state of a node in character j
  abbrev state_at : ℕ → ℤ
  state_at v = chosen_state tree rows n v j

  -- the set of a node from the tips up
  abbrev set_at : ℕ → Span
  set_at v = set_of tree n own v

  -- the outside of a node
  abbrev outside_at : ℕ → Span
  outside_at v = outside_of tree n own v

  -- a taxon's set is its own
  pub set-taxon : (v : ℕ) → 1 ≤ v → v ≤ n → set_at v ≡ own v
  unfolding set_of
  set-taxon = any.set-taxon n tree grown ordered own

  -- an HTU's set joins those of its two descendants
  pub set-htu : (u a b : ℕ) → Htu n tree u a b → set_at u ≡ join (set_at a) (set_at b)
  unfolding set_of
  set-htu = any.set-htu n tree grown ordered own

  -- the least cost of a taxon's clade is 0
  pub cost-taxon : (v : ℕ) → 1 ≤ v → v ≤ n → cost_of tree n own v ≡ 0
  unfolding cost_of
  cost-taxon = any.cost-taxon n tree grown ordered own

  -- the least cost of an HTU's clade: how far the sets of its descendants lie from each other, and the least costs of their clades
  pub cost-htu : (u a b : ℕ) → Htu n tree u a b →
      cost_of tree n own u ≡ gap (set_at a) (set_at b) + (cost_of tree n own a + cost_of tree n own b)
  unfolding cost_of set_of
  cost-htu = any.cost-htu n tree grown ordered own

  -- each node below row 1 takes the member of its set nearest to the state chosen for its ancestor
  pub state_node : (v : ℕ) → 2 ≤ v → v ≤ 2 * n - 2 → state_at v ≡ nearest_member (state_at (ancestor tree v)) (set_at v)
  unfolding chosen_state set_of
  state_node = any.state_node n tree grown ordered own

  -- the outside of the node that hangs from row 1 is row 1's own set
  pub outside-first : (v : ℕ) → 2 ≤ v → v ≤ 2 * n - 2 → ancestor tree v ≡ 1 → outside_at v ≡ own 1
  unfolding outside_of
  outside-first = any.outside-first n tree grown ordered own

  -- the outside of any other node is the join of its sister's set and the outside of its ancestor
  pub outside_below : (side : Side) (u a b : ℕ) → Htu n tree u a b →
      outside_at (on side a b) ≡ join (set_at (on (other side) a b)) (outside_at u)
  unfolding outside_of set_of
  outside_below = any.outside_below n tree grown ordered own

  -- the range of an HTU is the middle of the sets of its two descendants and its outside
  pub range-htu : (u a b : ℕ) → Htu n tree u a b → range tree rows n u j ≡ middle (set_at a) (set_at b) (outside_at u)
  unfolding range set_of outside_of
  range-htu = any.range-htu n tree grown ordered own

  -- row 1 takes the lowest state of its range
  pub state_row1 : state_at 1 ≡ (range tree rows n 1 j).low
  unfolding chosen_state range
  state_row1 = any.state_row1 n tree grown ordered own ∙ ap (λ (a : Span). a.low) (sym (any.range_row1 n tree grown ordered own))

  -- where each taxon has a state
  module _ (proper : (v : ℕ) → 1 ≤ v → v ≤ n → Nonempty (own v)) where
    -- row 1 has one
    row1_proper : Nonempty (own 1)
    row1_proper = proper 1 (omega arith) (omega (arith, grown.at_least_two))

    -- each taxon below it has one
    each-proper : EachProper ordered own (clade_of n tree grown).clade
    each-proper = each_of n tree (λ v. ordered.Proper (own v)) (clade_of n tree grown).clade (clade_of n tree grown).is_made
        (λ v p q. proper v (omega arith) q)

    -- the set of the clade below row 1 has a member
    below_row1 : Nonempty (up ordered own (clade_of n tree grown).clade)
    below_row1 = up_proper_lem ordered ordered_laws own (clade_of n tree grown).clade each-proper

    -- the outside of a node has a member
    outside-proper : (v : ℕ) → 2 ≤ v → v ≤ 2 * n - 2 → Nonempty (outside_at v)
    unfolding outside_of
    outside-proper v p h =
        let part = part_of n tree grown v p h in
        rw (any.outside-part n tree grown ordered own v part)
        (handed_proper ordered ordered_laws own (clade_from n tree grown v) (own 1) row1_proper (clade_of n tree grown).clade part
        each-proper)

    -- the range of a taxon below row 1 has the members of its own set that are nearest to its outside
    pub range-taxon : (v : ℕ) → 2 ≤ v → v ≤ n → range tree rows n v j ≡ nearest_members (outside_at v) (own v)
    range-taxon v second l =
        unfold range outside_of in any.range-taxon n tree grown ordered own v second l
        ∙ among-near (own v) (outside_at v) (proper v (omega arith) l) (outside-proper v second (omega (arith, grown.at_least_two)))

    -- that of row 1 has the members of its own set that are nearest to the set of the clade below it
    pub range_row1 : range tree rows n 1 j ≡ nearest_members (set_at (clade_of n tree grown).root) (own 1)
    unfolding range set_of
    range_row1 =
        any.range_row1 n tree grown ordered own
        ∙ among-near (own 1) (up ordered own (clade_of n tree grown).clade) row1_proper below_row1
        ∙ ap (λ t. nearest_members (up ordered own t) (own 1)) (sym (clade_of n tree grown).from_root)
