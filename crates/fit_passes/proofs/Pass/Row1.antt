-- Row 1, with which the pass down begins: its range is found from the set of the clade below it, and its state is the lowest of its range.
use Rattle.std.proofs.Common.{Option, ◌≡◌, ℕ, true, max, List, sym, refl, ap, ◌∙◌, arith}
use mathlib.Core.Logic.{by_cases}
use mathlib.Core.List.{flat_map}
use native.Mathlib.Decide.{dec_le}
use Rattle.lists.specs.Numbers.{numbers}
use Rattle.lists.specs.Filters.{keep}
use Rattle.matrix_form.specs.Shape.{last_node}
use Rattle.matrix_form.specs.declared.spans.Span.{Span}
use Rattle.tree_form.specs.Ancestors.{descendants}
use Rattle.tree_form.specs.Nodes.{other_nodes}
use Rattle.tree_form.specs.Within.{branching_within}
use Rattle.tree_walk.specs.Walks.{Belows, below_at}
use Rattle.tree_walk.specs.declared.walk.Below.{Below}
use Rattle.clades.specs.ByNode.{value_at}
use Rattle.clades.specs.Character.{state_of, range_of, row1_range}
use Rattle.fit_form.specs.Clades.{clades_below}
use Rattle.fit_form.specs.Assignments.{character}
use Rattle.fit_form.specs.Fit.{chosen_state, range}
use Rattle.fit_form.proofs.Clades.Hanging.{clade_of}
use Rattle.fit_form.proofs.Sets.Near.{among-near, among_self}
use Rattle.fit_sets.specs.Steps.{nearest_members}
use Rattle.fit_passes.specs.Steps.{OwnSets, PartsAre, part_at, row1_seen, SeenIs}
use Rattle.fit_passes.specs.declared.characters.Part.{Part}
use Rattle.fit_passes.proofs.Matrix.ByNode.{range_row1, state_row1}
use Rattle.fit_passes.proofs.Pass.Standing.{grown_of, last_several, one_kept, none_kept, root-within, taxon-part}

-- of one taxon row 1 has the states of its own set
alone-range : (tree : List ℕ) (rows : List (List Span)) (j : ℕ) → range tree rows 1 1 j ≡ character rows j 1
unfolding range range_of row1_range clades_below other_nodes numbers descendants keep flat_map value_at
alone-range tree rows j = refl

-- and takes the lowest
alone-state : (tree : List ℕ) (rows : List (List Span)) (j : ℕ) → chosen_state tree rows 1 1 j ≡ (range tree rows 1 1 j).low
unfolding chosen_state state_of range range_of row1_range clades_below other_nodes numbers descendants keep flat_map value_at
alone-state tree rows j = refl

module _ (n : ℕ) (tree : List ℕ) (rows : List (List Span)) (j : ℕ) (own : List (Option Span)) (own_are : OwnSets rows n j own)
    (branches : branching_within n tree ≡ true) (below : List Below) (belows : Belows n tree below)
    (parts : List Part) (parts_are : PartsAre tree n (character rows j) parts) where
  -- the taxa's own sets in the character
  abbrev sets : ℕ → Span
  sets = character rows j

  -- the set of the clade below row 1, and of one taxon, below which there is none, its own
  abbrev around : Span
  around = (part_at parts (max (below_at below 1).first 1)).set

  -- of row 1 its own set is kept
  own_kept : (part_at parts 1).set ≡ sets 1
  unfolding last_node
  own_kept =
      ap (λ (p : Part). p.set)
      (parts_are 1 (omega arith) (omega arith) ∙ taxon-part n tree branches rows j 1 (omega arith) own_are.taxon)

  -- the range of row 1 is found from it
  range_right : range tree rows n 1 j ≡ nearest_members around (sets 1)
  range_right =
      by_cases (dec_le 2 n)
      (λ two.
      let grown = grown_of n tree branches two in
      let top = (clade_of n tree grown).root in
      let place = root-within n tree grown in
      let first = one_kept n tree below belows top (clade_of n tree grown).of_row1 in
      let at : max (below_at below 1).first 1 ≡ top = omega (arith, place.0) in
      let part = parts_are top (omega (arith, place.0)) (omega (arith, place.1, last_several n two)) in
      range_row1 n tree grown rows j own_are.proper
      ∙ ap (λ (a : Span). nearest_members a (sets 1)) (sym (ap (λ (p : Part). p.set) (ap (part_at parts) at ∙ part))))
      (λ few.
      let one : n ≡ 1 = omega (arith, own_are.taxon) in
      let first = none_kept n tree below belows one in
      let at : max (below_at below 1).first 1 ≡ 1 = omega arith in
      let proper = own_are.proper 1 (omega arith) own_are.taxon in
      rw one (alone-range tree rows j)
      ∙ sym (among_self (sets 1) proper)
      ∙ among-near (sets 1) (sets 1) proper proper
      ∙ ap (λ (a : Span). nearest_members a (sets 1)) (sym (ap (λ (k : ℕ). (part_at parts k).set) at ∙ own_kept)))

  -- it takes the lowest state of its range
  state_right : chosen_state tree rows n 1 j ≡ (range tree rows n 1 j).low
  state_right =
      by_cases (dec_le 2 n)
      (λ two. state_row1 n tree (grown_of n tree branches two) rows j)
      (λ few. let one : n ≡ 1 = omega (arith, own_are.taxon) in rw one (alone-state tree rows j))

  -- what is kept of row 1 is right
  pub row1_right : SeenIs tree rows n j 1 (row1_seen (part_at parts 1).set around)
  row1_right = record {
    state = ap (λ (a : Span). (nearest_members around a).low) own_kept ∙ ap (λ (a : Span). a.low) (sym range_right) ∙ sym state_right;
    outside = λ second. absurd (omega arith);
    row1 = λ e. range_right;
  }
