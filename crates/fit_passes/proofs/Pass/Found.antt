-- What both passes have found of a node gives its states.
use Rattle.std.proofs.Common.{Option, ◌≡◌, ℕ, ◌-◌, ◌*◌, ◌<◌, ◌≤◌, true, List, sym, refl, ap, ◌∙◌, ap₂, arith}
use Rattle.matrix_form.specs.Shape.{last_node}
use Rattle.tree_form.specs.Within.{branching_within}
use Rattle.fit_form.specs.Sets.{middle}
use Rattle.fit_form.specs.Assignments.{character}
use Rattle.fit_form.specs.Fit.{range, states_in}
use Rattle.fit_sets.specs.Steps.{nearest_members}
use Rattle.tree_walk.specs.Walks.{Belows, below_at}
use Rattle.fit_passes.specs.Steps.{own_in, OwnSets, PartsAre, part_at, set_of, SeenIs, range_from, states_with, states_from}
use Rattle.matrix_form.specs.declared.spans.Span.{Span}
use Rattle.tree_walk.specs.declared.walk.Below.{Below}
use Rattle.fit_passes.specs.declared.characters.Part.{Part}
use Rattle.fit_passes.specs.declared.characters.Seen.{Seen}
use Rattle.fit_form.proofs.Cases.{either}
use Rattle.clades.proofs.Clades.Sides.{left, right}
use Rattle.fit_form.proofs.Clades.Built.{htu_two, htu_descends}
use Rattle.fit_passes.proofs.Matrix.ByNode.{range-taxon, range-htu}
use Rattle.fit_passes.proofs.Pass.Standing.{taxa-most, grown_of, last_several, two_kept}

module _ (n : ℕ) (tree : List ℕ) (rows : List (List Span)) (j : ℕ) (own : List (Option Span)) (own_are : OwnSets rows n j own)
    (branches : branching_within n tree ≡ true) (below : List Below) (belows : Belows n tree below)
    (parts : List Part) (parts_are : PartsAre tree n (character rows j) parts)
    (v : ℕ) (first : 1 ≤ v) (high : v ≤ last_node n) (seen : Seen) (seen_is : SeenIs tree rows n j v seen) where
  -- the taxa's own sets in the character
  abbrev sets : ℕ → Span
  sets = character rows j

  -- a taxon's range comes from its own set and its outside
  taxon_found : v ≤ n → nearest_members seen.outside (sets v) ≡ range tree rows n v j
  taxon_found l = either 2 v
      (λ second.
      ap (λ (a : Span). nearest_members a (sets v)) (seen_is.outside second)
      ∙ sym (range-taxon n tree (grown_of n tree branches (omega (arith, second, l))) rows j own_are.proper v second l))
      (λ few. sym (seen_is.row1 (omega arith)))

  -- an HTU's range comes from the sets of its descendants and its outside
  htu_found : n < v → 2 ≤ n → (a b : Part) → a ≡ part_at parts (below_at below v).first → b ≡ part_at parts (below_at below v).second
      → middle a.set b.set seen.outside ≡ range tree rows n v j
  htu_found l two a b ea eb =
      let grown = grown_of n tree branches two in
      let end = last_several n two in
      let last : v ≤ 2 * n - 2 = omega arith in
      let few = taxa-most n tree branches in
      let below-v = htu_two n tree grown v l last in
      let htu = below-v.2 in
      let kept = two_kept n tree below belows v below-v.0 below-v.1 htu (omega arith) in
      let da = htu_descends n tree grown left v below-v.0 below-v.1 htu in
      let db = htu_descends n tree grown right v below-v.0 below-v.1 htu in
      let sa : a.set ≡ set_of tree n sets below-v.0 =
      ap (λ (p : Part). p.set)
      (ea ∙ ap (λ (k : Below). part_at parts k.first) kept ∙ parts_are below-v.0 (omega (arith, da.second)) (omega (arith, da.last))) in
      let sb : b.set ≡ set_of tree n sets below-v.1 =
      ap (λ (p : Part). p.set)
      (eb ∙ ap (λ (k : Below). part_at parts k.second) kept ∙ parts_are below-v.1 (omega (arith, db.second)) (omega (arith, db.last))) in
      rw (sa, sb, seen_is.outside (omega arith)) (sym (range-htu n tree grown rows j v below-v.0 below-v.1 htu))

  -- the range of every node
  range_found : range_from (own_in own v) (part_at parts (below_at below v).first).set (part_at parts (below_at below v).second).set
      seen.outside
      ≡ range tree rows n v j
  unfolding last_node
  range_found =
      either v n
      (λ l. rw (own_are.are v first l) (taxon_found l))
      (λ l.
      let few = taxa-most n tree branches in
      rw (own_are.none v l (omega arith)) (htu_found l (omega (arith, own_are.taxon)) _ _ refl refl))

  -- the states of every node
  pub states_found : states_from (own_in own v) (part_at parts (below_at below v).first) (part_at parts (below_at below v).second) seen
      ≡ states_in tree rows n v j
  unfolding states_in
  states_found = ap₂ states_with range_found seen_is.state
