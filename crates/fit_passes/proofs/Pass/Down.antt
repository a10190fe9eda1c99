-- The pass down: along the walk, so that what is kept of a node's ancestor is right before the node comes.
use Rattle.std.proofs.Common.{Option, Some, ◌≡◌, ℕ, ◌+◌, ◌-◌, ◌*◌, ◌<◌, ◌≤◌, true, ◌≢◌, List, length, set, ℤ, pos, sym, ap, ◌∙◌, subst, ap₂, arith, get_or-set_other, get_or-set_same, max}
use mathlib.Core.Logic.{by_cases}
use native.Mathlib.Decide.{ℕ_discrete}
use Rattle.matrix_form.specs.Shape.{last_node}
use Rattle.tree_form.specs.Ancestors.{ancestor}
use Rattle.branching.specs.Index.{TreeIndex}
use Rattle.tree_form.specs.Facts.{Grown}
use Rattle.tree_form.specs.Within.{branching_within}
use Rattle.tree_walk.specs.Walks.{node_at, Belows, below_at}
use Rattle.tree_walk.proofs.Walks.{WalkOf}
use Rattle.fit_form.specs.Sets.{join, nearest_member}
use Rattle.fit_form.specs.Assignments.{character}
use Rattle.fit_form.specs.Fit.{chosen_state}
use Rattle.fit_passes.specs.Plans.{sister_in}
use Rattle.fit_passes.specs.Steps.{own_in, OwnSets, PartsAre, part_at, set_of, outside_of, row1_seen, outside_from, seen_at, SeenIs}
use Rattle.matrix_form.specs.declared.spans.Span.{Span}
use Rattle.tree_walk.specs.declared.walk.Below.{Below}
use Rattle.fit_passes.specs.declared.characters.Part.{Part}
use Rattle.fit_passes.specs.declared.characters.Seen.{Seen}
use Rattle.fit_form.proofs.Cases.{either}
use Rattle.clades.proofs.Clades.Sides.{on, other}
use Rattle.fit_form.proofs.Clades.Built.{Htu, htu_descends}
use Rattle.fit_form.proofs.Clades.Hanging.{Hangs, from_row1, from_htu, hangs}
use Rattle.fit_passes.proofs.Matrix.ByNode.{state_node, outside-first, outside_below}
use Rattle.fit_passes.proofs.Pass.Standing.{taxa-most, grown_of, last_several, two_kept, sister_on}
use Rattle.fit_passes.proofs.Pass.Row1.{row1_right}

-- what stands where nothing is kept
abbrev blank : Seen
blank = record { state = pos 0; outside = record { low = pos 0; high = pos 0 } }

-- of each node that stands before place i of the walk, what is kept is right
abbrev pub DownTo : List ℕ → List (List Span) → ℕ → ℕ → List ℕ → List Seen → ℕ → Type 0
DownTo tree rows n j nodes seen i =
    (k : ℕ) → k < i → k < last_node n → SeenIs tree rows n j (node_at nodes k) (seen_at seen (node_at nodes k))

module _ (n : ℕ) (tree : List ℕ) (rows : List (List Span)) (j : ℕ) (own : List (Option Span)) (own_are : OwnSets rows n j own)
    (branches : branching_within n tree ≡ true) (nodes : List ℕ) (walk : WalkOf n tree nodes) where
  module _ (below : List Below) (belows : Belows n tree below) (parts : List Part)
      (parts_are : PartsAre tree n (character rows j) parts) where
    -- the taxa's own sets in the character
    abbrev sets : ℕ → Span
    sets = character rows j

    -- the walk begins with row 1
    pub down_first : (seen : List Seen) → length seen ≡ 127 → (top : ℕ) → top ≡ max (below_at below 1).first 1 → (x : Seen)
        → x ≡ row1_seen (part_at parts 1).set (part_at parts top).set → DownTo tree rows n j nodes (set seen 1 x) 1
    down_first seen size top top-is x is k l h =
        let zero : k ≡ 0 = omega arith in
        let here : node_at nodes k ≡ 1 = ap (node_at nodes) zero ∙ walk.down.first in
        rw (here, get_or-set_same seen 1 x blank (omega arith), is, top-is)
        (row1_right n tree rows j own own_are branches below belows parts parts_are)

    module _ (seen : List Seen) (size : length seen ≡ 127) (i : ℕ) (later : 1 ≤ i) (high : i < last_node n)
        (inv : DownTo tree rows n j nodes seen i) where
      -- the node at index i
      abbrev v : ℕ
      v = node_at nodes i

      -- it is not row 1, which stands first
      second : 2 ≤ v
      second =
          either 2 v (λ l. l) λ l.
          let node = walk.down.within i high in
          let same : node_at nodes i ≡ node_at nodes 0 = omega (arith, node, walk.down.first) in
          absurd (omega (arith, walk.down.once i 0 high (omega arith) same))

      -- there are at least two taxa
      several : 2 ≤ n
      several = unfold last_node in omega (arith, walk.down.within i high, second)

      -- a tree of all n taxa
      grown : Grown n n tree
      grown = grown_of n tree branches several

      -- it is no further than the last
      last : v ≤ 2 * n - 2
      last = omega (arith, walk.down.within i high, last_several n several)

      -- its ancestor is an index of a tree, and what is kept of it is right
      module _ (u : ℕ) (place : TreeIndex (ancestor tree v) u) where
        -- where it stands
        is-above : u ≡ ancestor tree v
        is-above =
            let at = walk.down.behind i later high in
            let node = walk.down.within at.0 (omega (arith, at.1)) in
            place.is (omega (arith, node, at.2, last_several n several, taxa-most n tree branches))

        -- what is kept of it
        above_right : SeenIs tree rows n j u (seen_at seen u)
        above_right =
            let at = walk.down.behind i later high in
            let here : node_at nodes at.0 ≡ u = at.2 ∙ sym is-above in
            rw here at (inv at.0 at.1 (omega (arith, at.1)))

        -- the chosen state
        state_right : nearest_member (seen_at seen u).state (part_at parts v).set ≡ chosen_state tree rows n v j
        state_right =
            let part : (part_at parts v).set ≡ set_of tree n sets v =
            ap (λ (p : Part). p.set) (parts_are v (omega (arith, second)) (walk.down.within i high).1) in
            ap₂ nearest_member (above_right.state ∙ ap (λ k. chosen_state tree rows n k j) is-above) part
            ∙ sym (state_node n tree grown rows j v second last)

        -- the outside
        outside_right : Hangs n tree v
            → outside_from (own_in own u) (part_at parts (sister_in (below_at below u) v)).set (seen_at seen u).outside
            ≡ outside_of tree n sets v
        outside_right (from_row1 e) =
            let row1 : own_in own u ≡ Some (sets 1) = ap (own_in own) (is-above ∙ e) ∙ own_are.are 1 (omega arith) own_are.taxon in
            ap (λ (s : Option Span). outside_from s (part_at parts (sister_in (below_at below u) v)).set (seen_at seen u).outside) row1
            ∙ sym (outside-first n tree grown rows j v second last e)
        outside_right (from_htu side a b htu-above e) =
            let htu' : Htu n tree u a b = subst (λ k. Htu n tree k a b) (sym is-above) htu-above in
            let few = taxa-most n tree branches in
            let most : u ≤ 126 = omega (arith, htu'.last) in
            let kept = two_kept n tree below belows u a b htu' most in
            let w : sister_in (below_at below u) v ≡ on (other side) a b = ap₂ sister_in kept e ∙ sister_on side a b in
            let d = htu_descends n tree grown (other side) u a b htu' in
            let beside : (part_at parts (on (other side) a b)).set ≡ set_of tree n sets (on (other side) a b) =
            ap (λ (p : Part). p.set)
            (parts_are (on (other side) a b) (omega (arith, d.second)) (omega (arith, d.last, last_several n several))) in
            let over : n < u = htu'.above in
            rw (own_are.none u over most, w)
            (ap₂ join beside (above_right.outside (omega (arith, over, several)))
            ∙ sym (outside_below n tree grown rows j side u a b htu')
            ∙ ap (outside_of tree n sets) (sym e))

        -- what is kept of it is right
        node_seen : (s : ℤ) (o : Span) → s ≡ nearest_member (seen_at seen u).state (part_at parts v).set
            → o ≡ outside_from (own_in own u) (part_at parts (sister_in (below_at below u) v)).set (seen_at seen u).outside
            → SeenIs tree rows n j v (record { state = s; outside = o })
        node_seen s o state outside = record {
          state = state ∙ state_right;
          outside = λ l. outside ∙ outside_right (hangs n tree grown v second last);
          row1 = λ e. absurd (omega (arith, second));
        }

      -- one place further down the walk
      pub down_next : (u : ℕ) → TreeIndex (ancestor tree v) u → (s : ℤ) (o : Span) → v ≤ 126
          → s ≡ nearest_member (seen_at seen u).state (part_at parts v).set
          → o ≡ outside_from (own_in own u) (part_at parts (sister_in (below_at below u) v)).set (seen_at seen u).outside
          → DownTo tree rows n j nodes (set seen v (record { state = s; outside = o })) (i + 1)
      down_next u place s o most state outside k l h =
          let room : v < length seen = omega arith in
          let x : Seen = record { state = s; outside = o } in
          by_cases (ℕ_discrete k i)
          (λ e.
          rw (e, get_or-set_same seen v x blank room)
          (node_seen u place s o state outside))
          (λ ne.
          let different : node_at nodes k ≢ v = λ same. ne (walk.down.once k i h high same) in
          rw (get_or-set_other seen v (node_at nodes k) x blank different)
          (inv k (omega arith) h))

  -- to the last place, of every node
  pub down_all : (seen : List Seen) (i : ℕ) → last_node n ≤ i → DownTo tree rows n j nodes seen i → (v : ℕ) → 1 ≤ v → v ≤ last_node n
      → SeenIs tree rows n j v (seen_at seen v)
  down_all seen i end inv v l h =
      let place = walk.each v l h in
      let here = place.2 in
      rw here at (inv place.0 (omega (arith, place.1)) place.1)
