-- The pass up: against the walk, so that what is kept of both descendants of an HTU is right before the HTU comes.
use Rattle.std.proofs.Common.{Option, ◌≡◌, ℕ, ◌+◌, ◌-◌, ◌*◌, ◌<◌, ◌≤◌, true, ◌≢◌, List, length, set, get_or, sym, refl, ap, ◌∙◌, ap₂, arith, take, reverse, length-take, get_or-take, get_or-set_other, get_or-set_same}
use Rattle.std.proofs.lemmas.List.{length-reverse, get_or-reverse, get_or_default, get_or_past}
use mathlib.Core.Logic.{by_cases}
use native.Mathlib.Decide.{ℕ_discrete}
use Rattle.matrix_form.specs.Shape.{last_node}
use Rattle.tree_form.specs.Facts.{Grown}
use Rattle.tree_form.specs.Within.{branching_within}
use Rattle.tree_walk.specs.Walks.{node_at, Belows, below_at}
use Rattle.tree_walk.proofs.Walks.{WalkOf}
use Rattle.fit_form.specs.Sets.{join, gap}
use Rattle.fit_form.specs.Assignments.{character}
use Rattle.fit_passes.specs.Steps.{own_in, OwnSets, PartOf, part_at, part_for, PartsAre, set_of, cost_of}
use Rattle.matrix_form.specs.declared.spans.Span.{Span}
use Rattle.tree_walk.specs.declared.walk.Below.{Below}
use Rattle.fit_passes.specs.declared.characters.Part.{Part}
use Rattle.fit_form.proofs.Cases.{either}
use Rattle.clades.proofs.Clades.Sides.{Side, left, right, on}
use Rattle.fit_form.proofs.Clades.Built.{Htu, htu_two}
use Rattle.fit_passes.proofs.Matrix.ByNode.{set-htu, cost-htu}
use Rattle.fit_passes.proofs.Matrix.LeastCost.{cost-most}
use Rattle.fit_passes.proofs.Pass.Standing.{taxa-most, grown_of, last_several, two_kept, descendant_behind, taxon-part}

-- what is kept is right for each node that stands at index i of the walk or behind it
abbrev pub UpFrom : List ℕ → ℕ → (ℕ → Span) → List ℕ → List Part → ℕ → Type 0
UpFrom tree n own nodes parts i =
    (k : ℕ) → i ≤ k → k < last_node n → part_at parts (node_at nodes k) ≡ part_for tree n own (node_at nodes k)

-- the node that a pass against a walk of so many nodes takes behind i others
pub turn_back : (nodes : List ℕ) (count i v : ℕ) → count ≤ length nodes → i < length (reverse (take count nodes))
    → v ≡ get_or (reverse (take count nodes)) i v → (i < count) × (v ≡ node_at nodes (count - (i + 1)))
unfolding node_at
turn_back nodes count i v room some is =
    let size = length-take count nodes in
    let both = length-reverse (take count nodes) in
    let place : length (take count nodes) - 1 - i ≡ count - (i + 1) = omega arith in (
      omega arith,
      is
          ∙ get_or-reverse (take count nodes) i v (omega arith)
          ∙ ap (λ (k : ℕ). get_or (take count nodes) k v) place
          ∙ get_or-take count nodes (count - (i + 1)) v (omega arith)
          ∙ get_or_default nodes (count - (i + 1)) v 0 (omega arith),
    )

-- a list has room for each node of its walk
pub walk_room : (n : ℕ) (tree nodes : List ℕ) → WalkOf n tree nodes → last_node n ≤ length nodes
unfolding node_at last_node
walk_room n tree nodes walk =
    either (last_node n) (length nodes) (λ l. l)
    (λ short.
    let last = walk.down.within (last_node n - 1) (omega arith) in
    absurd (omega (arith, last.0, get_or_past nodes (last_node n - 1) 0 (omega arith))))

-- where the pass ends, no node is left
pub turns_all : (nodes : List ℕ) (count i : ℕ) → count ≤ length nodes → i ≡ length (reverse (take count nodes)) → count - i ≡ 0
turns_all nodes count i room all = omega (arith, length-reverse (take count nodes), length-take count nodes)

-- a part from its set and its cost
part_of : (s : Span) (k : ℕ) (p : Part) → p.set ≡ s → p.cost ≡ k → p ≡ record { set = s; cost = k }
part_of s k p e f = ap₂ (λ (x : Span) (c : ℕ). record { set = x; cost = c }) e f

module _ (n : ℕ) (tree : List ℕ) (rows : List (List Span)) (j : ℕ) (own : List (Option Span)) (own_are : OwnSets rows n j own)
    (branches : branching_within n tree ≡ true) (nodes : List ℕ) (walk : WalkOf n tree nodes) (below : List Below)
    (belows : Belows n tree below) (parts : List Part) (size : length parts ≡ 127) where
  -- the taxa's own sets in the character
  abbrev sets : ℕ → Span
  sets = character rows j

  -- the step at index i of the walk
  module _ (i : ℕ) (high : i < last_node n) (inv : UpFrom tree n sets nodes parts (i + 1)) where
    -- the node there
    abbrev v : ℕ
    v = node_at nodes i

    -- a taxon
    taxon_right : (r a b : Part) → PartOf (own_in own v) a b r → v ≤ n → r ≡ part_for tree n sets v
    taxon_right r a b is l =
        let first = (walk.down.within i high).0 in
        is.tip _ (own_are.are v first l) ∙ sym (taxon-part n tree branches rows j v first l)

    -- an HTU
    module _ (htu : n < v) where
      -- there are at least two taxa
      several : 2 ≤ n
      several = unfold last_node in omega (arith, walk.down.within i high, own_are.taxon)

      -- a tree of all n taxa
      grown : Grown n n tree
      grown = grown_of n tree branches several

      -- it is no further than the last
      last : v ≤ 2 * n - 2
      last = omega (arith, walk.down.within i high, last_several n several)

      -- of a descendant what is kept is right
      descendant_right : (side : Side) (a b : ℕ) → Htu n tree v a b → part_at parts (on side a b) ≡ part_for tree n sets (on side a b)
      descendant_right side a b two =
          let place = descendant_behind n tree nodes grown walk side v a b i two high refl in
          rw place.3 at (inv place.0 (omega (arith, place.1)) place.2)

      -- its own part
      htu_right : (r : Part) (a b : ℕ) → Htu n tree v a b → PartOf (own_in own v) (part_at parts a) (part_at parts b) r
          → r ≡ part_for tree n sets v
      htu_right r a b two is =
          let x = descendant_right left a b two in
          let y = descendant_right right a b two in
          let few = taxa-most n tree branches in
          let over = own_are.none v htu (omega (arith, last)) in
          let cost = cost-htu n tree grown rows j v a b two in
          let most = cost-most n tree grown rows j own_are.known v (omega arith) last in
          let far = ap₂ (λ (p : Part) (q : Part). gap p.set q.set + (p.cost + q.cost)) x y in
          part_of (set_of tree n sets v) (cost_of tree n sets v) r
          (is.set over ∙ ap₂ (λ (p : Part) (q : Part). join p.set q.set) x y ∙ sym (set-htu n tree grown rows j v a b two))
          (is.cost over (omega arith) ∙ far ∙ sym cost)

    -- the node at index i
    node_right_lem : (r : Part)
        → PartOf (own_in own v) (part_at parts (below_at below v).first) (part_at parts (below_at below v).second) r
        → r ≡ part_for tree n sets v
    node_right_lem r is =
        either v n
        (λ l. taxon_right r _ _ is l)
        (λ l.
        let two = htu_two n tree (grown l) v l (last l) in
        let few = taxa-most n tree branches in
        let most : v ≤ 126 = omega (arith, last l) in
        let kept = two_kept n tree below belows v two.0 two.1 two.2 most in
        htu_right l r two.0 two.1 two.2 (rw kept at is))

  -- one place further up the walk
  pub up_next : (i : ℕ) → i < last_node n → (r : Part)
      → PartOf (own_in own (node_at nodes i)) (part_at parts (below_at below (node_at nodes i)).first)
      (part_at parts (below_at below (node_at nodes i)).second) r
      → node_at nodes i ≤ 126 → UpFrom tree n sets nodes parts (i + 1) → UpFrom tree n sets nodes (set parts (node_at nodes i) r) i
  up_next i high r is most inv k l h =
      let v = node_at nodes i in
      let room : v < length parts = omega arith in
      by_cases (ℕ_discrete k i)
      (λ e. rw e (get_or-set_same parts v r _ room ∙ node_right_lem i high inv r is))
      (λ ne.
      let other : node_at nodes k ≢ v = λ same. ne (walk.down.once k i h high same) in
      get_or-set_other parts v (node_at nodes k) r _ other ∙ inv k (omega arith) h)

  -- from the first place on, of every node
  pub up-all : UpFrom tree n sets nodes parts 0 → PartsAre tree n sets parts
  up-all inv v l h =
      let place = walk.each v l h in
      let here = place.2 in
      rw here at (inv place.0 (omega arith) place.1)
