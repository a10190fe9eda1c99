-- A branching of two taxa or more and its plan: which descendants are kept of a node, and where they stand in the walk.
use Rattle.std.proofs.Common.{◌≡◌, ℕ, ◌-◌, ◌*◌, ◌<◌, ◌≤◌, Bool, true, false, cond, eqb, leb, ◌≢◌, List, [], ◌∷◌, sym, refl, ap, ◌∙◌, ap₂, arith, eq-eqb, eqb-true, leb-true}
use mathlib.Core.Logic.{by_cases}
use mathlib.Core.List.{Memᴰ}
use mathlib.Core.Bool.{and-eq-true_iff}
use native.Mathlib.Decide.{dec_le}
use Rattle.lists.specs.Numbers.{numbers}
use Rattle.lists.specs.Filters.{keep}
use Rattle.matrix_form.specs.Shape.{last_node}
use Rattle.tree_form.specs.Ancestors.{ancestor, descendants}
use Rattle.tree_form.specs.Nodes.{other_nodes}
use Rattle.tree_form.specs.Growing.{branching}
use Rattle.tree_form.specs.Facts.{Grown}
use Rattle.tree_form.specs.Within.{branching_within}
use Rattle.tree_walk.specs.Walks.{node_at, Belows, below_at, first_two}
use Rattle.tree_walk.proofs.Walks.{WalkOf, walk_later}
use Rattle.lists.proofs.Numbers.{numbers-within}
use Rattle.tree_form.proofs.Descendants.{mem-descendants}
use Rattle.tree_form.proofs.Test.{branching_iff}
use Rattle.tree_form.proofs.Whole.{branching-grown}
use Rattle.fit_passes.specs.Plans.{sister_in}
use Rattle.matrix_form.specs.declared.spans.Span.{Span}
use Rattle.fit_form.specs.Clades.{above, clade_at}
use Rattle.fit_form.specs.Assignments.{character}
use Rattle.fit_passes.specs.Steps.{part_for, tip_part, set_of, cost_of}
use Rattle.tree_walk.specs.declared.walk.Below.{Below}
use Rattle.clades.proofs.Clades.Sides.{Side, left, right, on, other}
use Rattle.fit_form.proofs.Clades.Built.{Htu, htu_descends}
use Rattle.fit_form.proofs.Clades.Hanging.{clade_of}
use Rattle.clades.specs.Character.{up}
use Rattle.clades.specs.Passes.{least_cost}
use Rattle.fit_passes.proofs.Matrix.ByNode.{set-taxon, cost-taxon}

module _ (n : ℕ) (tree : List ℕ) (branches : branching_within n tree ≡ true) where
  -- what passes the test is a branching of at most 64 taxa
  pub branching_parts : (leb n 64 ≡ true) × (branching n tree ≡ true)
  unfolding branching_within
  branching_parts = (and-eq-true_iff (leb n 64) (branching n tree)).0 branches

  -- it has at most 64 taxa
  pub taxa-most : n ≤ 64
  taxa-most = leb-true n 64 branching_parts.0

  -- a branching of two taxa or more is a tree of all n
  pub grown_of : 2 ≤ n → Grown n n tree
  grown_of two = branching-grown n tree two ((branching_iff tree n (omega arith)).0 branching_parts.1)

-- of two taxa or more the last node is 2n-2
pub last_several : (n : ℕ) → 2 ≤ n → last_node n ≡ 2 * n - 2
unfolding last_node
last_several n two = omega arith

-- of the descendants of a node, the first two are kept
pub two_kept : (n : ℕ) (tree : List ℕ) (below : List Below) → Belows n tree below → (u a b : ℕ) → Htu n tree u a b → u ≤ 126
    → below_at below u ≡ record { first = a; second = b }
unfolding first_two
two_kept n tree below belows u a b htu most = belows.are u (omega (arith, htu.above)) most ∙ ap first_two htu.are

-- of row 1 its one descendant is kept
pub one_kept : (n : ℕ) (tree : List ℕ) (below : List Below) → Belows n tree below → (top : ℕ) → descendants tree (other_nodes n) 1 ≡ top ∷ []
    → (below_at below 1).first ≡ top
unfolding first_two
one_kept n tree below belows top e = ap (λ (b : Below). b.first) (belows.are 1 (omega arith) (omega arith) ∙ ap first_two e)

-- each descendant of an HTU stands behind it in the walk
pub descendant_behind : (n : ℕ) (tree nodes : List ℕ) (grown : Grown n n tree) → WalkOf n tree nodes → (side : Side) (u a b i : ℕ)
    → Htu n tree u a b → i < last_node n → node_at nodes i ≡ u
    → (k : ℕ) × (i < k) × (k < last_node n) × (node_at nodes k ≡ on side a b)
descendant_behind n tree nodes grown walk side u a b i htu h at =
    let d = htu_descends n tree grown side u a b htu in
    let last = last_several n grown.at_least_two in
    let place = walk.each (on side a b) (omega (arith, d.second)) (omega (arith, d.last)) in
    let here = place.2 in
    let other : node_at nodes place.0 ≢ 1 = λ e. omega (arith, d.second) in
    (place.0, walk_later _ _ tree nodes walk.down i place.0 h place.1 other (ap (ancestor tree) here ∙ d.from ∙ sym at), place.1, here)

-- of one taxon no descendant of row 1 is kept
pub none_kept : (n : ℕ) (tree : List ℕ) (below : List Below) → Belows n tree below → n ≡ 1 → (below_at below 1).first ≡ 0
unfolding first_two other_nodes numbers descendants keep
none_kept n tree below belows one = rw one at (ap (λ (b : Below). b.first) (belows.are 1 (omega arith) (omega arith)))

-- of the only taxon its own set is found from the tips up, and no cost
alone-part : (tree : List ℕ) (own : ℕ → Span) → part_for tree 1 own 1 ≡ tip_part (own 1)
unfolding set_of cost_of up least_cost clade_at above other_nodes numbers descendants keep
alone-part tree own = refl

-- of a taxon its own set is found from the tips up, and no cost
pub taxon-part : (n : ℕ) (tree : List ℕ) (branches : branching_within n tree ≡ true) (rows : List (List Span)) (j v : ℕ) → 1 ≤ v → v ≤ n
    → part_for tree n (character rows j) v ≡ tip_part (character rows j v)
taxon-part n tree branches rows j v first l =
    by_cases (dec_le 2 n)
    (λ two.
    let grown = grown_of n tree branches two in
    ap₂ (λ (s : Span) (k : ℕ). record { set = s; cost = k }) (set-taxon n tree grown rows j v first l)
    (cost-taxon n tree grown rows j v first l))
    (λ few.
    let one : n ≡ 1 = omega arith in
    let row1 : v ≡ 1 = omega arith in
    rw (one, row1) (alone-part tree (character rows j)))

-- the other one of two descendants
pub sister_on : (side : Side) (a b : ℕ) → sister_in (record { first = a; second = b }) (on side a b) ≡ on (other side) a b
unfolding sister_in
sister_on left a b = rw (eq-eqb a a refl)
sister_on right a b = go (eqb a b) refl
  where
    go : (t : Bool) → eqb a b ≡ t → cond t b a ≡ a
    go true e = sym (eqb-true a b e)
    go false e = refl

-- the other one of two descendants with a place in a tree has one
pub sister_within : (below : Below) (v : ℕ) → (below.first ≤ 126) × (below.second ≤ 126) → sister_in below v ≤ 126
unfolding sister_in
sister_within below v w = go (eqb below.first v)
  where
    go : (t : Bool) → cond t below.second below.first ≤ 126
    go true = w.1
    go false = w.0

-- the one descendant of row 1 is a node below row 1
pub root-within : (n : ℕ) (tree : List ℕ) (grown : Grown n n tree) → (2 ≤ (clade_of n tree grown).root) ×
    ((clade_of n tree grown).root ≤ 2 * n - 2)
unfolding other_nodes
root-within n tree grown =
    let root = (clade_of n tree grown).root in
    let m : Memᴰ root (descendants tree (other_nodes n) 1) = rw (clade_of n tree grown).of_row1 (mathlib.Core.List.Memᴰ.head refl) in
    let w = numbers-within 2 (2 * n - 3) root ((mem-descendants tree (other_nodes n) 1 root).0 m).0 in
    (w.0, omega (arith, w.1, grown.at_least_two))
