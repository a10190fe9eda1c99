-- The passes over a branching in one character, node by node: what each function of a pass promises. No exported contract cites this file.
-- `own` has the taxa's own sets: in a definition by number, as `character rows j`, in what a function promises as the list that it reads.
use Rattle.std.specs.Bool.{then_some}
use Rattle.std.specs.Prelude.{◌≡◌, ℕ, ◌+◌, ◌*◌, ◌^◌, ◌<◌, ◌≤◌, true, nat_le, Option, Some, None, List, ℤ, pos, slice_index_or, cond, ltb}
use mathlib.Core.List.{flat_map}
use Rattle.lists.specs.Sums.{sum_over}
use Rattle.matrix_form.specs.Shape.{in_range, last_node, state_at}
use Rattle.matrix_form.specs.Spans.{only}
use Rattle.matrix_form.specs.declared.spans.Span.{Span}
use Rattle.difference_form.specs.Rows.{apart}
use Rattle.tree_form.specs.Ancestors.{ancestor}
use Rattle.tree_form.specs.Nodes.{other_nodes}
use Rattle.tree_form.specs.Within.{branching_within}
use Rattle.clades.specs.Clades.{Clade}
use Rattle.clades.specs.ByNode.{value_at}
use Rattle.clades.specs.Character.{up}
use Rattle.clades.specs.Passes.{least_cost, outsides}
use Rattle.fit_form.specs.Sets.{Nonempty, join, gap, middle, ordered}
use Rattle.fit_form.specs.Clades.{clade_at, clades_below}
use Rattle.fit_form.specs.Assignments.{character}
use Rattle.fit_form.specs.Fit.{chosen_state, range, states_in}
use Rattle.fit_sets.specs.Steps.{nearest_members}
use Rattle.fit_passes.specs.declared.characters.Part.{Part}
use Rattle.fit_passes.specs.declared.characters.Seen.{Seen}
use Rattle.fit_form.specs.declared.characters.States.{States}

module _ (tree : List ℕ) (n : ℕ) where
  -- the clade of node v
  abbrev pub clade_from : ℕ → Clade
  clade_from v = clade_at tree (other_nodes n) (2 * n) v

  module _ (own : ℕ → Span) where
    -- the set of node v, from the tips up
    unfoldable pub set_of : ℕ → Span
    set_of v = up ordered own (clade_from v)

    -- the least cost of the clade of node v
    unfoldable pub cost_of : ℕ → ℕ
    cost_of v = least_cost ordered own (clade_from v)

    -- the set of node v and the least cost of its clade
    abbrev pub part_for : ℕ → Part
    part_for v = record { set = set_of v; cost = cost_of v }

    -- the outside of node v, below row 1: the set of all nodes that are not in its clade
    unfoldable pub outside_of : ℕ → Span
    outside_of v = value_at (own 1) (flat_map (outsides ordered own (own 1)) (clades_below tree n)) v

-- the length of character j under the chosen states
unfoldable pub character_length : List ℕ → List (List Span) → ℕ → ℕ → ℕ
character_length tree rows n j =
    sum_over (λ v. apart (chosen_state tree rows n v j) (chosen_state tree rows n (ancestor tree v) j)) (other_nodes n)

-- the states of node v in character j if it is one of n taxa: of a matrix of codes its code alone
abbrev pub taxon_span : List ℤ → ℕ → ℕ → ℕ → Option Span
taxon_span matrix n v j = then_some (nat_le v n) (only (state_at matrix v j))

-- the own set at index v of a list
abbrev pub own_in : List (Option Span) → ℕ → Option Span
own_in own v = slice_index_or own v None

-- a list has the own sets of the n taxa in a column of a matrix, by taxon number
pub record Column (matrix : List ℤ) (n j : ℕ) (own : List (Option Span)) : Type 0 where
  pub are : (v : ℕ) → v ≤ 126 → own_in own v ≡ taxon_span matrix n v j

-- it holds of both ends of a set
pub record Each (P : ℤ → Type 0) (a : Span) : Type 0 where
  pub at_low : P a.low
  pub at_high : P a.high

-- a code is from -999 to 999
abbrev pub Known : ℤ → Type 0
Known z = in_range z ≡ true

-- a list has the own sets of the n taxa in character j, by taxon number, each with a state and its ends from -999 to 999, and of no other
-- node
pub record OwnSets (rows : List (List Span)) (n j : ℕ) (own : List (Option Span)) : Type 0 where
  pub taxon : 1 ≤ n
  pub are : (v : ℕ) → 1 ≤ v → v ≤ n → own_in own v ≡ Some (character rows j v)
  pub none : (v : ℕ) → n < v → v ≤ 126 → own_in own v ≡ None
  pub known : (v : ℕ) → 1 ≤ v → v ≤ n → Each Known (character rows j v)
  pub proper : (v : ℕ) → 1 ≤ v → v ≤ n → Nonempty (character rows j v)

-- what is found of a taxon from the tips up
abbrev pub tip_part : Span → Part
tip_part own = record { set = own; cost = 0 }

-- what is found of a node from the tips up, from its own set or, where it has none, from its descendants
pub record PartOf (own : Option Span) (a b r : Part) : Type 0 where
  pub tip : (set : Span) → own ≡ Some set → r ≡ tip_part set
  pub set : own ≡ None → r.set ≡ join a.set b.set
  pub cost : own ≡ None → gap a.set b.set + (a.cost + b.cost) < 2 ^ 64 → r.cost ≡ gap a.set b.set + (a.cost + b.cost)

-- what is kept of node v from the tips up
abbrev pub part_at : List Part → ℕ → Part
part_at parts v = slice_index_or parts v (record { set = record { low = pos 0; high = pos 0 }; cost = 0 })

-- of every node its set and the least cost of its clade are kept
abbrev pub PartsAre : List ℕ → ℕ → (ℕ → Span) → List Part → Type 0
PartsAre tree n own parts = (v : ℕ) → 1 ≤ v → v ≤ last_node n → part_at parts v ≡ part_for tree n own v

-- the pass up
pub record PartsUp (n : ℕ) (tree : List ℕ) (own : List (Option Span)) (parts : List Part) : Type 0 where
  pub are : (rows : List (List Span)) (j : ℕ) → OwnSets rows n j own → branching_within n tree ≡ true
      → PartsAre tree n (character rows j) parts

-- the least cost of a character is its length under the chosen states
pub record LeastCost (n : ℕ) (tree : List ℕ) (own : List (Option Span)) (r : ℕ) : Type 0 where
  pub is : (rows : List (List Span)) (j : ℕ) → OwnSets rows n j own → branching_within n tree ≡ true → r ≡ character_length tree rows n j

-- the outside of a node, from the own set of its ancestor where that is a taxon, or from its sister's set and the outside of its ancestor
abbrev pub outside_from : Option Span → Span → Span → Span
outside_from (Some row1) beside outside = row1
outside_from None beside outside = join beside outside

-- what is kept of row 1 from its own set and that of the clade below it: the lowest of its states that are nearest to the clade's set
abbrev pub row1_seen : Span → Span → Seen
row1_seen own below = record { state = (nearest_members below own).low; outside = below }

-- what is kept of node v from row 1 down
abbrev pub seen_at : List Seen → ℕ → Seen
seen_at seen v = slice_index_or seen v (record { state = pos 0; outside = record { low = pos 0; high = pos 0 } })

-- of node v its chosen state is kept, and its outside; of row 1 a set from which its range is found as that of any other taxon
pub record SeenIs (tree : List ℕ) (rows : List (List Span)) (n j v : ℕ) (seen : Seen) : Type 0 where
  pub state : seen.state ≡ chosen_state tree rows n v j
  pub outside : 2 ≤ v → seen.outside ≡ outside_of tree n (character rows j) v
  pub row1 : v ≡ 1 → range tree rows n v j ≡ nearest_members seen.outside (character rows j v)

-- the pass down
pub record SeenDown (n : ℕ) (tree : List ℕ) (own : List (Option Span)) (parts : List Part) (seen : List Seen) : Type 0 where
  pub are : (rows : List (List Span)) (j : ℕ) → OwnSets rows n j own → branching_within n tree ≡ true
      → PartsAre tree n (character rows j) parts
      → (v : ℕ) → 1 ≤ v → v ≤ last_node n → SeenIs tree rows n j v (seen_at seen v)

-- the range of a node, from its own set or, where it has none, from the sets of its descendants, and from its outside
abbrev pub range_from : Option Span → Span → Span → Span → Span
range_from (Some own) a b outside = nearest_members outside own
range_from None a b outside = middle a b outside

-- the states of a node, from its range and its chosen state
abbrev pub states_with : Span → ℤ → States
states_with range state = record { low = range.low; high = range.high; chosen = state }

-- the states of a node, from its own set, if it has one, and from what is kept of its descendants and of itself
abbrev pub states_from : Option Span → Part → Part → Seen → States
states_from own a b seen = states_with (range_from own a.set b.set seen.outside) seen.state

-- these, of a node that is none behind the last one; behind it zeros
abbrev pub states_up_to : ℕ → ℕ → Option Span → Part → Part → Seen → States
states_up_to last v own a b seen = cond (ltb last v) (record { low = pos 0; high = pos 0; chosen = pos 0 }) (states_from own a b seen)

-- the states of node v
abbrev pub states_at : List States → ℕ → States
states_at states v = slice_index_or states v (record { low = pos 0; high = pos 0; chosen = pos 0 })

-- the fit of one character
pub record Fits (n : ℕ) (tree : List ℕ) (own : List (Option Span)) (states : List States) : Type 0 where
  pub are : (rows : List (List Span)) (j : ℕ) → OwnSets rows n j own → branching_within n tree ≡ true
      → (v : ℕ) → 1 ≤ v → v ≤ last_node n → states_at states v ≡ states_in tree rows n v j
