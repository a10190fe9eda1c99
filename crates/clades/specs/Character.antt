-- The fit of one character of any kind to a clade that hangs from row 1.
-- `own` gives row 1's and each taxon's own set, of which every assignment gives it a member.
use mathlib.Core.List.{List, [], ◌∷◌, ◌++◌, flat_map}
use Rattle.std.specs.Prelude.{ℕ, ℤ}
use Rattle.clades.specs.Clades.{Clade, tip, fork}
use Rattle.clades.specs.ByNode.{ByNode, value_at}
use Rattle.clades.specs.Kinds.{Kind, among}

module _ (K : Kind) (own : ℕ → K.Set) where
  -- the set of a clade's top node, from the tips up: a taxon's own, or the join of the sets of the two descendants
  unfoldable pub up : Clade → K.Set
  up (tip v) = own v
  up (fork v a b) = K.join (up a) (up b)

  -- the states chosen from the top down, below a node of state `state`: each node takes the member of its set, from the tips up, that is
  -- nearest to the state chosen above
  unfoldable pub chosen : ℤ → Clade → ByNode ℤ
  chosen state (tip v) = (v, K.nearest state (own v)) ∷ []
  chosen state (fork v a b) =
      let here = K.nearest state (K.join (up a) (up b)) in
      (v, here) ∷ (chosen here a ++ chosen here b)

  -- the range of each node of a clade. `outside` is the set of what lies outside of the clade: row 1's own set if the clade hangs from
  -- row 1, else the join of its sister's set and the `outside` of its ancestor's clade. The range of a taxon has the members of its own set
  -- that are nearest to `outside`; that of an HTU is the middle of its descendants' sets and `outside`
  unfoldable pub ranges : K.Set → Clade → ByNode K.Set
  ranges outside (tip v) = (v, among K (own v) outside) ∷ []
  ranges outside (fork v a b) =
      (v, K.middle (up a) (up b) outside) ∷ (ranges (K.join (up b) outside) a ++ ranges (K.join (up a) outside) b)

  -- row 1's range, from the clades that hang from it, none or one: its own set, or the members of it that are nearest to the clade's set
  unfoldable pub row1_range : List Clade → K.Set
  row1_range [] = own 1
  row1_range (t ∷ rest) = among K (own 1) (up t)

  -- row 1 takes the lowest state of its range
  abbrev pub row1_state : List Clade → ℤ
  row1_state clades = K.lowest (row1_range clades)

  -- the state chosen for node v; row 1 is in none of the clades, so it has its own
  unfoldable pub state_of : List Clade → ℕ → ℤ
  state_of clades v = value_at (row1_state clades) (flat_map (chosen (row1_state clades)) clades) v

  -- the range of node v; row 1 is in none of the clades, so it has its own
  unfoldable pub range_of : List Clade → ℕ → K.Set
  range_of clades v = value_at (row1_range clades) (flat_map (ranges (own 1)) clades) v
