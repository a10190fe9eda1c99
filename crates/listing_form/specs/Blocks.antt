-- The lines of the listing, block by block, over the numbers that they print.
use mathlib.Core.List.{List, [], ◌∷◌, ◌++◌, map, flat_map}
use Rattle.std.specs.Prelude.{ℕ, Bool, Option, ℤ}
use Rattle.lists.specs.Numbers.{numbers}
use Rattle.prim_form.specs.Network.{Link}
use Rattle.tree_form.specs.declared.placement.Placement.{Placement}
use Rattle.tree_form.specs.Ancestors.{ancestor}
use Rattle.tree_form.specs.Nodes.{other_nodes, htus}
use Rattle.wagner_form.specs.Build.{Built}
use Rattle.consistency_form.specs.declared.index.Index.{Index}
use Rattle.listing_form.specs.Kinds.{total_line, index_line, prim_line, wagner_line, branch_line, state_line}

-- the numbers that the lines of network and build print
pub record PrintedBuild : Type 0 where
  -- the links of the `P` lines, and `p`
  pub links : List Link
  pub p : ℕ
  -- the build whose placements are the `W` lines, and `w`
  pub built : Built
  pub w : ℕ

-- the numbers that the lines of a fitted tree print
pub record PrintedTree : Type 0 where
  -- the tree whose ancestors stand in the `T` lines; length and mark in the `T` line of a node, and `t`
  pub tree : List ℕ
  pub lengths : ℕ → ℕ
  pub marks : ℕ → Bool
  pub t : ℕ
  -- the index in the line `c`
  pub c : Option Index
  -- lowest, highest and chosen state in the `H` line of a node and a character
  pub low : ℕ → ℕ → ℤ
  pub high : ℕ → ℕ → ℤ
  pub chosen : ℕ → ℕ → ℤ

module _ (n : ℕ) (names : List (List ℕ)) where
  -- the network: the `P` lines of links, and `p`
  unfoldable pub network_lines : List Link → ℕ → List (List ℕ)
  network_lines links p = map (prim_line n names) links ++ (total_line "p" p ∷ [])

  -- the build: the `W` lines of placements, and `w`
  unfoldable pub build_lines : List Placement → ℕ → List (List ℕ)
  build_lines placements w = map (wagner_line n names) placements ++ (total_line "w" w ∷ [])

  -- the `T` line of node v of a tree, with a length and a mark for each node
  unfoldable pub fitted_line : List ℕ → (ℕ → ℕ) → (ℕ → Bool) → ℕ → List ℕ
  fitted_line tree lengths marks v = branch_line n names v (ancestor tree v) (lengths v) (marks v)

  -- the branches of a tree: the `T` lines, by node number from 2, and `t`
  unfoldable pub fitted_lines : List ℕ → (ℕ → ℕ) → (ℕ → Bool) → ℕ → List (List ℕ)
  fitted_lines tree lengths marks t = map (fitted_line tree lengths marks) (other_nodes n) ++ (total_line "t" t ∷ [])

  module _ (low high chosen : ℕ → ℕ → ℤ) where
    -- the `H` line of node v and character j, with three states for each
    unfoldable pub state_line_of : ℕ → ℕ → List ℕ
    state_line_of v j = state_line n names v j (low v j) (high v j) (chosen v j)

    -- the `H` lines of node v, by character from 1 to m
    unfoldable pub node_lines : ℕ → ℕ → List (List ℕ)
    node_lines m v = map (state_line_of v) (numbers 1 m)

    -- the `H` lines of the HTUs, by node number
    unfoldable pub state_lines : ℕ → List (List ℕ)
    state_lines m = flat_map (node_lines m) (htus n)

  -- the lines of network and build
  unfoldable pub lines_of_build : PrintedBuild → List (List ℕ)
  lines_of_build x = network_lines x.links x.p ++ build_lines x.built.placements x.w

  -- the lines of a fitted tree of m characters: its branches, the line `c`, and its states
  unfoldable pub lines_of_tree : ℕ → PrintedTree → List (List ℕ)
  lines_of_tree m x =
      fitted_lines x.tree x.lengths x.marks x.t ++ (index_line x.c ∷ state_lines x.low x.high x.chosen m)
