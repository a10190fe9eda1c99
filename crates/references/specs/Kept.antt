-- A placement on a tree that the caller keeps: what it answers, and what tree and matrix then are.
use Rattle.std.specs.Prelude.{List, ℕ, ℤ, Result, Ok, Err}
use Rattle.matrix_form.specs.declared.refusal.Refusal.{Refusal}
use Rattle.branching.specs.declared.tree.Tree.{Tree}
use Rattle.tree_form.specs.declared.placement.Placement.{Placement}
use Rattle.branching.specs.declared.placement.Placed.{Placed}
use Rattle.branching.specs.declared.placement.NotPlaced.{NotPlaced}
use Rattle.branching.specs.Views.{ancestors}
use Rattle.branching.specs.Calls.{PlacementDone}
use Rattle.matrix_form.specs.Shape.{MatrixLists}

-- what is handed back, with the tree that the caller then has: what the placement by value hands back
abbrev pub with_tree : Result Placement Refusal → Tree → Result Placed NotPlaced
with_tree (Ok placement) tree = Ok (record { tree = tree; placement = placement })
with_tree (Err refusal) tree = Err (record { tree = tree; refusal = refusal })

-- the placement on a tree that the caller keeps is the one by value, the tree handed back being the one that the caller then has: on a
-- refusal the tree that he had
abbrev pub PlacementKept : MatrixLists → List ℤ → ℕ → ℕ → Tree → Tree → ℕ → Result Placement Refusal → Type 0
PlacementKept lists new n m before after b r = PlacementDone lists new n m (ancestors before) b (with_tree r after)
