-- A placement on a tree that the caller keeps, beside the one by value: what the caller has after it.
use Rattle.std.specs.Prelude.{Result, Ok, Err}
use mathlib.Core.Path.{◌≡◌, refl, sym, ◌∙◌, ap}
use mathlib.Core.List.{List}
use Prim.Native.Nat.{ℕ}
use lib.IntN.{ℤ}
use Rattle.matrix_form.specs.Outcomes.{Asked, Outcome, refused, answered, asked_says, afterwards}
use Rattle.matrix_form.specs.declared.refusal.Refusal.{Refusal}
use Rattle.branching.specs.declared.tree.Tree.{Tree}
use Rattle.tree_form.specs.declared.placement.Placement.{Placement}
use Rattle.branching.specs.declared.placement.Placed.{Placed}
use Rattle.branching.specs.declared.placement.NotPlaced.{NotPlaced}
use Rattle.branching.specs.Views.{ancestors}
use Rattle.branching.specs.Calls.{place_in, matrix_placed, placement_says, placed_says, tree_back, PlacementDone}
use Rattle.references.specs.Kept.{with_tree, PlacementKept}
use Rattle.matrix_form.specs.Shape.{MatrixLists}

-- what is refused leaves what was there
pub refused_stays : {A B : Type 0} (asked : Asked) (a : A) (written old : B) (number line : ℕ) → refused number line ≡ answered asked a
    → old ≡ afterwards (asked_says asked) written old
refused_stays (Ok _) a written old number line told = cc
refused_stays (Err refusal) a written old number line told = refl

-- trees with the same ancestors are the same
same-tree : (tree other : Tree) → ancestors tree ≡ ancestors other → tree ≡ other
same-tree tree other e = ap {B = Tree} (λ (list : List ℕ). record { ancestors = list }) e

module _ (lists : MatrixLists) (new : List ℤ) (n m : ℕ) (before after : Tree) (b : ℕ) (r : Result Placement Refusal)
    (kept : PlacementKept lists new n m before after b r) where
  -- the tree handed back is the one that the caller then has
  back : tree_back (with_tree r after) ≡ after
  back = by_answer r
    where
      by_answer : (answer : Result Placement Refusal) → tree_back (with_tree answer after) ≡ after
      by_answer (Ok placement) = refl
      by_answer (Err refusal) = refl

  -- after a refusal the tree and the matrix are as before
  pub unchanged-refused : (number line : ℕ) → placement_says lists n m (ancestors before) b ≡ refused number line
      → (after ≡ before) × (new ≡ lists.codes)
  unchanged-refused number line told = (
    same-tree after before
        (rw back at kept.tree
        ∙ ap (λ (say : Outcome (Unit {0})). afterwards say (place_in lists n m (ancestors before) b).tree (ancestors before)) told),
    kept.matrix ∙ ap (λ (say : Outcome (Unit {0})). afterwards say (matrix_placed lists n m (ancestors before) b) lists.codes) told,
  )

  -- the answer, the tree, the placement and the matrix are those of the placement by value
  pub kept_by_value : (value : Result Placed NotPlaced) (written : List ℤ) → PlacementDone lists written n m (ancestors before) b value
      → (placed_says (with_tree r after) ≡ placed_says value) × (after ≡ tree_back value) × (new ≡ written)
  kept_by_value value written done = (
    kept.says ∙ sym done.says,
    same-tree after (tree_back value) (rw back at kept.tree ∙ sym done.tree),
    kept.matrix ∙ sym done.matrix,
  )
