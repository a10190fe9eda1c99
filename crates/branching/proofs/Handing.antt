-- A placement with its questions: what is handed back on a refusal, and where they pass; and back, what the answer tells
-- where they pass and where one refuses.
use mathlib.Core.Path.{◌≡◌, refl, ap, ◌∙◌}
use mathlib.Core.List.{List}
use Prim.Native.Nat.{ℕ}
use lib.IntN.{ℤ}
use Rattle.std.specs.Prelude.{Result, Ok, Err}
use Rattle.matrix_form.specs.Outcomes.{value, refused}
use Rattle.matrix_form.specs.Refusals.{refusal_number}
use Rattle.matrix_form.specs.declared.refusal.Refusal.{Refusal}
use Rattle.matrix_form.proofs.Passing.{matrix_passed}
use Rattle.branching.specs.declared.placement.Placed.{Placed}
use Rattle.branching.specs.declared.placement.NotPlaced.{NotPlaced}
use Rattle.branching.specs.declared.tree.Tree.{Tree}
use Rattle.branching.specs.Views.{ancestors}
use Rattle.tree_form.specs.Asking.{ask_placement}
use Rattle.matrix_form.specs.NodeRows.{with_rows}
use Rattle.tree_form.specs.Hanging.{next_htu}
use Rattle.tree_form.specs.Placing.{AfterPlacing}
use Rattle.branching.specs.Unasked.{UnaskedDone}
use Rattle.branching.specs.Calls.{place_in, matrix_placed, placement_says, placed_says, tree_back, PlacementDone}
use Rattle.tree_form.proofs.Passed.{placement_asked}
use Rattle.branching.proofs.Unasked.{unasked-plain}
use Rattle.matrix_form.specs.Shape.{MatrixLists}

module _ (lists : MatrixLists) (n m : ℕ) (tree : Tree) (b : ℕ) where
  -- a refusal hands the tree back unchanged, and the matrix is as before
  pub hands_refusal : (refusal : Refusal) → ask_placement lists n m (ancestors tree) b ≡ Err refusal
      → PlacementDone lists lists.codes n m (ancestors tree) b (Err (record { tree = tree; refusal = refusal }))
  unfolding placement_says
  hands_refusal refusal told = record { says = rw told; tree = rw told; matrix = rw told }

  -- where the questions pass, the placement is the one by the rows of the tree's nodes
  pub hands_placement : (new : List ℤ) (done : Placed) → ask_placement lists n m (ancestors tree) b ≡ Ok tt
      → UnaskedDone lists new n m (ancestors tree) b done
      → PlacementDone lists new n m (ancestors tree) b (Ok done)
  unfolding placement_says matrix_placed
  hands_placement new done told is =
      let asked = placement_asked lists n m (ancestors tree) b told in
      let lent = matrix_passed lists n m asked.matrix in
      let same = unasked-plain lists n m (ancestors tree) b lent.taxa lent.characters in
      record {
        says = rw told (ap value (is.placement ∙ ap (λ (after : AfterPlacing). after.placement) same));
        tree = rw told (is.tree ∙ ap (λ (after : AfterPlacing). after.tree) same);
        matrix = rw told (is.matrix ∙ ap (λ (after : AfterPlacing). with_rows lists.codes (next_htu n (ancestors tree)) after.made) same);
      }

-- where the questions pass: the tree one taxon larger, the placement, and the matrix with the HTU's row
pub record Handed (lists : MatrixLists) (new : List ℤ) (n m : ℕ) (before : List ℕ) (b : ℕ) (r : Result Placed NotPlaced) : Type 0 where
  pub placed : Placed
  pub is : r ≡ Ok placed
  pub tree : ancestors placed.tree ≡ (place_in lists n m before b).tree
  pub placement : placed.placement ≡ (place_in lists n m before b).placement
  pub matrix : new ≡ matrix_placed lists n m before b

pub handed : (lists : MatrixLists) (new : List ℤ) (n m : ℕ) (before : List ℕ) (b : ℕ) (r : Result Placed NotPlaced)
    → PlacementDone lists new n m before b r → ask_placement lists n m before b ≡ Ok tt
    → Handed lists new n m before b r
unfolding placement_says
handed lists new n m before b r done pass = go r (rw pass at done.says) (rw pass at done.tree)
  where
    go : (s : Result Placed NotPlaced) → placed_says s ≡ value (place_in lists n m before b).placement
        → ancestors (tree_back s) ≡ (place_in lists n m before b).tree → Handed lists new n m before b s
    go (Ok placed) says tree =
        record { placed = placed; is = refl; tree = tree; placement = cc; matrix = rw pass at done.matrix }
    go (Err kept) says tree = cc

-- where a question refuses: the refusal handed back has its number, and the tree and the matrix are as before
pub refusal_leaves : (lists : MatrixLists) (new : List ℤ) (n m : ℕ) (before : List ℕ) (b : ℕ) (r : Result Placed NotPlaced)
    → PlacementDone lists new n m before b r → (refusal : Refusal) → ask_placement lists n m before b ≡ Err refusal
    → (back : NotPlaced)
    × (r ≡ Err back)
    × (refusal_number back.refusal ≡ refusal_number refusal)
    × (ancestors back.tree ≡ before)
    × (new ≡ lists.codes)
unfolding placement_says
refusal_leaves lists new n m before b r done refusal e = go r refl (rw e at done.says) (rw e at done.tree)
  where
    go : (s : Result Placed NotPlaced) → r ≡ s → placed_says s ≡ refused (refusal_number refusal) 0 → ancestors (tree_back s) ≡ before
        → (back : NotPlaced)
        × (r ≡ Err back)
        × (refusal_number back.refusal ≡ refusal_number refusal)
        × (ancestors back.tree ≡ before)
        × (new ≡ lists.codes)
    go (Ok placed) is says tree = cc
    go (Err back) is says tree = (back, is, cc, tree, rw e at done.matrix)
