-- The placement that is handed back, in the terms of the call: which codes of the matrix it writes, and that it is not refused by the
-- next one.
use mathlib.Core.Path.{◌≡◌, sym, ap, ◌∙◌}
use mathlib.Core.Bool.{true, false, false≢true}
use mathlib.Core.List.{List}
use Prim.Native.Nat.{ℕ, suc, ◌+◌, ◌-◌, ◌≤◌, ◌<◌}
use native.Mathlib.Omega.{arith}
use lib.IntN.{ℤ, pos}
use lib.ListN.{length, get_or}
use Rattle.matrix_form.specs.Shape.{row, row_start, MatrixLists, with_codes}
use Rattle.std.specs.Prelude.{Result, Ok}
use Rattle.branching.specs.declared.placement.Placed.{Placed}
use Rattle.branching.specs.declared.placement.NotPlaced.{NotPlaced}
use Rattle.tree_form.specs.Ancestors.{ancestor}
use Rattle.branching.specs.Views.{ancestors}
use Rattle.tree_form.specs.Nodes.{taxa_placed, Unplaced, last_row}
use Rattle.tree_form.specs.Growing.{row_one_alone}
use Rattle.tree_form.specs.Facts.{Grown, GrowingTree, alone, several}
use Rattle.tree_form.specs.Hanging.{next_htu}
use Rattle.tree_form.specs.Asking.{ask_placement}
use Rattle.tree_form.specs.Placing.{median_row}
use Rattle.branching.specs.Calls.{place_in, matrix_placed, placement_says, tree_back, PlacementDone}
use Rattle.tree_form.proofs.Test.{alone_iff}
use Rattle.tree_form.proofs.Passed.{placement_asked}
use Rattle.branching.proofs.InMatrix.{written_first}
use Rattle.branching.proofs.Standing.{Standing, asked_standing, standing_passes}
use Rattle.branching.proofs.Standing.{placed-size, placed-else, placed_standing, placed-medians}

-- a placement that passed its questions, on a tree with 127 entries
module _ (lists : MatrixLists) (n m : ℕ) (tree : List ℕ) (b : ℕ) (pass : ask_placement lists n m tree b ≡ Ok tt) (sized : length tree
    ≡ 127)
  where
    -- it stands in the matrix
    stands : Standing lists n m (taxa_placed n tree) tree
    stands = asked_standing lists n m tree b (placement_asked lists n m tree b pass) sized

    -- the taxon is not in it
    unplaced : Unplaced n tree b
    unplaced = (placement_asked lists n m tree b pass).unplaced

    -- on row 1 alone nothing is written
    pub alone_writes_nothing : row_one_alone tree ≡ true → matrix_placed lists n m tree b ≡ lists.codes
    alone_writes_nothing e = written_first lists n m tree b ((alone_iff tree).0 e)

    -- on a tree of several taxa the new HTU's row is the one behind the others
    pub htu-next : row_one_alone tree ≡ false → next_htu n tree ≡ suc (last_row n tree)
    unfolding next_htu last_row
    htu-next several-taxa = go stands.growing
      where
        go : {k : ℕ} → GrowingTree n tree k → n + taxa_placed n tree - 1 ≡ suc (n + (taxa_placed n tree - 2))
        go (alone none) = absurd (false≢true (sym several-taxa ∙ (alone_iff tree).1 none))
        go (several g) = omega (arith, g.placed, g.at_least_two)

    -- and its codes for characters 1 to m are the medians of the taxon and of the two ends of its interval
    pub htu-medians : row_one_alone tree ≡ false → row (matrix_placed lists n m tree b) m (next_htu n tree)
        ≡ median_row (row lists.codes m) b (place_in lists n m tree b).placement.lower
        (ancestor tree (place_in lists n m tree b).placement.lower)
    htu-medians several-taxa =
        ap (row (matrix_placed lists n m tree b) m) (htu-next several-taxa)
        ∙ go stands.growing (placed-medians lists n m (taxa_placed n tree) tree stands b unplaced)
      where
        go : {k : ℕ} {A : Type 0} → GrowingTree n tree k → (Grown n k tree → A) → A
        go (alone none) f = absurd (false≢true (sym several-taxa ∙ (alone_iff tree).1 none))
        go (several g) f = f g

    -- no code is changed but those of characters 1 to m of the new HTU: not a column past m, and no other row
    pub placement-else : (j : ℕ) → (row_start (suc (last_row n tree)) ≤ j → j < row_start (suc (last_row n tree)) + m → ⊥)
        → get_or (matrix_placed lists n m tree b) j (pos 0) ≡ get_or lists.codes j (pos 0)
    placement-else = placed-else lists n m (taxa_placed n tree) tree stands b unplaced

    -- the matrix keeps its size
    pub placement-size : length (matrix_placed lists n m tree b) ≡ length lists.codes
    placement-size = placed-size lists n m (taxa_placed n tree) tree stands b unplaced

    -- nothing that is handed back is refused: every taxon that is still unplaced passes the questions of the next placement
    pub placement-again : (v : ℕ) → Unplaced n (place_in lists n m tree b).tree v
        → ask_placement (with_codes lists (matrix_placed lists n m tree b)) n m (place_in lists n m tree b).tree v ≡ Ok tt
    placement-again v u =
        standing_passes (with_codes lists (matrix_placed lists n m tree b)) n m (suc (taxa_placed n tree)) (place_in lists n m tree b).tree
        (placed_standing lists n m (taxa_placed n tree) tree stands b unplaced) v u

-- the same of what the call handed back: tree and matrix pass the questions again
pub handed-again : (lists : MatrixLists) (new : List ℤ) (n m : ℕ) (tree : List ℕ) (b : ℕ) (r : Result Placed NotPlaced) → length tree ≡ 127
    → PlacementDone lists new n m tree b r → ask_placement lists n m tree b ≡ Ok tt
    → (v : ℕ) → Unplaced n (ancestors (tree_back r)) v → ask_placement (with_codes lists new) n m (ancestors (tree_back r)) v ≡ Ok tt
unfolding placement_says
handed-again lists new n m tree b r sized done pass v u =
    let grown = rw pass at done.tree in
    let written = rw pass at done.matrix in
    rw (written, grown) (placement-again lists n m tree b pass sized v (rw grown at u))
