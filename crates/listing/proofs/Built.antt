-- From contract to claim: what the claim about rivals says of the tree and the matrix that a placement or a build handed back.
use mathlib.Core.Path.{◌≡◌, sym, ap, ap₂, ◌∙◌}
use mathlib.Core.Bool.{true, false}
use mathlib.Core.List.{List, ◌++◌}
use Prim.Native.Nat.{ℕ, ◌+◌, ◌-◌}
use lib.IntN.{ℤ}
use lib.ListN.{length, take, drop}
use lib.Seq.{drop_at}
use Rattle.matrix_form.proofs.NodeRows.{length-rows_of}
use Rattle.std.specs.Prelude.{Ok}
use Rattle.lists.proofs.Filled.{filled-first}
use Rattle.matrix_form.specs.NodeRows.{rows_of}
use Rattle.matrix_form.specs.Outcomes.{value}
use Rattle.matrix_form.proofs.Passing.{matrix_passed}
use Rattle.difference_form.specs.Rows.{difference}
use Rattle.tree_form.specs.declared.placement.Placement.{Placement}
use Rattle.branching.specs.declared.placement.Placed.{Placed}
use Rattle.branching.specs.Views.{ancestors}
use Rattle.tree_form.specs.Nodes.{taxa_placed, last_row}
use Rattle.tree_form.specs.Growing.{branching, row_one_alone}
use Rattle.tree_form.specs.Asking.{ask_placement}
use Rattle.tree_form.specs.Placing.{AfterPlacing}
use Rattle.branching.specs.Calls.{place_in, matrix_placed, placement_says, PlacementDone}
use Rattle.tree_form.specs.Rival.{PlacementIsLeast}
use Rattle.tree_form.specs.Placing.{no_placement}
use Rattle.tree_form.proofs.Passed.{placement_asked}
use Rattle.branching.proofs.Standing.{asked_standing, placed-rows}
use Rattle.wagner.specs.declared.answer.WagnerTree.{WagnerTree}
use Rattle.tree_form.specs.declared.order.Order.{Order}
use Rattle.wagner_form.specs.Build.{Built}
use Rattle.wagner.specs.Calls.{BuiltFrom}
use Rattle.wagner_form.specs.Matrix.{wagner_in}
use Rattle.wagner_form.proofs.Matrix.{after_rows}
use Rattle.wagner.proofs.Lengths.{ours_sound, ours_room}
use Rattle.rivals.specs.Accepted.{matrix_lent}
use Rattle.rivals.specs.Demand.{BuildIsLeast}
use Rattle.rivals.proofs.Demand.{no_rival}
use Rattle.rivals.proofs.Lent.{placement-lent}
use Rattle.matrix_form.specs.Shape.{MatrixLists}

-- what a placement on a tree handed back: the tree, in the matrix the rows behind those of the nodes that were there, and what was done
abbrev pub handed_back : List ℤ → ℕ → ℕ → List ℕ → Placed → AfterPlacing
handed_back new n m before r = record {
  tree = ancestors r.tree;
  made = drop (last_row n before) (rows_of new m (last_row n (ancestors r.tree)));
  placement = r.placement;
}

-- a placement that passed its questions, on a tree with 127 entries that is not row 1 alone
module _ (lists : MatrixLists) (new : List ℤ) (n m : ℕ) (tree : List ℕ) (b : ℕ) (r : Placed)
    (done : PlacementDone lists new n m tree b (Ok r))
    (pass : ask_placement lists n m tree b ≡ Ok tt) (sized : length tree ≡ 127) where
  -- it is ours
  handed-placement : handed_back new n m tree r ≡ place_in lists n m tree b
  unfolding placement_says
  handed-placement =
      let asked = placement_asked lists n m tree b pass in
      let stands = asked_standing lists n m tree b asked sized in
      let grown : ancestors r.tree ≡ (place_in lists n m tree b).tree = rw pass at done.tree in
      let says : value r.placement ≡ value (place_in lists n m tree b).placement = rw pass at done.says in
      let what : r.placement ≡ (place_in lists n m tree b).placement = cc in
      let held : new ≡ matrix_placed lists n m tree b = rw pass at done.matrix in
      let rows = placed-rows lists n m (taxa_placed n tree) tree stands b asked.unplaced in
      let last = last_row n tree in
      let behind = drop_at (rows_of lists.codes m last) (place_in lists n m tree b).made last (length-rows_of lists.codes m last) in
      rw (grown, what, held, rows, behind)

  -- in the matrix that came back the rows of the nodes that were there are as they were, and behind them stands what was made
  pub handed-rows : rows_of new m (last_row n (ancestors r.tree))
      ≡ rows_of lists.codes m (last_row n tree) ++ (handed_back new n m tree r).made
  unfolding placement_says
  handed-rows =
      let asked = placement_asked lists n m tree b pass in
      let stands = asked_standing lists n m tree b asked sized in
      let grown : ancestors r.tree ≡ (place_in lists n m tree b).tree = rw pass at done.tree in
      let held : new ≡ matrix_placed lists n m tree b = rw pass at done.matrix in
      ap₂ (λ (all : List ℤ) (grown : List ℕ). rows_of all m (last_row n grown)) held grown
      ∙ placed-rows lists n m (taxa_placed n tree) tree stands b asked.unplaced
      ∙ ap (λ (after : AfterPlacing). rows_of lists.codes m (last_row n tree) ++ after.made) (sym handed-placement)

  -- no hanging of the taxon, on any interval and through an HTU with any codes, adds less
  pub handed-least : row_one_alone tree ≡ false
      → PlacementIsLeast (difference lists.weights) n m tree (rows_of lists.codes m (last_row n tree)) b (handed_back new n m tree r)
  unfolding place_in
  handed-least several =
      rw handed-placement (placement-lent lists n m tree b (placement_asked lists n m tree b pass) sized several)

-- what a build handed back: the tree, the rows of all its nodes in the matrix, and the first `count` placements
abbrev pub built_back : List ℤ → ℕ → ℕ → WagnerTree → Built
built_back new n m r =
    record { tree = ancestors r.tree; rows = rows_of new m (n + (n - 2)); placements = take r.placements.count r.placements.items }

-- a build that no question refuses
module _ (order : Order) (lists : MatrixLists) (new : List ℤ) (n m : ℕ) (r : WagnerTree)
    (done : BuiltFrom order lists new n m r) where
  -- it is ours
  built-ours : built_back new n m r ≡ wagner_in order lists n m
  built-ours =
      let lent = matrix_passed lists n m done.passed in
      let rows : rows_of new m (n + (n - 2)) ≡ (wagner_in order lists n m).rows =
      ap (λ (all : List ℤ). rows_of all m (n + (n - 2))) done.matrix
      ∙ after_rows (difference lists.weights) lists.codes n m lent.characters (ours_room order lists n m lent) (wagner_in order lists n m)
      (ours_sound order lists n m lent) in
      let first : take r.placements.count r.placements.items ≡ (wagner_in order lists n m).placements =
      ap (take r.placements.count) done.placements
      ∙ filled-first no_placement 63 r.placements.count (wagner_in order lists n m).placements done.count in
      ap₂ (λ (tree : List ℕ) (all : List (List ℤ)). record {
        tree = tree;
        rows = all;
        placements = take r.placements.count r.placements.items;
      }) done.tree rows
      ∙ ap (λ (list : List Placement). record {
        tree = (wagner_in order lists n m).tree;
        rows = (wagner_in order lists n m).rows;
        placements = list;
      }) first

  -- each of its placements is least
  pub built-least : BuildIsLeast order (difference lists.weights) n m (rows_of lists.codes m n) (built_back new n m r)
  built-least = rw built-ours (unfold wagner_in in (no_rival n m lists.weights (rows_of lists.codes m n) (matrix_lent lists n m
      done.passed)).build order)

  -- and its tree is a branching of all taxa
  pub built-whole : branching n (ancestors r.tree) ≡ true
  built-whole =
      rw (ap (λ (built : Built). built.tree) built-ours)
      (unfold wagner_in in (no_rival n m lists.weights (rows_of lists.codes m n) (matrix_lent lists n m done.passed)).whole order)
