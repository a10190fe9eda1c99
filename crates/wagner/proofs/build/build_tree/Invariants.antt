-- `wagner::build::build_tree` meets its contract. The loop's invariant: each turn has placed a taxon, and written over states of HTUs alone;
-- and of a lent matrix the build is under way, and what is left of it goes on from here.
use Rattle.std.proofs.Common.{List, length, ◌≡◌, ◌+◌}
use Rattle.matrix_form.specs.Questions.{LentMatrix, LentWeights}
use Rattle.tree_form.specs.declared.placement.Placement.{Placement}
use Rattle.branching.specs.Views.{ancestors}
use Rattle.wagner.proofs.UnderWay.{UnderWay}
use Rattle.wagner.proofs.AnyMatrix.{PlacedIn}
use Rattle.wagner.proofs.build.build_tree.Given as goal
use Rattle.matrix_form.specs.Shape.{matrix_of}

abbrev pub invariant-loop-turn : goal.invariant-loop-turn
invariant-loop-turn l = record {
  order : l.keys.order ≡ l.initial.keys.order;
  placed : PlacedIn l.n l.m l._turn l.initial.matrix l.matrix (ancestors l.built.tree);
  size : length l.matrix ≡ length l.initial.matrix;
  count : l.built.placements.count + 1 ≡ l._turn;
  way : LentMatrix l.initial.matrix l.n l.m → LentWeights l.weights l.m
      → (done : List Placement)
      × UnderWay l.initial.keys.order (matrix_of l.initial.matrix l.weights) l.matrix l.n l.m l.built l.keys.keys l.keys.table done;
}
