-- `wagner::closeness::Made::keep_three` meets its contract: each of the three entries is written, where there is one.
use Rattle.std.proofs.Common.{rules, arith, ◌≡◌, refl}
use Rattle.tree_form.specs.Placing.{from_interval}
use Rattle.wagner.proofs.Renewing.{three_kept, written_more, written_past}
use Rattle.wagner.proofs.closeness.Made.keep_three.Goals.{then-c-lt-TREE_SIZE, else-c-lt-TREE_SIZE}
use Rattle.wagner.proofs.closeness.Made.keep_three.Goals as goal

pub loop-c-preserved : goal.loop-c-preserved
unfolding from_interval
loop-c-preserved c = record {
  nodes = refl;
  written = elim c.if-c-lt-TREE_SIZE.branch [
    | then-c-lt-TREE_SIZE w ↦
        rw w.differences-is
        (written_more _ _ _ _ _ _ _ _ _ _ refl c.loop-c.invariant.written (search rules)
        (rw w.ancestor.ensures at w.interval_difference.ensures))
    | else-c-lt-TREE_SIZE w ↦ rw w.differences-is (written_past _ _ _ _ _ _ _ _ _ refl c.loop-c.invariant.written (omega (arith, w.if-c-lt-TREE_SIZE.false)))
  ];
}

pub returns : goal.returns
returns c =
    let all : c.loop-c.c-index ≡ 3 = omega arith in
    three_kept _ _ _ _ _ _ _ (rw all at c.loop-c.invariant.written)
