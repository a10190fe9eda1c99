-- What the check leaves of `listing::blocks::put_block`.
use Rattle.lines.proofs.Puts.{left_start, left_end, left_put, left_same, put_then}
use Rattle.listing_form.proofs.InTurn.{next_item, none_left}
use Rattle.listing.proofs.blocks.put_block.Goals as goal

pub loop-thing-init : goal.loop-thing-init
loop-thing-init g c = λ line puts. left_start _ _

pub loop-thing-preserved : goal.loop-thing-preserved
loop-thing-preserved g c = λ line puts.
    left_put
    (left_same (next_item line c.args.things.now c.loop-thing.thing-index _ c.loop-thing-test.true c.thing-item.is) (c.loop-thing.invariant line puts))
    (puts _ _ _ _ c.put.ensures)

pub returns : goal.returns
returns g c = λ line puts.
    put_then
    (left_end (left_same (none_left line c.args.things.now _ c.loop-thing-test.false) (c.loop-thing.invariant line puts)))
    c.put_total_line.ensures
