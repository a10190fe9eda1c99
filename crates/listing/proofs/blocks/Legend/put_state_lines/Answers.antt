-- What the check leaves of `listing::blocks::Legend::put_state_lines`.
use mathlib.Core.Path.{sym}
use Rattle.matrix_form.specs.Shape.{state_at}
use Rattle.listing_form.specs.Blocks.{node_lines, state_lines}
use Rattle.listing_form.proofs.Joined.{joined-each}
use Rattle.lines.specs.Fields.{names_of}
use Rattle.lines.proofs.Puts.{left_start, left_end, left_put, left_same, put_same}
use Rattle.listing.specs.Handed.{node_texts, state_texts}
use Rattle.listing.proofs.BlockTexts.{from-htu}
use Rattle.listing_form.proofs.InTurn.{next_of, none_of}
use Rattle.listing.proofs.blocks.Legend.put_state_lines.Goals as goal
use Rattle.tree_form.specs.Nodes.{htus}

pub loop-v-init : goal.loop-v-init
loop-v-init c = left_same (from-htu _ _) (left_start _ _)

pub loop-v-preserved : goal.loop-v-preserved
loop-v-preserved c =
    left_put (left_same (next_of (node_texts _ _ _ _) _ _ c.loop-v-test.true) c.loop-v.invariant) c.put_node_lines.ensures

pub returns : goal.returns
unfolding state_texts state_lines node_texts
returns c =
    let n = c.args.self.now.names.n in
    let names = names_of c.args.self.now.names in
    let states = c.args.self.now.ranges.now in
    let m = c.args.self.now.m in
    let lines = node_lines n names (state_at states.low) (state_at states.high) (state_at states.chosen) m in
    put_same (sym (joined-each lines (htus n)))
    (left_end (left_same (none_of (node_texts n names states m) _ _ c.loop-v-test.false) c.loop-v.invariant))
