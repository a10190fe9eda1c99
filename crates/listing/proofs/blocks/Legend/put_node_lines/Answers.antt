-- What the check leaves of `listing::blocks::Legend::put_node_lines`.
use mathlib.Core.Path.{sym, ap}
use Rattle.matrix_form.specs.Shape.{state_at}
use Rattle.lists.specs.Numbers.{numbers}
use Rattle.fit_form.specs.declared.characters.States.{States}
use Rattle.listing_form.specs.Kinds.{state_line}
use Rattle.listing_form.specs.Blocks.{state_line_of, node_lines}
use Rattle.listing_form.proofs.Joined.{joined-map}
use Rattle.lines.specs.Fields.{names_of}
use Rattle.lines.proofs.Puts.{left_start, left_end, left_put, left_same, put_same}
use Rattle.listing.specs.Handed.{node_texts}
use Rattle.listing.proofs.BlockTexts.{from-one}
use Rattle.listing_form.proofs.InTurn.{next_of, none_of}
use Rattle.listing.proofs.blocks.Legend.put_node_lines.Goals as goal

pub loop-j-init : goal.loop-j-init
loop-j-init c = left_same (from-one _ _) (left_start _ _)

pub loop-j-preserved : goal.loop-j-preserved
unfolding state_line_of
loop-j-preserved c =
    let given = c.args in
    let states = given.self.now.ranges.now in
    let names = names_of given.self.now.names in
    let n = given.self.now.names.n in
    let line = state_line_of n names (state_at states.low) (state_at states.high) (state_at states.chosen) given.v in
    left_put (left_same (next_of line _ _ c.loop-j-test.true) c.loop-j.invariant)
    (put_same
    (ap (λ (of : States). state_line n names given.v c.loop-j.j of.low of.high of.chosen) c.states.ensures)
    c.put_state_line.ensures)

pub returns : goal.returns
unfolding node_texts node_lines
returns c =
    let given = c.args in
    let states = given.self.now.ranges.now in
    let names = given.self.now.names in
    let line = state_line_of names.n (names_of names) (state_at states.low) (state_at states.high) (state_at states.chosen) given.v in
    put_same (sym (joined-map line (numbers 1 given.self.now.m)))
    (left_end (left_same (none_of line _ _ c.loop-j-test.false) c.loop-j.invariant))
