-- `listing::blocks::Legend::put_node_lines` meets its contract. The loop's invariant: the lines from character j on are still to be put.
-- Assumes nothing.
use mathlib.Core.List.{flat_map}
use Prim.Native.Nat.{◌-◌}
use Rattle.lists.specs.Numbers.{numbers}
use Rattle.matrix_form.specs.Shape.{state_at}
use Rattle.listing_form.specs.Blocks.{state_line_of}
use Rattle.lines.specs.Fields.{names_of}
use Rattle.lines.proofs.Puts.{Left}
use Rattle.listing.proofs.blocks.Legend.put_node_lines.Given as goal

abbrev pub invariant-loop-j : goal.invariant-loop-j
invariant-loop-j l =
    let states = l.self.ranges.now in
    let names = l.self.names in
    let line = state_line_of names.n (names_of names) (state_at states.low) (state_at states.high) (state_at states.chosen) l.v in
    Left (flat_map line (numbers 1 l.self.m)) l.initial.listing (flat_map line (numbers l.j (l.j-end - l.j))) l.listing
