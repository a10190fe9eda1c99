-- `listing::blocks::Legend::put_state_lines` meets its contract. The loop's invariant: the lines from node v on are still to be put.
-- Assumes nothing.
use mathlib.Core.List.{flat_map}
use Prim.Native.Nat.{◌-◌}
use Rattle.lists.specs.Numbers.{numbers}
use Rattle.lines.specs.Fields.{names_of}
use Rattle.lines.proofs.Puts.{Left}
use Rattle.listing.specs.Handed.{node_texts}
use Rattle.listing.proofs.blocks.Legend.put_state_lines.Given as goal
use Rattle.tree_form.specs.Nodes.{htus}

abbrev pub invariant-loop-v : goal.invariant-loop-v
invariant-loop-v l =
    let n = l.self.names.n in
    let text = node_texts n (names_of l.self.names) l.self.ranges.now l.self.m in
    Left (flat_map text (htus n)) l.initial.listing (flat_map text (numbers l.v (l.v-end - l.v))) l.listing
