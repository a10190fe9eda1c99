-- `listing::blocks::Legend::put_fitted_block` meets its contract. The loop's invariant: the lines from node v on are still to be put.
-- Assumes nothing.
use mathlib.Core.List.{flat_map}
use Prim.Native.Nat.{◌-◌, ◌≤◌}
use Rattle.lists.specs.Numbers.{numbers}
use Rattle.branching.specs.Views.{ancestors}
use Rattle.tree_form.specs.Nodes.{other_nodes}
use Rattle.listing_form.specs.Blocks.{fitted_line}
use Rattle.lines.specs.Fields.{names_of}
use Rattle.lines.proofs.Puts.{Left}
use Rattle.listing.specs.Handed.{length_in, mark_in}
use Rattle.listing.proofs.blocks.Legend.put_fitted_block.Given as goal

abbrev pub invariant-loop-v : goal.invariant-loop-v
invariant-loop-v l =
    let line = fitted_line l.self.names.n (names_of l.self.names) (ancestors l.tree) (length_in l.fit) (mark_in l.fit) in
    (l.v-end ≤ 127)
    × Left (flat_map line (other_nodes l.self.names.n)) l.initial.listing (flat_map line (numbers l.v (l.v-end - l.v))) l.listing
