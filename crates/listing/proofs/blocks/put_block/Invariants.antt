-- `listing::blocks::put_block` meets its contract. The loop's invariant: the lines from place `thing-index` on are still to be put.
-- Assumes nothing.
use mathlib.Core.List.{List, flat_map}
use Prim.Native.Nat.{ℕ}
use lib.ListN.{drop}
use Rattle.lines.proofs.Puts.{Left}
use Rattle.listing.specs.Handed.{PutsLine}
use Rattle.listing.proofs.blocks.put_block.Given as goal

abbrev pub invariant-loop-thing : goal.invariant-loop-thing
invariant-loop-thing g l =
    (line : _ → List ℕ) → PutsLine (goal.F-post g l.put) line
    → Left (flat_map line l.things) l.initial.listing (flat_map line (drop l.thing-index l.things)) l.listing
