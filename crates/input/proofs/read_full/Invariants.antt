-- `input::read_full` meets its contract. The loop's invariant: no more bytes are counted than are lent. It ends, since each turn leaves
-- fewer bytes to fill. Assumes nothing.
use Prim.Native.Nat.{◌-◌}
use Rattle.std.proofs.Common.{◌≤◌, length}
use Rattle.input.proofs.read_full.Given as goal

abbrev pub invariant-loop-got : goal.invariant-loop-got
invariant-loop-got g l = l.got ≤ length l.bytes

abbrev pub decreases-loop-got : goal.decreases-loop-got
decreases-loop-got g l = length l.bytes - l.got
