-- `tree_records::lent::with_records` meets its contract. The loop's invariant, over the part of the records that counts: the first are written,
-- the others as before. Assumes nothing.
use mathlib.Core.Path.{◌≡◌}
use Prim.Native.Nat.{◌*◌, ◌-◌, min}
use lib.ListN.{length, take}
use Rattle.lists.specs.Over.{over}
use Rattle.branching.specs.Views.{ancestors}
use Rattle.tree_form.specs.Branches.{branch_records}
use Rattle.tree_records.specs.Lengths.{lengths_by}
use Rattle.tree_records.proofs.lent.with_records.Given as goal

abbrev pub invariant-loop-i : goal.invariant-loop-i
invariant-loop-i l = (length l.record-items ≡ min (2 * l.n - 3) 125)
    × (l.record-items ≡ over 0 (take l.i (branch_records (lengths_by l.lengths) l.n (ancestors l.tree))) l.initial.record-items)
