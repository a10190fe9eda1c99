-- `tree_records::lent::tree_of` meets its contract. The loop's invariant: the first entries are read, the others hold 0. Assumes nothing.
use mathlib.Core.Path.{◌≡◌}
use Prim.Native.Nat.{◌*◌, ◌-◌, min}
use Rattle.tree_form.proofs.Lending.{ancestors_to}
use Rattle.tree_records.proofs.lent.tree_of.Given as goal

abbrev pub invariant-loop-i : goal.invariant-loop-i
invariant-loop-i l = (l.i-end ≡ min (2 * l.n - 3) 125) × (l.above ≡ ancestors_to l.i l.records)
