-- `difference::rows::write_medians` meets its contract. The loop's invariant: the medians of the characters passed stand over the front of
-- the list.
use mathlib.Core.Path.{◌≡◌}
use lib.ListN.{take}
use Rattle.lists.specs.Over.{over}
use Rattle.difference_form.specs.Rows.{medians}
use Rattle.difference.proofs.rows.write_medians.Given as goal

abbrev pub invariant-loop-j : goal.invariant-loop-j
invariant-loop-j l = l.out ≡ over 0 (medians (take l.j l.xs) (take l.j l.ys) (take l.j l.zs)) l.initial.out
