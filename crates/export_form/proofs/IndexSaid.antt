-- What of the lent list of numbers the exported call for an index goes by.
use mathlib.Core.Path.{◌≡◌}
use mathlib.Core.List.{List}
use Prim.Native.Nat.{ℕ}
use lib.ListN.{length}
use Rattle.tree_form.specs.Asking.{ask_branching}
use Rattle.lists.specs.Filled.{filled}
use Rattle.tree_form.specs.Branches.{branches_read, ancestors_of, named_in_order, lent_branching}
use Rattle.tree_form.specs.LentNumbers.{records_in}
use Rattle.tree_form.proofs.LentNumbers.{length-records_in}
use Rattle.consistency_form.specs.Calls.{index_answer}
use Rattle.export_form.specs.Calls.{index_exported}
use Rattle.matrix_form.specs.Shape.{MatrixLists}

-- two lists of one size whose first 2n-3 records name the same nodes and ancestors bring the same answer, whatever else they hold
pub first-records : (lists : MatrixLists) (n m : ℕ) (lent other : List ℕ) → length lent ≡ length other
    → branches_read n (records_in lent) ≡ branches_read n (records_in other)
    → index_exported lists n m lent ≡ index_exported lists n m other
unfolding index_exported index_answer ask_branching lent_branching named_in_order ancestors_of filled
first-records lists n m lent other size same = rw (size, length-records_in lent, length-records_in other, same)
