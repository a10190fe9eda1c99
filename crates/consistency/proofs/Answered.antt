-- What the calls answer once their questions have passed.
use mathlib.Core.Path.{◌≡◌, ap, ap₂, ◌∙◌}
use mathlib.Core.List.{List}
use Prim.Native.Nat.{ℕ, ◌<◌}
use Rattle.std.proofs.Common.{Option, Ok}
use native.Mathlib.Omega.{arith}
use Rattle.matrix_form.specs.Outcomes.{value}
use Rattle.matrix_form.specs.Questions.{ask_matrix}
use Rattle.matrix_form.proofs.Passing.{matrix_passed}
use Rattle.matrix_form.proofs.Limits.{many-unshaped}
use lib.ListN.{length}
use Rattle.tree_form.specs.declared.branch.Branch.{Branch}
use Rattle.tree_form.specs.Branches.{ancestors_of}
use Rattle.tree_form.specs.Asking.{ask_branching}
use Rattle.fitting.specs.Costs.{TotalOf}
use Rattle.fitting.proofs.Passed.{branching_passed, total-is}
use Rattle.consistency_form.specs.Index.{index}
use Rattle.consistency_form.specs.Calls.{floor_answer, index_answer}
use Rattle.consistency.specs.Steps.{FloorOf}
use Rattle.consistency.specs.Steps.{IndexOf}
use Rattle.consistency_form.specs.declared.index.Index.{Index}
use Rattle.consistency.proofs.Columns.{floor-most}
use Rattle.matrix_form.specs.Shape.{MatrixLists}

-- the floor of a lent matrix that no question refuses
pub floor_passed : (lists : MatrixLists) (n m r : ℕ) → ask_matrix lists n m ≡ Ok tt → FloorOf lists n m r
    → value r ≡ floor_answer lists n m
unfolding floor_answer
floor_passed lists n m r e of = rw (e, of.is (matrix_passed lists n m e))

-- the index of a lent branching that no question refuses
pub index_passed : (lists : MatrixLists) (n m : ℕ) (records : List Branch) (tree : List ℕ) (f t : ℕ) (r : Option Index)
    → ask_branching lists n m records ≡ Ok tt → tree ≡ ancestors_of n records → FloorOf lists n m f
    → TotalOf lists n m tree t → IndexOf f t r → value r ≡ index_answer lists n m records
unfolding index_answer
index_passed lists n m records tree f t r e is floor total index_of =
    let passed = branching_passed lists n m records e in
    let found = floor.is passed.0 in
    rw e
    (ap value
    (index_of.is (omega (arith, found, floor-most lists n m passed.0 passed.1))
    ∙ ap₂ index found (total-is lists n m records tree t e is total)))

-- for more than 64 taxa nothing is counted
pub many-uncounted : (lists : MatrixLists) (n m r : ℕ) → FloorOf lists n m r → 64 < n → r ≡ 0
many-uncounted lists n m r of more = of.unshaped (many-unshaped (length lists.codes) n m more)
