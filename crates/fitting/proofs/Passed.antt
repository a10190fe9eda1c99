-- What passed questions tell of a lent branching: the matrix is lent, and the tree that the records give is a branching.
use Rattle.std.proofs.Common.{Ok, ◌≡◌, ℕ, true, eqb, List, length, ℤ, sym, ap, ◌∙◌}
use mathlib.Core.Bool.{and-eq-true_iff}
use Rattle.matrix_form.specs.Spans.{spans_of}
use Rattle.matrix_form.specs.Outcomes.{value}
use Rattle.difference_form.specs.Rows.{weighing}
use Rattle.matrix_form.specs.Questions.{LentMatrix, LentWeights, ask_matrix}
use Rattle.matrix_form.specs.declared.refusal.Refusal.TheVariants.{ListSize, NotBranching}
use Rattle.matrix_form.proofs.Passing.{ask_passed, matrix_passes}
use Rattle.matrix_form.proofs.Each.{and_then_passed}
use Rattle.tree_form.specs.declared.branch.Branch.{Branch}
use Rattle.tree_form.specs.Growing.{branching}
use Rattle.tree_form.specs.Within.{branching_within}
use Rattle.tree_form.specs.Branches.{lent_branching, named_in_order, ancestors_of}
use Rattle.tree_form.specs.Asking.{ask_branching, branches_size}
use Rattle.tree_form.proofs.Lending.{lent-within}
use Rattle.fit_form.specs.Fit.{fitted_total}
use Rattle.fit_form.specs.Calls.{total_answer}
use Rattle.fitting.specs.Costs.{TotalOf}
use Rattle.matrix_form.specs.Shape.{MatrixLists}

-- records that are a branching of at most 64 taxa give a tree that is one
pub size-branching : (codes : List ℤ) (n m : ℕ) (records : List Branch) → LentMatrix codes n m → lent_branching n records ≡ true
    → branching_within n (ancestors_of n records) ≡ true
size-branching codes n m records lent e =
    ((and-eq-true_iff (named_in_order n records) (branching_within n (ancestors_of n records))).0 (sym (lent-within n records lent.taxa) ∙ e)).1

-- the tree that they give is a branching, as a test
pub lent_test : (n : ℕ) (records : List Branch) → lent_branching n records ≡ true → branching n (ancestors_of n records) ≡ true
unfolding lent_branching
lent_test n records e = ((and-eq-true_iff (named_in_order n records) (branching n (ancestors_of n records))).0 e).1

-- the two questions that have passed
both_passed : (lists : MatrixLists) (n m : ℕ) (records : List Branch) → ask_branching lists n m records ≡ Ok tt
    → (ask_matrix lists n m ≡ Ok tt) × (lent_branching n records ≡ true)
unfolding ask_branching
both_passed lists n m records e =
    let size = ask_passed (eqb (length records) branches_size) ListSize _ e in
    let both = and_then_passed (ask_matrix lists n m) _ size.1 in
    (both.0, (ask_passed (lent_branching n records) NotBranching (Ok tt) both.1).0)

-- what passed questions tell of the records
pub records_passed : (lists : MatrixLists) (n m : ℕ) (records : List Branch) → ask_branching lists n m records ≡ Ok tt
    → lent_branching n records ≡ true
records_passed lists n m records e = (both_passed lists n m records e).1

-- what passed questions tell
pub branching_passed : (lists : MatrixLists) (n m : ℕ) (records : List Branch) → ask_branching lists n m records ≡ Ok tt
    → LentMatrix lists.codes n m × LentWeights lists.weights m × (branching_within n (ancestors_of n records) ≡ true)
branching_passed lists n m records e =
    let both = both_passed lists n m records e in
    let lent = (matrix_passes lists n m).0 both.0 in
    (lent.0, lent.1, size-branching lists.codes n m records lent.0 both.1)

-- what is found of a lent branching that no question refuses is its fitted total
pub total-is : (lists : MatrixLists) (n m : ℕ) (records : List Branch) (tree : List ℕ) (r : ℕ)
    → ask_branching lists n m records ≡ Ok tt → tree ≡ ancestors_of n records → TotalOf lists n m tree r
    → r ≡ fitted_total (weighing lists.weights).step (ancestors_of n records) (spans_of lists m n) n m
total-is lists n m records tree r e is of =
    let passed = branching_passed lists n m records e in
    of.costs.is (rw is passed.2) passed.0 passed.1
    ∙ ap (λ given. fitted_total (weighing lists.weights).step given (spans_of lists m n) n m) is

-- so the call for it answers that
pub total_passed : (lists : MatrixLists) (n m : ℕ) (records : List Branch) (tree : List ℕ) (r : ℕ)
    → ask_branching lists n m records ≡ Ok tt → tree ≡ ancestors_of n records → TotalOf lists n m tree r
    → value r ≡ total_answer lists n m records
unfolding total_answer
total_passed lists n m records tree r e is of = rw (e, total-is lists n m records tree r e is of)
