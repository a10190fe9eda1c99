-- The fit of a tree put together from what is written and from its branches; and when the matrix and its lists have their shape.
use Rattle.std.proofs.Common.{◌≡◌, ℕ, ◌-◌, ◌*◌, ◌^◌, ◌<◌, ◌≤◌, true, false, eqb, List, length, ℤ, sym, refl, ap, ◌∙◌, true≢false, arith, eq-eqb, eqb-true}
use mathlib.Core.Bool.{and-eq-true_iff}
use Rattle.lists.specs.Sums.{sum_over}
use Rattle.lists.specs.Numbers.{numbers}
use Rattle.lists.proofs.Numbers.{numbers-within, length-numbers}
use Rattle.lists.proofs.Sums.{sum_same, sum_most}
use Rattle.matrix_form.specs.Shape.{matrix_size, last_node, MatrixLists}
use Rattle.matrix_form.specs.Spans.{spans_of}
use Rattle.matrix_form.proofs.NodeRows.{none-written}
use Rattle.matrix_form.specs.Questions.{LentMatrix, LentWeights, matrix_shaped}
use Rattle.matrix_form.proofs.Limits.{lent_shaped}
use Rattle.matrix_form.proofs.Passing.{true-one_to}
use Rattle.difference_form.specs.Rows.{most_difference, weighing}
use Rattle.tree_form.specs.Nodes.{other_nodes}
use Rattle.tree_form.specs.Within.{branching_within}
use Rattle.fit_form.specs.Fit.{fitted_length, fitted_total}
use Rattle.fit_form.specs.Calls.{branch_at, lists_full, FitOf}
use Rattle.fitting.specs.Lists.{TreeFitted}
use Rattle.fitting.specs.Lists.{Written, SumOf, StatesOf, all_shaped, node_shaped, no_fit, no_states}
use Rattle.fit_form.specs.declared.characters.States.{States}
use Rattle.fit_form.specs.declared.whole.BranchFit.{BranchFit}
use Rattle.fit_form.specs.declared.whole.Fit.{Fit}
use Rattle.fit_form.proofs.Matrix.Totals.{lengths-total}
use Rattle.fit_passes.proofs.Pass.Standing.{taxa-most}
use Rattle.fitting.proofs.Gathering.{length_most}

-- three lists of the matrix's size
pub sizes : (low high chosen : ℕ) → lists_full low high chosen ≡ true → (low ≡ matrix_size) × (high ≡ matrix_size) × (chosen ≡ matrix_size)
unfolding lists_full
sizes low high chosen e =
    let a = (and-eq-true_iff (eqb low matrix_size) _).0 e in
    let b = (and-eq-true_iff (eqb high matrix_size) (eqb chosen matrix_size)).0 a.1 in
    (eqb-true low matrix_size a.0, eqb-true high matrix_size b.0, eqb-true chosen matrix_size b.1)

-- they pass the test
full_lists : (low high chosen : ℕ) → low ≡ matrix_size → high ≡ matrix_size → chosen ≡ matrix_size → lists_full low high chosen ≡ true
unfolding lists_full
full_lists low high chosen l h c = rw (eq-eqb low matrix_size l, eq-eqb high matrix_size h, eq-eqb chosen matrix_size c)

-- where both tests pass, all shapes are right
pub both-shaped : (codes : List ℤ) (n m : ℕ) (low high chosen : List ℤ) → matrix_shaped (length codes) n m ≡ true
    → lists_full (length low) (length high) (length chosen) ≡ true → all_shaped codes n m low high chosen ≡ true
unfolding all_shaped
both-shaped codes n m low high chosen right full = rw (right, full) refl

-- a lent matrix and lists of the matrix's size have their shapes
lent-all_shaped : (codes : List ℤ) (n m : ℕ) (low high chosen : List ℤ) → LentMatrix codes n m → length low ≡ matrix_size
    → length high ≡ matrix_size → length chosen ≡ matrix_size → all_shaped codes n m low high chosen ≡ true
lent-all_shaped codes n m low high chosen lent l h c =
    both-shaped codes n m low high chosen (lent_shaped codes n m lent) (full_lists _ _ _ l h c)

-- where that of the matrix fails, they are not
pub matrix-unshaped : (codes : List ℤ) (n m : ℕ) (low high chosen : List ℤ) → matrix_shaped (length codes) n m ≡ false
    → all_shaped codes n m low high chosen ≡ false
unfolding all_shaped
matrix-unshaped codes n m low high chosen wrong = rw wrong refl

-- nor where that of the lists fails
pub lists-unshaped : (codes : List ℤ) (n m : ℕ) (low high chosen : List ℤ) → matrix_shaped (length codes) n m ≡ true
    → lists_full (length low) (length high) (length chosen) ≡ false → all_shaped codes n m low high chosen ≡ false
unfolding all_shaped
lists-unshaped codes n m low high chosen right short = rw (right, short) refl

-- where a shape fails, lists left as they were and the fit of no branch are what a tree's fit promises
pub not_fitted : (lists : MatrixLists) (n m : ℕ) (tree : List ℕ) (low high chosen : List ℤ) (fit : Fit)
    → all_shaped lists.codes n m low high chosen ≡ false → fit ≡ no_fit → TreeFitted lists n m tree low low high high chosen chosen fit
not_fitted lists n m tree low high chosen fit e none = record {
  fitted = λ branches lent weighed l h c. absurd (true≢false (sym (lent-all_shaped lists.codes n m low high chosen lent l h c) ∙ e));
  only = (none-written n m low, none-written n m high, none-written n m chosen);
  unshaped = λ f. (refl, refl, refl, none);
}

-- of a lent matrix, nodes and characters that exist pass the test
lent-node_shaped : (codes : List ℤ) (n m v j : ℕ) → LentMatrix codes n m → 1 ≤ v → v ≤ last_node n → 1 ≤ j → j ≤ m
    → node_shaped codes n m v j ≡ true
unfolding node_shaped
lent-node_shaped codes n m v j lent p q l h =
    rw (lent_shaped codes n m lent, true-one_to m j l h, true-one_to (last_node n) v p q)

-- where they do not, zeros are what the states of a node promise
pub not_found : (lists : MatrixLists) (n m : ℕ) (tree : List ℕ) (v j : ℕ) (r : States) → node_shaped lists.codes n m v j ≡ false → r ≡ no_states
    → StatesOf lists n m tree v j r
not_found lists n m tree v j r e none = record {
  are = λ branches lent p q l h. absurd (true≢false (sym (lent-node_shaped lists.codes n m v j lent p q l h) ∙ e));
  unshaped = λ f. none;
}

-- the fit of a tree from what is written and from its branches
pub tree-fitted : (lists : MatrixLists) (n m : ℕ) (tree : List ℕ) (low low' high high' chosen chosen' : List ℤ) (branches : List BranchFit)
    (total : ℕ) → all_shaped lists.codes n m low high chosen ≡ true
    → Written lists n m m tree low low' high high' chosen chosen' branches → SumOf n branches total
    → TreeFitted lists n m tree low low' high high' chosen chosen' (record { branches = branches; total = total })
tree-fitted lists n m tree low low' high high' chosen chosen' branches total all written sum = record {
  fitted = λ whole lent weighed l h c.
      (fits whole lent weighed, written.is_low whole lent, written.is_high whole lent, written.is_chosen whole lent);
  only = written.only;
  unshaped = λ f. absurd (true≢false (sym all ∙ f));
}
  where
    each : branching_within n tree ≡ true → LentMatrix lists.codes n m → LentWeights lists.weights m → (v : ℕ) → 2 ≤ v → v ≤ 2 * n - 2
        → (branch_at branches v).length ≡ fitted_length (weighing lists.weights).step tree (spans_of lists m n) n m v
    each whole lent weighed v l h = ap (λ (b : BranchFit). b.length) (written.are whole lent weighed v l h)

    sums : branching_within n tree ≡ true → LentMatrix lists.codes n m → LentWeights lists.weights m
        → sum_over (λ v. (branch_at branches v).length) (other_nodes n)
        ≡ fitted_total (weighing lists.weights).step tree (spans_of lists m n) n m
    sums whole lent weighed = unfold other_nodes in
        sum_same (λ v. (branch_at branches v).length) (fitted_length (weighing lists.weights).step tree (spans_of lists m n) n m)
        (numbers 2 (2 * n - 3))
        (λ v i. let w = numbers-within 2 (2 * n - 3) v i in each whole lent weighed v w.0 (omega (arith, w.0, w.1)))
        ∙ lengths-total (weighing lists.weights).step n m tree (spans_of lists m n)

    small : branching_within n tree ≡ true → LentMatrix lists.codes n m → LentWeights lists.weights m
        → sum_over (λ v. (branch_at branches v).length) (other_nodes n) < 2 ^ 64
    small whole lent weighed = unfold other_nodes in
        let most = sum_most (λ v. (branch_at branches v).length) most_difference (numbers 2 (2 * n - 3))
        (λ v i.
        let w = numbers-within 2 (2 * n - 3) v i in
        let last : v ≤ 2 * n - 2 = omega (arith, w.0, w.1) in
        let wide = lent.characters in
        omega (arith, each whole lent weighed v w.0 last, length_most lists n m tree whole lent weighed v w.0 last m (omega arith))) in
        let few = taxa-most n tree whole in
        omega (arith, most, length-numbers 2 (2 * n - 3))

    fits : branching_within n tree ≡ true → LentMatrix lists.codes n m → LentWeights lists.weights m
        → FitOf (weighing lists.weights).step tree (spans_of lists m n) n m (record { branches = branches; total = total })
    fits whole lent weighed = record {
      lengths = λ v l h. each whole lent weighed v l h;
      no_length = λ v out. ap (λ (b : BranchFit). b.length) (written.no_others v out);
      marks = λ v l h. ap (λ (b : BranchFit). b.mark) (written.are whole lent weighed v l h);
      no_mark = λ v out. ap (λ (b : BranchFit). b.mark) (written.no_others v out);
      total = sum.is (small whole lent weighed) ∙ sums whole lent weighed;
    }
