-- What the exported call for a fit of the Wagner tree hands back, from what the build and the fit answer.
use mathlib.Core.Path.{◌≡◌, refl, sym, ap, ◌∙◌}
use mathlib.Core.Bool.{true}
use mathlib.Core.List.{List}
use Prim.Native.Nat.{ℕ}
use lib.IntN.{ℤ}
use lib.ListN.{length}
use Rattle.std.specs.Prelude.{Ok}
use Rattle.matrix_form.specs.Spans.{spans_of}
use Rattle.matrix_form.specs.Outcomes.{value}
use Rattle.matrix_form.specs.Questions.{ask_matrix}
use Rattle.matrix_form.proofs.Passing.{matrix_passes}
use Rattle.difference_form.specs.Rows.{weighing}
use Rattle.branching.specs.Views.{ancestors}
use Rattle.tree_form.proofs.Test.{branching_iff}
use Rattle.tree_form.proofs.Within.{branching-plain}
use Rattle.wagner.specs.declared.answer.WagnerTree.{WagnerTree}
use Rattle.tree_form.specs.declared.order.Order.{Order}
use Rattle.wagner.specs.Calls.{BuiltFrom}
use Rattle.wagner_form.specs.Matrix.{wagner_in}
use Rattle.wagner.proofs.Lengths.{ours-branching}
use Rattle.wagner.proofs.StillLent.{still_lent, same-states}
use Rattle.fit_form.specs.Calls.{lists_full}
use Rattle.fitting.specs.Lists.{TreeFitted}
use Rattle.fit_form.specs.declared.whole.Fit.{Fit}
use Rattle.fitting.proofs.Shapes.{sizes}
use Rattle.fitting.proofs.Handed.{FittedBack, fitted_back}
use Rattle.export_form.specs.Answers.{measured}
use Rattle.export_form.specs.Orders.{order_numbered, ask_order, ask_fit_order}
use Rattle.export_form.specs.Calls.{ask_wagner_fit, FitExported}
use Rattle.export_form.specs.declared.answers.Measured.{Measured}
use Rattle.matrix_form.specs.Shape.{MatrixLists, with_codes}

-- the Wagner tree of a matrix that no question refuses, fitted into three lists of full size
module _ (order : Order) (lists : MatrixLists) (n m : ℕ) (low high chosen : List ℤ)
    (full : lists_full (length low) (length high) (length chosen) ≡ true) (new : List ℤ) (built : WagnerTree)
    (done : BuiltFrom order lists new n m built) where
  pub matrix-fitted : (low' high' chosen' : List ℤ) (fit : Fit) (r : Measured)
      → TreeFitted (with_codes lists new) n m (ancestors built.tree) low low' high high' chosen chosen' fit → r ≡ measured (value fit.total)
      → FitExported order (ask_matrix lists n m) lists new n m low low' high high' chosen chosen' r
  matrix-fitted low' high' chosen' fit r of is =
      let pass = done.passed in
      let passed = (matrix_passes lists n m).0 pass in
      let lent = passed.0 in
      let tree = (wagner_in order lists n m).tree in
      let rows = spans_of lists m n in
      let size = sizes _ _ _ full in
      let test = (branching_iff tree n lent.taxon).1 (ours-branching order lists n m lent) in
      let within = branching-plain n tree lent.taxa ∙ test in
      let back : FittedBack (weighing lists.weights).step tree rows n m low low' high high' chosen chosen' fit =
      rw (same-states order lists n m lent) at
      (fitted_back (with_codes lists _) n m tree low low' high high' chosen chosen' fit (rw (done.tree, done.matrix) at of) within
      (still_lent order lists n m lent) passed.1 size.0 size.1 size.2 test) in
      record {
        answers = is ∙ ap (λ total. measured (value total)) back.fits.total ∙ rw pass;
        matrix = done.matrix ∙ rw pass;
        is_low = back.is_low ∙ rw pass;
        is_high = back.is_high ∙ rw pass;
        is_chosen = back.is_chosen ∙ rw pass;
        handed = λ p. (fit, sym (ap (λ (said : Measured). said.length) is), back.handed);
      }

-- the same in the order with a number, behind the questions on the sizes and the number
pub tree_fitted : (lists : MatrixLists) (n m number : ℕ) (low high chosen : List ℤ)
    → lists_full (length low) (length high) (length chosen) ≡ true → ask_order (length lists.codes) (length lists.weights) number ≡ Ok tt
    → (order : Order) → order ≡ order_numbered number → (new : List ℤ) (built : WagnerTree) → BuiltFrom order lists new n m built
    → (low' high' chosen' : List ℤ) (fit : Fit)
    → TreeFitted (with_codes lists new) n m (ancestors built.tree) low low' high high' chosen chosen' fit
    → FitExported (order_numbered number) (ask_wagner_fit lists n m number low high chosen) lists new n m
    low low' high high' chosen chosen' (measured (value fit.total))
unfolding ask_wagner_fit ask_fit_order
tree_fitted lists n m number low high chosen full told order is new built done low' high' chosen' fit of =
    rw (full, told, sym is)
    (matrix-fitted order lists n m low high chosen full new built done low' high' chosen' fit (measured (value fit.total)) of refl)
