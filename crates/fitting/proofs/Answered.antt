-- The call for a fit answers its questions: a refusal leaves everything as it was, and otherwise the fit is that of the branching.
use Rattle.std.proofs.Common.{Ok, Err, ◌≡◌, ℕ, List, length, ℤ, refl}
use Rattle.matrix_form.specs.Shape.{matrix_size, MatrixLists}
use Rattle.matrix_form.specs.declared.refusal.Refusal.{Refusal}
use Rattle.tree_form.specs.declared.branch.Branch.{Branch}
use Rattle.tree_form.specs.Branches.{ancestors_of}
use Rattle.tree_form.specs.Asking.{ask_branching}
use Rattle.fit_form.specs.Calls.{ask_fit}
use Rattle.fitting.specs.Lists.{TreeFitted}
use Rattle.fit_form.specs.Handing.{FitHanded, NotFitted}
use Rattle.fit_form.specs.declared.whole.Fit.{Fit}
use Rattle.fitting.proofs.Passed.{branching_passed, records_passed, lent_test}
use Rattle.fitting.proofs.Handed.{fitted_back}

module _ (lists : MatrixLists) (n m : ℕ) (records : List Branch) (low high chosen : List ℤ) where
  -- after a refusal the lists are as before
  pub refused_answer : (refusal : Refusal) → ask_fit lists n m records low high chosen ≡ Err refusal
      → NotFitted lists n m records low low high high chosen chosen refusal
  refused_answer refusal e = record { refused = e; low_unchanged = refl; high_unchanged = refl; chosen_unchanged = refl }

  -- where no question refuses, the fit is that of the branching
  pub passed_answer : (low' high' chosen' : List ℤ) (tree : List ℕ) (fit : Fit)
      → ask_fit lists n m records low high chosen ≡ Ok tt → ask_branching lists n m records ≡ Ok tt
      → length low ≡ matrix_size → length high ≡ matrix_size → length chosen ≡ matrix_size
      → tree ≡ ancestors_of n records → TreeFitted lists n m tree low low' high high' chosen chosen' fit
      → FitHanded lists n m records low low' high high' chosen chosen' fit
  passed_answer low' high' chosen' tree fit e asked low_size high_size chosen_size is of =
      let passed = branching_passed lists n m records asked in
      let back =
      fitted_back lists n m (ancestors_of n records) low low' high high' chosen chosen' fit (rw is at of) passed.2 passed.0 passed.1
      low_size high_size chosen_size (lent_test n records (records_passed lists n m records asked)) in
      record {
        passed = e;
        fitted = back.fits;
        is_low = back.is_low;
        is_high = back.is_high;
        is_chosen = back.is_chosen;
        handed = back.handed;
      }
