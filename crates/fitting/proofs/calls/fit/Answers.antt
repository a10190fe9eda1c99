-- `fitting::calls::fit` meets its contract: a refusal is that of the questions, and leaves the lists as they were. Assumes nothing.
use Rattle.std.proofs.Common.{Err, ◌≡◌, ℕ, true, false, List, length, ℤ, sym, ◌∙◌}
use Rattle.matrix_form.specs.Outcomes.{Asked}
use Rattle.matrix_form.specs.declared.refusal.Refusal.TheVariants.{ListSize}
use Rattle.std.proofs.lemmas.Result.{err_from_is_err_and}
use Rattle.tree_form.specs.declared.branch.Branch.{Branch}
use Rattle.tree_form.specs.Asking.{ask_branching}
use Rattle.fit_form.specs.Calls.{lists_full, ask_fit}
use Rattle.fitting.proofs.Shapes.{sizes}
use Rattle.fitting.proofs.Answered.{refused_answer, passed_answer}
use Rattle.fitting.proofs.calls.fit.Goals as goal
use Rattle.matrix_form.specs.Shape.{MatrixLists}

-- the questions, where the lists have their sizes
asked_of : (lists : MatrixLists) (n m : ℕ) (records : List Branch) (low high chosen : List ℤ) (asked : Asked)
    → lists_full (length low) (length high) (length chosen) ≡ true → ask_branching lists n m records ≡ asked
    → ask_fit lists n m records low high chosen ≡ asked
unfolding ask_fit
asked_of lists n m records low high chosen asked full e = rw (full, e)

-- and where they have not
asked_not : (lists : MatrixLists) (n m : ℕ) (records : List Branch) (low high chosen : List ℤ)
    → lists_full (length low) (length high) (length chosen) ≡ false → ask_fit lists n m records low high chosen ≡ Err ListSize
unfolding ask_fit
asked_not lists n m records low high chosen e = rw e

pub returns-then-not-lists_full : goal.returns-then-not-lists_full
returns-then-not-lists_full c =
    refused_answer _ _ _ _ _ _ _ ListSize (asked_not _ _ _ _ _ _ _ (sym c.lists_full.ensures ∙ c.if-not-lists_full.true))

pub returns-in_err-ask_branching : goal.returns-in_err-ask_branching
returns-in_err-ask_branching c =
    let told = err_from_is_err_and c.from_residual.result c.from_residual.ensures.1 in
    let full = sym c.lists_full.ensures ∙ c.if-not-lists_full.false in
    rw (told.1, told.2)
    (refused_answer _ _ _ _ _ _ _ _ (asked_of _ _ _ _ _ _ _ _ full (sym c.ask_branching.ensures ∙ c.in_err-ask_branching.was)))

pub returns : goal.returns
returns c =
    let full = sym c.lists_full.ensures ∙ c.if-not-lists_full.false in
    let right = sizes _ _ _ full in
    let passed = sym c.ask_branching.ensures ∙ c.in_ok-ask_branching.was in
    passed_answer _ _ _ _ _ _ _ _ _ _ _ _ (asked_of _ _ _ _ _ _ _ _ full passed) passed right.0 right.1 right.2
    c.tree_of-tree.ensures c.fit_tree.ensures
