-- What the check leaves of `file_questions::branches::ask_branches`.
use mathlib.Core.Path.{◌≡◌, refl, sym, ap, ◌∙◌}
use native.Mathlib.Omega.{arith}
use Rattle.std.proofs.lemmas.Result.{err_from_is_err_and}
use Rattle.tree_form.specs.Ancestors.{tree_with}
use Rattle.file_header.proofs.Answering.{refused_alone, line_passed as value_passed}
use Rattle.file_header.specs.Steps.{at_line}
use Rattle.file_questions.proofs.LinesWalk.{lines-start, line_missing, line_refused, line_passed, lines-ended}
use Rattle.file_questions.proofs.BranchLines.Walk.{branch_asked}
use Rattle.file_questions.proofs.BranchLines.Said.{said_in, tree-start, tree_more}
use Rattle.file_questions.proofs.branches.ask_branches.Goals as goal

pub loop-done-init : goal.loop-done-init
loop-done-init c = (lines-start _ _ _ _, tree-start c.args.text.now)

pub returns-in_default : goal.returns-in_default
returns-in_default c =
    record { asked = line_missing _ _ _ _ _ _ c.loop-done.invariant.0 c.loop-done-test.true c.in_default.ensures; tree = tt }

pub returns-in_err-above-clause-asked : goal.returns-in_err-above-clause-asked
returns-in_err-above-clause-asked c =
    let told = err_from_is_err_and c.from_residual.result c.from_residual.ensures.1 in
    rw (told.1, told.2)
    (line_refused _ _ _ _ _ _ c.loop-done.invariant.0 c.loop-done-test.true _ _ c.in-Some.ensures _
    (branch_asked _ _ _ _ _ c.loop-done.invariant.0 _ _ c.in-Some.ensures _ refl) _
    (refused_alone _ _ _ _ (ap (at_line _) (sym c.ask_branch.ensures) ∙ sym c.on_line.ensures ∙ c.in_err-above.was)))

pub loop-done-preserved : goal.loop-done-preserved
loop-done-preserved c =
    let passed = value_passed _ _ _ _ (ap (at_line _) (sym c.ask_branch.ensures) ∙ sym c.on_line.ensures ∙ c.in_ok-above.was) in (
      line_passed _ _ _ _ _ _ c.loop-done.invariant.0 c.loop-done-test.true _ _ c.in-Some.ensures _
          (branch_asked _ _ _ _ _ c.loop-done.invariant.0 _ _ c.in-Some.ensures _ refl) (ap (at_line _) passed.0),
      tree_more _ _ _ c.loop-done.invariant.0.walk _ _ c.in-Some.ensures (omega (arith, c.loop-done-test.true, c.requires.0)) _
          c.loop-done.invariant.1 _ passed.1,
    )

pub returns : goal.returns
returns c =
    let all : c.loop-done.done ≡ c.args.count = omega (arith, c.loop-done-test.false) in
    record {
      asked = lines-ended _ _ _ _ _ _ c.loop-done.invariant.0 c.loop-done-test.false;
      tree =
          c.from_ancestors.ensures ∙ c.loop-done.invariant.1 ∙ ap (λ count. tree_with (said_in c.args.text.now count)) all;
    }
