-- What the check leaves of `matrix::questions::ask_codes`.
use mathlib.Core.Path.{refl, sym, ap, ◌∙◌}
use mir.Facts.{to_z-of_z}
use mir.Syntax.{w32}
use Rattle.std.proofs.Common.{rules}
use Rattle.std.proofs.lemmas.Result.{err_from_is_err_and}
use Rattle.matrix_form.specs.Questions.{ask_code}
use Rattle.matrix_form.proofs.Each.{turn-refused, turn_passed, turns_ended}
use Rattle.matrix.proofs.questions.ask_codes.Goals as goal

pub returns-in_err-ask_code : goal.returns-in_err-ask_code
returns-in_err-ask_code c =
    let told = err_from_is_err_and c.from_residual.result c.from_residual.ensures.1 in
    let asked = c.ask_code.ensures ∙ ap ask_code (to_z-of_z {w = w32} (search rules)) in
    rw (told.1, told.2)
    (turn-refused ask_code _ _ c.loop-code.invariant _ _ c.loop-code-test.true refl _ (sym asked ∙ c.in_err-ask_code.was))

pub loop-code-preserved : goal.loop-code-preserved
loop-code-preserved c =
    let asked = c.ask_code.ensures ∙ ap ask_code (to_z-of_z {w = w32} (search rules)) in
    turn_passed ask_code _ _ c.loop-code.invariant _ _ c.loop-code-test.true refl (sym asked ∙ c.in_ok-ask_code.was)

pub returns : goal.returns
returns c = turns_ended ask_code _ _ c.loop-code.invariant c.loop-code-test.false
