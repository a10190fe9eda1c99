-- What the check leaves of `matrix::lent::Lent::ask_rows`.
use mathlib.Core.Path.{sym, ◌∙◌}
use Rattle.std.proofs.lemmas.Result.{err_from_is_err_and}
use Rattle.matrix_form.specs.Questions.{ask_rows_of}
use Rattle.matrix_form.proofs.Each.{number-refused, number_passed, numbers_ended}
use Rattle.matrix.proofs.lent.Lent.ask_rows.Goals as goal

pub returns-in_err-ask_row : goal.returns-in_err-ask_row
unfolding ask_rows_of
returns-in_err-ask_row c =
    let told = err_from_is_err_and c.from_residual.result c.from_residual.ensures.1 in
    rw (told.1, told.2)
    (number-refused _ _ _ _ c.loop-v.invariant c.loop-v-test.true _ (sym c.ask_row.ensures ∙ c.in_err-ask_row.was))

pub loop-v-preserved : goal.loop-v-preserved
loop-v-preserved c = number_passed _ _ _ _ c.loop-v.invariant c.loop-v-test.true (sym c.ask_row.ensures ∙ c.in_ok-ask_row.was)

pub returns : goal.returns
unfolding ask_rows_of
returns c = numbers_ended _ _ _ _ c.loop-v.invariant c.loop-v-test.false
