-- What the check leaves of `matrix::lent::Lent::ask_htus`.
use mathlib.Core.Path.{refl, sym, ◌∙◌}
use Rattle.std.proofs.lemmas.Result.{err_from_is_err_and}
use Rattle.matrix_form.proofs.Each.{turn-refused, turn_passed, turns_ended}
use Rattle.matrix.proofs.lent.Lent.ask_htus.Goals as goal

pub returns-in_err-ask_htu : goal.returns-in_err-ask_htu
returns-in_err-ask_htu c =
    let told = err_from_is_err_and c.from_residual.result c.from_residual.ensures.1 in
    rw (told.1, told.2)
    (turn-refused _ _ _ c.loop-v.invariant _ _ c.loop-v-test.true refl _ (sym c.ask_htu.ensures ∙ c.in_err-ask_htu.was))

pub loop-v-preserved : goal.loop-v-preserved
loop-v-preserved c =
    turn_passed _ _ _ c.loop-v.invariant _ _ c.loop-v-test.true refl (sym c.ask_htu.ensures ∙ c.in_ok-ask_htu.was)

pub returns : goal.returns
returns c = turns_ended _ _ _ c.loop-v.invariant c.loop-v-test.false
