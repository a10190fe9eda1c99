-- `file_text::numbers::code` meets its contract: with a minus and without one.
use mathlib.Core.Path.{sym, ap, ◌∙◌}
use native.Mathlib.Omega.{arith}
use mir.Syntax.{w32}
use mir.Facts.{to_z_pos}
use Rattle.std.specs.Prelude.{Some}
use Rattle.file_text.proofs.Decimal.CodeWalk.{plain_none, plain_some, minus_none, minus_zero, minus_some, negated}
use Rattle.file_text.proofs.numbers.code.Goals as goal

pub returns-in_err-size-in-Some : goal.returns-in_err-size-in-Some
returns-in_err-size-in-Some c =
    c.from_residual.ensures
    ∙ minus_none _ _ c.in-Some.ensures.cases.0 c.in-Some.ensures.cases.1 (sym c.in_err-size-in-Some.was ∙ c.number.ensures.said)

pub returns-in_err-number-in-None : goal.returns-in_err-number-in-None
returns-in_err-number-in-None c =
    c.from_residual-in_err-number-in-None.ensures
    ∙ plain_none _ c.in-None.ensures.cases (sym c.in_err-number-in-None.was ∙ c.number-in-None.ensures.said)

pub returns-in-0 : goal.returns-in-0
returns-in-0 c =
    minus_zero _ _ c.in-Some.ensures.cases.0 c.in-Some.ensures.cases.1 _ (sym c.in_ok-size-in-Some.was ∙ c.number.ensures.said) c.in-0.is

pub returns-in_default : goal.returns-in_default
returns-in_default c =
    ap Some (negated _ c.in_ok-size-in-Some.ensures.small)
    ∙ minus_some _ _ c.in-Some.ensures.cases.0 c.in-Some.ensures.cases.1 _ (sym c.in_ok-size-in-Some.was ∙ c.number.ensures.said)
    (λ zero. omega (arith, c.in_default, zero))

pub returns-in_ok-number-in-None : goal.returns-in_ok-number-in-None
returns-in_ok-number-in-None c =
    let small = c.in_ok-number-in-None.ensures.small in
    ap Some (to_z_pos w32 (omega (arith, small)))
    ∙ plain_some _ c.in-None.ensures.cases _ (sym c.in_ok-number-in-None.was ∙ c.number-in-None.ensures.said)
