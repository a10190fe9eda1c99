-- What the check leaves of `matrix::lent::Lent::ask`.
use mathlib.Core.Path.{sym, ◌∙◌}
use native.Mathlib.Omega.{arith}
use Rattle.matrix_form.proofs.Passing.{limits_passed}
use Rattle.matrix.proofs.lent.Lent.ask.Goals as goal

pub overflow_add-self : goal.overflow_add-self
overflow_add-self c = let limits = limits_passed _ _ (sym c.within_limits.ensures ∙ c.if-not-within_limits.false) in omega (arith, limits.1)
