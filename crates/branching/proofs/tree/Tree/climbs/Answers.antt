-- What the check leaves of `branching::tree::Tree::climbs`.
use mathlib.Core.Path.{◌≡◌, sym, ap, ap₂, ◌∙◌}
use Prim.Native.Nat.{◌+◌, ◌-◌, ◌<◌}
use native.Mathlib.Omega.{arith}
use Rattle.branching.specs.Views.{ancestors}
use Rattle.tree_form.specs.Growing.{climbs}
use Rattle.tree_form.proofs.Climbing.{climbs-here, climbs-above, climbs_last}
use Rattle.branching.proofs.tree.Tree.climbs.Goals as goal

pub loop-step-init : goal.loop-step-init
loop-step-init c = let all : c.args.steps ≡ c.args.steps - 0 = omega arith in ap (λ left. climbs (ancestors c.args.self.now) left c.args.v) all

pub returns-then-at-eq1 : goal.returns-then-at-eq1
returns-then-at-eq1 c = sym (c.loop-step.invariant ∙ climbs-here _ _ c.loop-step.at c.if-at-eq1.true)

pub loop-step-preserved : goal.loop-step-preserved
loop-step-preserved c =
    let loop = c.loop-step in
    let some : 0 < c.args.steps - loop._step = omega (arith, c.loop-step-test.true) in
    let less : c.args.steps - loop._step - 1 ≡ c.args.steps - (loop._step + 1) = omega arith in
    loop.invariant ∙ climbs-above _ _ loop.at some c.if-at-eq1.false ∙ ap₂ (climbs _) less (sym c.ancestor-at.ensures)

pub returns : goal.returns
returns c =
    let loop = c.loop-step in
    let none : c.args.steps - loop._step ≡ 0 = omega (arith, c.loop-step-test.false) in
    sym (loop.invariant ∙ climbs_last _ _ loop.at none)
