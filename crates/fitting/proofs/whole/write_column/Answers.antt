-- What the check leaves of `fitting::whole::write_column`.
use Rattle.std.proofs.Common.{◌≡◌, ◌+◌, ◌-◌, ◌*◌, ◌≤◌, refl, arith, length-set, to_z-of_z, w32}
use borrow.Author.Rules.{sfits_of}
use Rattle.lists.specs.Numbers.{numbers}
use Rattle.lists.specs.Over.{stripes}
use Rattle.matrix_form.specs.Shape.{columns}
use Rattle.fit_passes.specs.Steps.{states_at}
use Rattle.fit_form.specs.Calls.{state_in}
use Rattle.fitting.specs.Lists.{with_column}
use Rattle.fitting.proofs.Rewriting.{column-more}
use Rattle.fitting.proofs.LastNode.{last_number}
use Rattle.fitting.proofs.whole.write_column.Goals as goal

pub loop-v-init : goal.loop-v-init
unfolding stripes numbers
loop-v-init g c =
    let taxa = c.taxa-n.ensures in
    let none : c.taxa-n.result + 1 - (c.args.plan.now.taxa + 1) ≡ 0 = omega (arith, taxa) in
    (refl, λ which picks. rw none)

pub loop-v-preserved : goal.loop-v-preserved
loop-v-preserved g c =
    let loop = c.loop-v in
    let inv = loop.invariant in
    let taxa = c.taxa-n.ensures in
    let few : c.taxa-n.result ≤ 64 = omega (arith, taxa, c.requires.shape.2) in
    let end = last_number _ _ few c.last_node-v-end.ensures in
    let place : c.index_of_code.result ≡ (loop.v - 1) * columns + (c.args.j - 1) = omega (arith, c.index_of_code.ensures) in (
      simp length-set inv.0,
      λ which picks.
          rw (place, to_z-of_z {w = w32} (sfits_of c.state.type_inv), picks _ _ c.state.ensures)
          (column-more c.args.plan.now.taxa c.args.j loop.v (λ u. state_in which (states_at c.args.states.now u)) _ loop.out
          (omega (arith, taxa)) (inv.1 which picks)),
    )

pub returns : goal.returns
unfolding with_column
returns g c = λ which picks.
    let loop = c.loop-v in
    let n = c.args.plan.now.taxa in
    let taxa = c.taxa-n.ensures in
    let few : c.taxa-n.result ≤ 64 = omega (arith, taxa, c.requires.shape.2) in
    let end = last_number _ _ few c.last_node-v-end.ensures in
    let some = c.requires.shape.1 in
    let last : loop.v - (n + 1) ≡ n - 2 = omega (arith, taxa) in
    rw last at (loop.invariant.1 which picks)
