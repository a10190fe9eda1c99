-- What the check leaves of `fitting::whole::fit_columns`.
use Rattle.std.proofs.Common.{◌≡◌, ◌-◌, ◌≤◌, length, refl, ap, ◌∙◌, arith, rules}
use Rattle.matrix_form.specs.Shape.{weight_of}
use Rattle.fit_form.specs.Calls.{Low, High, Chosen, no_branch}
use Rattle.fitting.proofs.Rewriting.{length-column}
use Rattle.fitting.proofs.Gathering.{start_written, written_more}
use Rattle.fitting.specs.Lists.{Lengthened}
use Rattle.fitting.proofs.whole.fit_columns.Goals as goal
use Rattle.matrix.specs.Lent.{lent_lists}

pub loop-j-init : goal.loop-j-init
loop-j-init c =
    let none : c.default-branches.result ≡ no_branch = search rules in
    (refl, refl, refl, rw none (start_written _ _ _ _ _ _ _))

pub loop-j-preserved : goal.loop-j-preserved
loop-j-preserved c =
    let loop = c.loop-j in
    let inv = loop.invariant in
    let n = c.args.plan.now.taxa in
    let j = loop.j in
    let low = c.write_column.ensures Low (λ states r says. search rules) in
    let high = c.write_column-in-loop-j.ensures High (λ states r says. search rules) in
    let chosen = c.write_column-in-loop-j-2.ensures Chosen (λ states r says. search rules) in
    let first : 1 ≤ j = omega arith in
    let taken : j ≤ c.args.nodes.now.lent.m = omega arith in
    let weight : c.weight_at.result ≡ weight_of c.args.nodes.now.lent.weights.now j =
    unfold weight_of in c.weight_at.ensures in
    let longer : Lengthened (weight_of c.args.nodes.now.lent.weights.now j) n c.args.plan.now.tree c.fit_character-states.result
    loop.branches c.add_lengths.new.branches = rw weight at c.add_lengths.ensures in (
      ap length low ∙ length-column n j _ loop.low ∙ inv.0,
      ap length high ∙ length-column n j _ loop.high ∙ inv.1,
      ap length chosen ∙ length-column n j _ loop.chosen ∙ inv.2,
      written_more (lent_lists c.args.nodes.now.lent) n c.args.nodes.now.lent.m j first taken c.args.nodes.now.narrow c.args.plan.now.tree _
          (rw c.taxa.ensures at c.own_sets-own.ensures)
          _ c.fit_character-states.ensures _ _ _ _ _ _ _ _ _ _ _
          inv.3 low high chosen longer,
    )

pub returns : goal.returns
returns c =
    let loop = c.loop-j in
    let nodes = c.args.nodes.now in
    let all : loop.j - 1 ≡ nodes.lent.m = omega arith in
    rw all at loop.invariant.3
