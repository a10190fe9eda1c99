-- `fitting::totals::cost_of` meets its contract.
use Rattle.std.proofs.Common.{◌≡◌, ◌*◌, ◌∙◌, ap₂, arith}
use Rattle.matrix_form.specs.Shape.{weight_of}
use Rattle.matrix_form.specs.Spans.{spans_of}
use Rattle.fit_passes.specs.Steps.{Column}
use Rattle.fitting.proofs.Columns.{column-own, character-most}
use Rattle.fitting.proofs.totals.cost_of.Goals as goal
use Rattle.matrix.specs.Lent.{lent_lists}

pub returns : goal.returns
returns c =
    let plan = c.args.plan.now in
    let nodes = c.args.nodes.now in
    let lists = lent_lists nodes.lent in
    let n = plan.taxa in
    let j = c.args.j in
    let weight : c.weight_at.result ≡ weight_of nodes.lent.weights.now j = unfold weight_of in c.weight_at.ensures in
    record {
      is = λ branches lent weighed.
          let column : Column nodes.lent.matrix.now n j c.own_sets-own.result = rw c.taxa.ensures at c.own_sets-own.ensures in
          let own = column-own lists n nodes.lent.m lent j c.requires.0 c.requires.1 _ column in
          let cost = c.least_cost.ensures.is (spans_of lists nodes.lent.m n) j own branches in
          let short = character-most lists n nodes.lent.m lent plan.tree branches j c.requires.0 c.requires.1 in
          c.weighed.ensures.is (omega (arith, cost, short)) ∙ ap₂ ◌*◌ weight cost;
    }
