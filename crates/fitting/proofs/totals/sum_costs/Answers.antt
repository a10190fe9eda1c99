-- `fitting::totals::sum_costs` meets its contract: the costs of the characters, in order.
use Rattle.std.proofs.Common.{ℕ, ◌+◌, ◌*◌, ◌^◌, ◌%◌, List, map, fold, ap, ◌∙◌, arith, rules, tests}
use Rattle.std.proofs.lemmas.Iterator.{YieldsList-from_range, YieldsList-from_map}
use Rattle.std.proofs.lemmas.Iterator.Consumers.{fold_from_yields_List}
use Rattle.lists.specs.Numbers.{numbers}
use Rattle.lists.proofs.Sums.{sum_map}
use Rattle.matrix_form.specs.Shape.{weight_of}
use Rattle.matrix_form.specs.Spans.{spans_of}
use Rattle.tree_form.proofs.Ranges.{range-numbers}
use Rattle.fit_passes.specs.Steps.{character_length}
use Rattle.fitting.specs.Costs.{CostOf}
use Rattle.fit_form.proofs.Adding.{added_up}
use Rattle.fitting.proofs.Columns.{characters-most}
use Rattle.fitting.proofs.ByCharacter.{total-characters}
use Rattle.fitting.proofs.totals.sum_costs.Goals as goal
use Rattle.matrix.specs.Lent.{lent_lists}

pub returns : goal.returns
returns c =
    let nodes = c.args.nodes.now in
    let plan = c.args.plan.now in
    let m = nodes.lent.m in
    record {
      is = λ branches lent weighed.
          let cost : ℕ → ℕ = λ j. weight_of nodes.lent.weights.now j * character_length plan.tree (spans_of (lent_lists nodes.lent) m plan.taxa) plan.taxa j in
          let many = lent.characters in
          let most = characters-most (lent_lists nodes.lent) plan.taxa m lent plan.tree branches nodes.lent.weights.now weighed.known m (omega arith) in
          fold_from_yields_List _ (λ (a x : ℕ). (a + x) % (2 ^ 64)) 0 c.fold.result c.fold.ensures.ran
          (YieldsList-from_map _ cost (YieldsList-from_range 1 (m + 1) m c.map.ensures.source (omega arith)) c.map.ensures.closure
          (λ x r q k.
          let is : CostOf (lent_lists nodes.lent) plan.taxa m plan.tree x r = search (rules, tests) in
          (search rules, is.is branches lent weighed)))
          (λ a x b q k. search (rules, tests))
          ∙ ap (λ (xs : List ℕ). fold (λ (a x : ℕ). (a + x) % (2 ^ 64)) 0 (map cost xs)) (range-numbers 1 m)
          ∙ added_up (λ (x : ℕ). x) (map cost (numbers 1 m)) 0 (omega (arith, most, sum_map (λ (x : ℕ). x) cost (numbers 1 m)))
          ∙ omega (arith, sum_map (λ (x : ℕ). x) cost (numbers 1 m), total-characters nodes.lent.weights.now plan.tree (spans_of (lent_lists nodes.lent) m plan.taxa) plan.taxa m);
    }
