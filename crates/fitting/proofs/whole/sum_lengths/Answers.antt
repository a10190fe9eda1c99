-- `fitting::whole::sum_lengths` meets its contract: the lengths of the branches, in order.
use Rattle.std.proofs.Common.{◌≡◌, ℕ, ◌+◌, ◌-◌, ◌*◌, ◌^◌, ◌%◌, ◌≤◌, take, drop, ap, ◌∙◌, arith, rules, tests}
use Rattle.std.proofs.lemmas.Iterator.{YieldsList-from_slice}
use Rattle.std.proofs.lemmas.Iterator.Consumers.{fold_from_yields_List}
use Rattle.lists.specs.Numbers.{numbers}
use Rattle.lists.specs.Sums.{sum_over}
use Rattle.lists.proofs.Sums.{sum_map}
use Rattle.tree_form.specs.Nodes.{other_nodes}
use Rattle.fit_form.specs.Calls.{no_branch, branch_at}
use Rattle.fit_form.specs.declared.whole.BranchFit.{BranchFit}
use Rattle.fit_form.proofs.Adding.{added_up, items_from}
use Rattle.fitting.proofs.LastNode.{last_number}
use Rattle.fitting.proofs.whole.sum_lengths.Goals as goal

pub returns : goal.returns
unfolding other_nodes
returns c =
    let branches = c.args.branches.now in
    let n = c.args.plan.now.taxa in
    let length : BranchFit → ℕ = λ branch. branch.length in
    let taxa = c.taxa.ensures in
    let few : c.taxa.result ≤ 64 = omega (arith, taxa, c.requires) in
    let count : c.last_node.result + 1 - 2 ≡ 2 * n - 3 = omega (arith, taxa, last_number _ _ few c.last_node.ensures) in
    let nodes = ap (λ (k : ℕ). take k (drop 2 branches)) count ∙ items_from no_branch branches (2 * n - 3) 2 (omega (arith, c.requires, c.told-branches)) in
    let same = ap (sum_over length) nodes ∙ sum_map length (branch_at branches) (numbers 2 (2 * n - 3)) in
    record {
      is = λ small.
          fold_from_yields_List _ (λ (a : ℕ) (branch : BranchFit). (a + branch.length) % (2 ^ 64)) 0 c.fold.result c.fold.ensures.ran
          (YieldsList-from_slice (take (c.last_node.result + 1 - 2) (drop 2 branches)) (search rules)) (λ a x b q k. search (rules, tests))
          ∙ added_up length (take (c.last_node.result + 1 - 2) (drop 2 branches)) 0 (omega (arith, same, small))
          ∙ omega (arith, same);
    }
