-- What the check leaves of `fitting::whole::add_lengths`.
use Rattle.std.proofs.Common.{◌≡◌, ◌≤◌, refl, arith, length-set, rules}
use Rattle.tree_form.specs.Ancestors.{ancestor}
use Rattle.fit_passes.specs.Steps.{states_at}
use Rattle.fit_form.specs.Calls.{no_branch, branch_at}
use Rattle.fitting.specs.Lists.{Longer}
use Rattle.lists.proofs.Filling.{filled_more}
use Rattle.fitting.proofs.LastNode.{last_number}
use Rattle.fitting.proofs.whole.add_lengths.Goals as goal

pub loop-v-init : goal.loop-v-init
loop-v-init c = (search rules, record { inside = λ u l h. absurd (omega arith); outside = λ u out. refl })

pub loop-v-preserved : goal.loop-v-preserved
loop-v-preserved c =
    let loop = c.loop-v in
    let inv = loop.invariant in
    let taxa = c.taxa.ensures in
    let few : c.taxa.result ≤ 64 = omega (arith, taxa, c.requires) in
    let end = last_number _ _ few c.last_node-v-end.ensures in
    let tree = c.args.plan.now.tree in
    let states = c.args.states.now in
    let place = rw c.ancestor.ensures at c.tree_index-u.ensures in
    let above = states_at states c.tree_index-u.result in
    let more : Longer c.args.weight (states_at states loop.v) above (branch_at loop.branches loop.v)
    c.lengthened.result = c.lengthened.ensures in
    let same = inv.1.outside loop.v (λ l h. omega arith) in (
      simp length-set inv.0,
      filled_more
          (λ u b. ancestor tree u ≤ 126 → Longer c.args.weight (states_at states u) (states_at states (ancestor tree u)) (branch_at c.args.branches.now u) b)
          (λ u b. b ≡ branch_at c.args.branches.now u) no_branch loop.branches 2 loop.v _ (omega arith) (omega arith) inv.1
          (λ small. rw (same, place.is small) at more),
    )

pub returns : goal.returns
returns c =
    let loop = c.loop-v in
    let inv = loop.invariant in
    let taxa = c.taxa.ensures in
    let few : c.taxa.result ≤ 64 = omega (arith, taxa, c.requires) in
    let end = last_number _ _ few c.last_node-v-end.ensures in
    record {
      added = λ v l h. inv.1.inside v l (omega arith);
      kept = λ v out. inv.1.outside v (λ l h. out l (omega arith));
    }
