-- What the check leaves of `tree_records::lent::with_records`.
use mathlib.Core.Path.{◌≡◌, refl, ap, ◌∙◌}
use mathlib.Core.List.{List, ◌++◌}
use native.Mathlib.Omega.{arith}
use borrow.Author.Rules.{rules}
use lib.ListN.{length-set, length-take, take, drop}
use Rattle.lists.specs.Over.{over}
use Rattle.tree_form.specs.Branches.{branch_of, branch_records}
use Rattle.tree_records.specs.Lengths.{lengths_by}
use Rattle.tree_form.specs.declared.branch.Branch.{Branch}
use Rattle.branching.specs.Views.{ancestors}
use Rattle.tree_form.proofs.Lending.{over_front, taken, written_next, written_all}
use Rattle.tree_records.proofs.lent.with_records.Goals as goal

pub loop-i-init : goal.loop-i-init
unfolding over
loop-i-init c = (taken _ _ _ (search rules) c.record_count.ensures, refl)

pub loop-i-preserved : goal.loop-i-preserved
unfolding branch_of lengths_by
loop-i-preserved c =
    let loop = c.loop-i in
    let inv = loop.invariant in (
      simp length-set inv.0,
      rw c.ancestor.ensures (written_next _ _ _ _ loop.record-items loop.i inv.1 (omega arith)),
    )

pub returns : goal.returns
returns c =
    let loop = c.loop-i in
    let inv = loop.invariant in
    let count = c.record_count.result in
    let tree = ancestors c.args.tree.now in
    let all = branch_records (lengths_by c.args.lengths.now) c.args.n tree in
    let number = taken c.args.records _ count (search rules) c.record_count.ensures in
    let same : loop.i ≡ count = omega (arith, number, c.loop-i-test.false, loop.auto.i-end, c.record_count.ensures) in
    ap (λ (part : List Branch). part ++ drop count c.args.records) inv.1
    ∙ over_front count (take loop.i all) c.args.records (omega (arith, length-take loop.i all))
    ∙ written_all _ _ _ _ loop.i (search rules) (same ∙ c.record_count.ensures)
