-- What the check leaves of `tree_records::lent::tree_of`.
use mathlib.Core.Path.{◌≡◌, refl, ◌∙◌}
use native.Mathlib.Omega.{arith}
use borrow.Author.Rules.{rules}
use lib.Seq.{get_or-take}
use Rattle.lists.specs.Filled.{filled}
use Rattle.tree_form.proofs.Lending.{no_branch, taken, read_next, read_all}
use Rattle.tree_records.proofs.lent.tree_of.Goals as goal

pub loop-i-init : goal.loop-i-init
unfolding filled
loop-i-init c = (taken _ _ _ (search rules) c.record_count.ensures, refl)

pub loop-i-preserved : goal.loop-i-preserved
loop-i-preserved c =
    let loop = c.loop-i in
    let records = c.args.records.now in
    let here = get_or-take c.record_count.result records loop.i no_branch (omega arith) in
    (loop.invariant.0, rw here (read_next records (search rules) loop.above loop.i (omega arith) loop.invariant.1))

pub returns : goal.returns
returns c =
    let loop = c.loop-i in
    let same : loop.i ≡ c.record_count.result = omega (arith, c.loop-i-test.false) in
    c.from_ancestors.ensures ∙ loop.invariant.1 ∙ read_all _ (search rules) _ loop.i (same ∙ c.record_count.ensures)
