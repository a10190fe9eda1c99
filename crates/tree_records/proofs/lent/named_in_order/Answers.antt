-- `tree_records::lent::named_in_order` meets its contract: the records are gone through with their indices. Assumes nothing.
use mathlib.Core.Path.{◌≡◌, ◌∙◌}
use Prim.Native.Nat.{◌*◌, ◌-◌, min}
use native.Mathlib.Omega.{arith}
use borrow.Author.Rules.{rules}
use borrow.Author.Tests.{tests}
use Rattle.std.proofs.lemmas.Iterator.{YieldsList-from_slice, YieldsList-from_take}
use Rattle.std.proofs.lemmas.Iterator.Consumers.{YieldsList-from_enumerate}
use Rattle.std.proofs.lemmas.Iterator.Search.{all_from_yields_List}
use Rattle.tree_form.proofs.Lending.{names_index, named-all}
use Rattle.tree_records.proofs.lent.named_in_order.Goals as goal

pub returns : goal.returns
returns c =
    let records = c.args.records.now in
    let n = min c.args.n 64 in
    let count : c.record_count.result ≡ 2 * n - 3 = omega (arith, c.record_count.ensures) in
    all_from_yields_List names_index _ _ _ c.all.ensures.ran
    (YieldsList-from_enumerate (YieldsList-from_take (2 * n - 3) (YieldsList-from_slice records (search rules)) (search (rules, count))) (search rules))
    (λ x b q k. search (rules, tests))
    ∙ named-all records (search rules) n (omega arith)
