-- `difference::rows::weighed` meets its contract: the parts of the pairs with their weights make the difference, and each is at most 2 ^ 40.
use mathlib.Core.Path.{◌≡◌, refl, ◌∙◌}
use lib.ListN.{length}
use native.Mathlib.Omega.{arith}
use Rattle.std.proofs.Common.{rules, tests}
use Rattle.std.proofs.lemmas.Iterator.{YieldsList-from_map}
use Rattle.std.proofs.lemmas.Iterator.Consumers.{sum_by_from_yields_List}
use Rattle.std.proofs.lemmas.Iterator.Adapters.{fits_from_length}
use Rattle.std.specs.List.{zip}
use Rattle.difference_form.proofs.Pairs.{pairs_yielded, pairs_few, sum_bounded}
use Rattle.difference_form.proofs.Laws.Sums.{weighed_part, parts-difference}
use Rattle.difference_form.specs.Rows.{difference}
use Rattle.difference_form.proofs.Laws.Splits.{bounded_by_length}
use Rattle.difference.proofs.rows.weighed.Goals as goal

pub sum-requires-clause-fits : goal.sum-requires-clause-fits
sum-requires-clause-fits c =
    let given = c.args in
    fits_from_length {s = c.map.result} _ _ 128 18446744073709551616
    (pairs_few c.map.ensures.source given.xs.now given.ys.now given.weights.now (cc) (cc) (cc) 128 (omega arith))
    c.map.ensures.closure
    (omega arith)
    (λ x r q k. search rules)

-- the parts make the difference
is : (c : goal.After-sum) → c.sum.result ≡ difference c.args.weights.now c.args.xs.now c.args.ys.now
is c =
    let given = c.args in
    sum_by_from_yields_List weighed_part (zip (zip given.xs.now given.ys.now) given.weights.now) c.map.result _ c.sum.ensures.ran
    (YieldsList-from_map _ weighed_part (pairs_yielded c.map.ensures.source given.xs.now given.ys.now given.weights.now (cc) (cc) (cc)) c.map.ensures.closure (λ x r q k. search (rules, tests)))
    ∙ parts-difference given.weights.now given.xs.now given.ys.now c.requires.1

pub returns-clause-is : goal.returns-clause-is
returns-clause-is c = is c

pub returns-clause-most : goal.returns-clause-most
unfolding difference
returns-clause-most c =
    let given = c.args in
    bounded_by_length (λ row. difference given.weights.now row given.ys.now) given.xs.now c.sum.result 1099511627776 refl (is c)
    (sum_bounded c.map.result _ (length given.xs.now) 1099511627776 c.sum.result (c.sum.ensures.runs tt)
    (pairs_few c.map.ensures.source given.xs.now given.ys.now given.weights.now (cc) (cc) (cc) (length given.xs.now) (omega arith))
    c.map.ensures.closure (λ x r q k. search rules))
