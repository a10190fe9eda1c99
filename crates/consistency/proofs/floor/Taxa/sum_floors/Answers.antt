-- What the check leaves of `consistency::floor::Taxa::sum_floors`.
use Rattle.std.proofs.Common.{◌≡◌, ℕ, ◌+◌, ◌-◌, ◌^◌, List, [], ◌∷◌, refl, ap, ◌∙◌, arith, rules, tests}
use Rattle.std.specs.List.{range_with_len, sum_by}
use Rattle.std.proofs.lemmas.Iterator.{YieldsList-from_range, YieldsList-from_map}
use Rattle.std.proofs.lemmas.Iterator.Adapters.{fits_from_length, at_most_from_yields_List}
use Rattle.std.proofs.lemmas.Iterator.Consumers.{sum_by_from_yields_List}
use Rattle.std.proofs.lemmas.List.Sums.{sum_by-cons}
use Rattle.std.proofs.lemmas.List.FromFn.{length-range_with_len}
use Rattle.lists.specs.Sums.{sum_over}
use Rattle.matrix_form.specs.Shape.{weight_at, weight_of}
use Rattle.difference_form.specs.Rows.{part}
use Rattle.tree_form.proofs.Ranges.{range-numbers}
use Rattle.consistency_form.specs.Floor.{character_floor}
use Rattle.consistency.specs.Steps.{column, column_floors}
use Rattle.consistency.proofs.floor.Taxa.sum_floors.Goals as goal

-- std's sum of what a function gives at each item
sum_by-over : (f : ℕ → ℕ) (xs : List ℕ) → sum_by f xs ≡ sum_over f xs
unfolding sum_over
sum_by-over f [] = refl
sum_by-over f (x ∷ xs) = sum_by-cons f x xs ∙ ap (λ k. f x + k) (sum_by-over f xs)

pub sum-requires-clause-fits : goal.sum-requires-clause-fits
sum-requires-clause-fits c =
    let nodes = c.args.self.now.nodes in
    let m = nodes.lent.m in
    let narrow = nodes.narrow in
    fits_from_length _ _ 128 (2 ^ 64)
    (at_most_from_yields_List (YieldsList-from_range 1 (m + 1) m c.map.ensures.source (omega arith)) (omega (arith, length-range_with_len 1 m)))
    c.map.ensures.closure (omega arith) (λ x r q k. search (rules, tests))

pub returns : goal.returns
unfolding column_floors weight_of
returns c =
    let lent = c.args.self.now.nodes.lent in
    let floor : ℕ → ℕ = λ j. character_floor (part (weight_at lent.weights.now (j - 1))) (column lent.matrix.now j 1 lent.n) in
    sum_by_from_yields_List floor (range_with_len 1 lent.m) c.map.result c.sum.result c.sum.ensures.ran
    (YieldsList-from_map _ floor (YieldsList-from_range 1 (lent.m + 1) lent.m c.map.ensures.source (omega arith)) c.map.ensures.closure
    (λ x r q k. search (rules, tests)))
    ∙ sum_by-over floor (range_with_len 1 lent.m)
    ∙ ap (sum_over floor) (range-numbers 1 lent.m)
