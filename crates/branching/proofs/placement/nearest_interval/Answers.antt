-- `branching::placement::nearest_interval` meets its contract: the nodes in the tree are gone through. Assumes nothing.
use mathlib.Core.Path.{sym, ◌∙◌}
use Prim.Native.Nat.{◌+◌, ◌*◌, ◌-◌, min}
use native.Mathlib.Omega.{arith}
use borrow.Author.Rules.{rules}
use borrow.Author.Tests.{tests}
use Rattle.std.proofs.lemmas.Iterator.{YieldsList-from_range}
use Rattle.std.proofs.lemmas.Iterator.Consumers.{YieldsList-from_filter}
use Rattle.matrix_form.specs.Shape.{last_node, row}
use Rattle.branching.specs.Views.{ancestors}
use Rattle.tree_form.specs.Nodes.{in_tree}
use Rattle.lists.proofs.Picked.{least_from_min_by_key}
use Rattle.difference_form.specs.Rows.{difference}
use Rattle.tree_form.specs.Placing.{from_interval}
use Rattle.branching.proofs.Entries.{nodes_in-entries}
use Rattle.tree_form.proofs.Ranges.{filter-range}
use Rattle.branching.proofs.Searching.{nearest_found}
use Rattle.branching.proofs.placement.nearest_interval.Goals as goal
use Rattle.matrix.specs.Lent.{lent_lists}

pub returns : goal.returns
unfolding last_node
returns c =
    let lent = c.args.nodes.now.lent in
    let tree = ancestors c.args.tree.now in
    let n = lent.n in
    let count = min (2 * n - 3) 125 in
    nearest_found (lent_lists lent) n lent.m tree c.args.b _ _
    (filter-range (in_tree tree) 2 count ∙ sym (nodes_in-entries tree (search rules) n))
    (least_from_min_by_key _ _ _ (from_interval (difference lent.weights.now) (row lent.matrix.now lent.m) tree c.args.b) _ c.min_by_key.ensures.ran
    (λ x r q k. search rules)
    (YieldsList-from_filter _ (in_tree tree)
    (YieldsList-from_range 2 (c.last_index-end.result + 1) count c.filter.ensures.source (omega (arith, c.last_index-end.ensures)))
    c.filter.ensures.closure (λ x b q k. search (rules, tests))))
