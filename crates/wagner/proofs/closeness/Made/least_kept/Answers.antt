-- `wagner::closeness::Made::least_kept` meets its contract.
use Rattle.std.proofs.Common.{rules, arith, sym, ◌∙◌, ap, ◌-◌, ◌*◌, ℕ}
use Rattle.std.proofs.lemmas.Iterator.{YieldsList-from_range, YieldsList-from_map}
use Rattle.std.proofs.lemmas.Iterator.Adapters.{option_map_id}
use Rattle.std.proofs.lemmas.Iterator.Consumers.{YieldsList-at, YieldsList-from_filter, min_from_yields_List}
use Rattle.branching.specs.Views.{ancestors}
use Rattle.tree_form.specs.Nodes.{in_tree, nodes_in, other_nodes}
use Rattle.lists.specs.Least.{least_key}
use Rattle.wagner.specs.Closeness.{kept}
use Rattle.tree_form.proofs.Ranges.{filter-range}
use Rattle.lists.proofs.Picked.{least_from_min}
use Rattle.wagner.proofs.closeness.Made.least_kept.Goals as goal

pub returns : goal.returns
unfolding kept nodes_in other_nodes
returns c =
    let n = c.args.self.now.nodes.lent.n in
    let tree = ancestors c.args.self.now.placed.now.tree in
    let key = kept c.args.differences.now in
    sym (option_map_id c.min.result)
    ∙ min_from_yields_List {v = λ (x : ℕ). x} _ _ c.min.ensures.ran
    (YieldsList-from_map _ key
    (YieldsList-at c.map.ensures.source
    (YieldsList-from_filter _ (in_tree tree) (YieldsList-from_range 2 (2 * n - 1) (2 * n - 3) c.filter.ensures.source (omega arith))
    c.filter.ensures.closure (λ x b q k. search rules)))
    c.map.ensures.closure (λ x r q k. search rules))
    ∙ least_from_min key _
    ∙ ap (least_key key) (filter-range (in_tree tree) 2 (2 * n - 3))
