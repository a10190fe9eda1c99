-- `wagner::keys::Keys::next` meets its contract.
use Rattle.std.proofs.Common.{rules, arith, ap, ◌∙◌, ℕ, not, ◌+◌}
use Rattle.std.proofs.lemmas.Iterator.{YieldsList-from_range}
use Rattle.std.proofs.lemmas.Iterator.Consumers.{YieldsList-from_filter}
use Rattle.branching.specs.Views.{ancestors}
use Rattle.tree_form.specs.Nodes.{in_tree, nodes_out}
use Rattle.std.specs.Option.{unwrap_or}
use Rattle.lists.specs.Least.{least_item}
use Rattle.lists.specs.Numbers.{numbers}
use Rattle.lists.proofs.Picked.{least_or_none, min_by_key_is}
use Rattle.tree_form.proofs.Ranges.{filter-range}
use Rattle.wagner.specs.Order.{key_of}
use Rattle.wagner.proofs.keys.Keys.next.Goals as goal

pub returns : goal.returns
unfolding key_of nodes_out
returns c =
    let n = c.args.n in
    let out = λ (v : ℕ). not (in_tree (ancestors c.args.tree.now) v) in
    let key = key_of c.args.self.now.keys in
    c.unwrap_or.ensures
    ∙ ap (λ found. unwrap_or found 0)
    (min_by_key_is key _ _ (λ x r q k. search rules) _ c.min_by_key.ensures.ran
    (YieldsList-from_filter _ out (YieldsList-from_range 1 (n + 1) n c.filter.ensures.source (omega arith))
    c.filter.ensures.closure (λ x b q k. search rules))
    ∙ ap (least_item key) (filter-range out 1 n))
    ∙ least_or_none key (nodes_out (ancestors c.args.tree.now) (numbers 1 n))
