-- `wagner::order::advancements` meets its contract.
use Rattle.std.proofs.Common.{rules, ℕ, List, ◌∙◌, ap, get_or, zero-add}
use Rattle.lists.proofs.Numbers.{map-numbers}
use Rattle.matrix.specs.Lent.{lent_lists}
use Rattle.tree_form.proofs.Ranges.{made-map}
use Rattle.wagner.specs.Order.{key_of, advancement}
use Rattle.wagner.proofs.order.advancements.Goals as goal

pub returns : goal.returns
unfolding key_of
returns c =
    let lent = c.args.nodes.now.lent in
    let sought = advancement (lent_lists lent) lent.n lent.m in
    record {
      each = λ v h.
          ap (λ (keys : List ℕ). get_or keys v 0) (made-map _ sought _ _ 65 0 c.from_fn.ensures.items (λ v y q k. search rules))
          ∙ map-numbers sought 0 0 65 v h ∙ ap sought (zero-add v);
    }
