-- `prim::network::next_link` meets its contract: of the links kept the first of the least length is picked.
use Rattle.std.proofs.Common.{rules, tests}
use Rattle.std.proofs.lemmas.Iterator.{YieldsList-from_slice}
use Rattle.std.proofs.lemmas.Iterator.Consumers.{YieldsList-at, YieldsList-from_filter_map}
use Rattle.lists.proofs.Picked.{min_by_key_is}
use Rattle.prim.specs.Growing.{link_length}
use Rattle.prim.proofs.network.next_link.Goals as goal

pub returns : goal.returns
returns c =
    min_by_key_is link_length _ _ (λ x k q h. search rules) c.min_by_key.result c.min_by_key.ensures.ran
    (YieldsList-from_filter_map _ (λ kept. kept)
    (YieldsList-at c.filter_map.ensures.source (YieldsList-from_slice c.args.waiting.now cc))
    c.filter_map.ensures.closure
    (λ x r q k. search (rules, tests)))
