-- `prim::network::start` meets its contract: at each place stands the first link of the taxon two behind it.
use mathlib.Core.Path.{◌∙◌}
use Rattle.std.proofs.Common.{rules, ◌+◌, None}
use Rattle.difference.specs.Steps.{between}
use Rattle.lists.proofs.Arrays.{from_fn_is}
use Rattle.lists.proofs.Numbers.{map_behind}
use Rattle.prim.specs.Growing.{first_link}
use Rattle.prim.proofs.network.start.Goals as goal

pub returns : goal.returns
returns c =
    let kept = first_link (between c.args.nodes.now) c.args.nodes.now.lent.n in
    from_fn_is _ _ (λ i. kept (i + 2)) (λ i y q k. search rules) c.from_fn.result None 63 c.from_fn.ensures.items ∙ map_behind kept 2 0 63
