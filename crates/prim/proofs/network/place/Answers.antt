-- What the check leaves of `prim::network::place`.
use mathlib.Core.Path.{ap, ◌∙◌}
use mathlib.Core.List.{List}
use Prim.Native.Nat.{◌<◌}
use native.Mathlib.Omega.{arith}
use lib.ListN.{length, set, get_or}
use Rattle.std.specs.Prelude.{Option, None, option_and_then}
use Rattle.difference.specs.Steps.{between}
use Rattle.prim_form.specs.Network.{Link}
use Rattle.prim.specs.Growing.{moved_link}
use Rattle.prim_form.proofs.InPlace.{changed_more, changed_all}
use Rattle.prim.proofs.network.place.Goals as goal

pub loop-kept-preserved : goal.loop-kept-preserved
loop-kept-preserved c =
    let step = option_and_then (moved_link (between c.args.nodes.now) c.args.v) in
    let i = c.loop-kept.kept-index in
    let within : i < length c.args.waiting.now = omega arith in
    ap (λ (value : Option Link). set c.loop-kept.waiting i value) c.moved.ensures
    ∙ ap (λ (list : List (Option Link)). set list i (step (get_or list i None))) c.loop-kept.invariant
    ∙ changed_more step None c.args.waiting.now i within

pub returns : goal.returns
returns c =
    let all = c.told-waiting in
    c.loop-kept.invariant
    ∙ changed_all (option_and_then (moved_link (between c.args.nodes.now) c.args.v)) c.args.waiting.now c.loop-kept.kept-index (omega arith)
