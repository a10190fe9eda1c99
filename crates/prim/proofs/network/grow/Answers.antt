-- What the check leaves of `prim::network::grow`.
use mathlib.Core.Path.{sym, ◌∙◌}
use native.Mathlib.Omega.{arith}
use Rattle.prim.proofs.Growth.{grown-start, grown_end, grown_room, grown-next}
use Rattle.prim.proofs.Waiting.{start-keeps}
use Rattle.prim.proofs.network.grow.Goals as goal

pub loop-link-init : goal.loop-link-init
loop-link-init c =
    grown-start _ _ _ _ c.requires.0 (start-keeps _ _ c.requires.0 c.requires.1 _ c.start-waiting.ensures) c.default-network.ensures

pub loop-link-smaller : goal.loop-link-smaller
loop-link-smaller c =
    let room = grown_room _ _ _ _ c.loop-link.invariant c.requires.1 c.in-Some.link (sym c.next_link.ensures ∙ c.in-Some.is) in
    omega (arith, room, c.push.ensures.links.count)

pub loop-link-preserved : goal.loop-link-preserved
loop-link-preserved c =
    grown-next _ _ _ _ c.loop-link.invariant c.requires.1 c.in-Some.link
    (sym c.next_link.ensures ∙ c.in-Some.is) _ _ c.push.ensures c.place.ensures

pub returns : goal.returns
returns c = grown_end _ _ _ _ c.loop-link.invariant (sym c.next_link.ensures ∙ c.in_default.is)
