-- What the check leaves of `fit_passes::characters::parts_up`.
use Rattle.std.proofs.Common.{◌≡◌, ◌+◌, ◌-◌, ◌≤◌, [], ◌∷◌, length, take, refl, subst, arith, length-append, length-set, rules}
use Rattle.std.proofs.lemmas.Iterator.Adapters.{YieldsList-from_rev_slice}
use Rattle.std.proofs.lemmas.Iterator.Consumers.{YieldsList-at, YieldsList-turn, YieldsList-end}
use Rattle.tree_walk.specs.Walks.{node_at}
use Rattle.tree_walk.proofs.Walks.{node_most}
use Rattle.tree_walk.proofs.Along.{walk_of}
use Rattle.fit_passes.proofs.Pass.Up.{walk_room, turn_back, turns_all, up_next, up-all}
use Rattle.fit_passes.specs.Plans.{TaxaTree}
use Rattle.fit_passes.specs.Steps.{PartsUp}
use Rattle.fit_passes.proofs.characters.parts_up.Goals as goal

pub loop-v-init : goal.loop-v-init
loop-v-init c = (refl, λ rows j own branches k l h. absurd (omega (arith, c.plan.invariant.walking.count branches)))

pub loop-v-preserved : goal.loop-v-preserved
unfolding node_at
loop-v-preserved c =
    let loop = c.loop-v in
    let plan = c.plan.inside in
    let i = length loop.yielded in
    let size : length plan.walk.items ≡ 127 = search rules in
    let most : plan.walk.count ≤ 126 = omega (arith, c.plan.invariant.walking.most) in
    let turn = YieldsList-turn
    (YieldsList-at c.into_iter-v-iterator.ensures.into_iter_gives
    (YieldsList-from_rev_slice (take plan.walk.count plan.walk.items) (search rules)))
    loop.yielded loop.v-iterator loop.yielded_by c.next.result c.next.new.self c.in-Some.v c.in-Some.is
    c.next.ensures.steps in
    let back = turn_back plan.walk.items plan.walk.count i c.in-Some.v.now (omega arith) turn.0 turn.1 in
    let part = rw back.1 at c.part_of.ensures in
    let before : plan.walk.count - i ≡ plan.walk.count - (i + 1) + 1 = omega (arith, back.0) in
    let more = length-append loop.yielded (c.in-Some.v ∷ []) in (
      simp length-set loop.invariant.0,
      λ rows j own branches.
          rw (more, back.1)
          (up_next plan.n _ rows j c.args.own.now own branches plan.walk.items (walk_of _ _ _ c.plan.invariant.walking branches)
          plan.below c.plan.invariant.below loop.parts loop.invariant.0 (plan.walk.count - (i + 1))
          (omega (arith, back.0, c.plan.invariant.walking.count branches)) c.part_of.result part
          (node_most _ _ _ _ c.plan.invariant.walking.down (plan.walk.count - (i + 1))) (rw before at (loop.invariant.1 rows j own branches))),
    )

pub returns : goal.returns
returns c =
    let loop = c.loop-v in
    let plan = c.plan.inside in
    let end = YieldsList-end
    (YieldsList-at c.into_iter-v-iterator.ensures.into_iter_gives
    (YieldsList-from_rev_slice (take plan.walk.count plan.walk.items) (search rules)))
    loop.yielded loop.v-iterator loop.yielded_by c.next.result c.next.new.self c.in-None.is c.next.ensures.steps in
    subst (λ (r : TaxaTree). PartsUp r.taxa r.tree c.args.own.now loop.parts) c.plan.view_is
    (record {
      are = λ rows j own branches.
          let walks = walk_of _ _ _ c.plan.invariant.walking branches in
          let room = walk_room plan.n _ plan.walk.items walks in
          let first = turns_all plan.walk.items plan.walk.count (length loop.yielded)
          (omega (arith, room, c.plan.invariant.walking.count branches)) end.1 in
          up-all plan.n _ rows j c.args.own.now own branches plan.walk.items walks
          plan.below c.plan.invariant.below loop.parts loop.invariant.0 (rw first at (loop.invariant.1 rows j own branches));
    })
