-- What the check leaves of `fit_passes::characters::seen_down`.
use Rattle.std.proofs.Common.{◌≡◌, ◌≤◌, ℤ, refl, subst, arith, replicate, length-set, to_z-of_z, w32, to_z, of_z}
use borrow.Author.Rules.{sfits_of}
use Rattle.matrix_form.specs.Shape.{last_node}
use Rattle.tree_walk.specs.Walks.{node_at}
use Rattle.tree_walk.proofs.Walks.{node_most}
use Rattle.tree_walk.proofs.Along.{walk_of}
use Rattle.fit_passes.specs.Steps.{SeenDown, seen_at}
use Rattle.fit_passes.proofs.Pass.Standing.{sister_within}
use Rattle.fit_passes.proofs.Pass.Down.{down_first, down_next, down_all}
use Rattle.fit_passes.specs.Plans.{TaxaTree}
use Rattle.fit_passes.proofs.characters.seen_down.Goals as goal

pub loop-i-init : goal.loop-i-init
loop-i-init c =
    let plan = c.plan.inside in (
      simp length-set refl,
      λ rows j own branches parts.
          down_first plan.n _ rows j c.args.own.now own branches plan.walk.items (walk_of _ _ _ c.plan.invariant.walking branches)
          plan.below c.plan.invariant.below c.args.parts.now parts (replicate 127 c.default-seen.result) refl c.max.result c.max.ensures
          c.row1_seen.result c.row1_seen.ensures,
    )

pub offset_bounds-parts-sister : goal.offset_bounds-parts-sister
offset_bounds-parts-sister c =
    let most : c.sister.result ≤ 126 = rw c.sister.ensures (sister_within _ _ (c.plan.invariant.below.within c.tree_index-u.result)) in
    omega (arith, most)

pub bounds-parts-sister : goal.bounds-parts-sister
bounds-parts-sister c =
    let most : c.sister.result ≤ 126 = rw c.sister.ensures (sister_within _ _ (c.plan.invariant.below.within c.tree_index-u.result)) in
    omega (arith, most)

pub loop-i-preserved : goal.loop-i-preserved
unfolding node_at
loop-i-preserved c =
    let loop = c.loop-i in
    let inv = loop.invariant in
    let plan = c.plan.inside in
    let u = c.tree_index-u.result in
    let above : ℤ = (seen_at loop.seen u).state in
    let above-is : to_z w32 (of_z w32 above) ≡ above = to_z-of_z {w = w32} (sfits_of c.struct_told-1.given.0.1) in
    let state = rw above-is at c.nearest_member.ensures in
    let place = rw c.ancestor.ensures at c.tree_index-u.ensures in
    let outside = rw c.sister.ensures at c.outside_of.ensures in (
      simp length-set inv.0,
      λ rows j own branches parts.
          rw (to_z-of_z {w = w32} (sfits_of c.nearest_member.type_inv))
          (down_next plan.n _ rows j c.args.own.now own branches plan.walk.items (walk_of _ _ _ c.plan.invariant.walking branches)
          plan.below c.plan.invariant.below c.args.parts.now parts loop.seen inv.0 loop.i (omega arith)
          (omega (arith, c.loop-i-test.true, c.plan.invariant.walking.count branches)) (inv.1 rows j own branches parts) u place _ _
          (node_most _ _ _ _ c.plan.invariant.walking.down loop.i) state outside),
    )

pub returns : goal.returns
returns c =
    let loop = c.loop-i in
    let plan = c.plan.inside in
    subst (λ (r : TaxaTree). SeenDown r.taxa r.tree c.args.own.now c.args.parts.now loop.seen) c.plan.view_is
    (record {
      are = λ rows j own branches parts.
          let walks = walk_of _ _ _ c.plan.invariant.walking branches in
          let end : last_node plan.n ≤ loop.i = omega (arith, c.loop-i-test.false, c.plan.invariant.walking.count branches) in
          down_all plan.n _ rows j c.args.own.now own branches plan.walk.items walks loop.seen loop.i end
          (loop.invariant.1 rows j own branches parts);
    })
