-- What the check leaves of `tree_walk::descent::below_of`.
use mathlib.Core.Path.{◌≡◌, refl, sym, ap, ◌∙◌}
use Prim.Native.Nat.{◌-◌, ◌≤◌}
use native.Mathlib.Omega.{arith}
use lib.ListN.{length, length-set}
use Rattle.matrix_form.specs.Shape.{last_node}
use Rattle.tree_form.specs.Ancestors.{ancestor}
use Rattle.branching.specs.Views.{ancestors}
use Rattle.tree_walk.proofs.Descending.{descendants-size, below-start, none_within, below_more, all-within}
use Rattle.tree_walk.proofs.descent.below_of.Goals as goal

pub loop-u-init : goal.loop-u-init
unfolding last_node
loop-u-init c =
    let is = c.last_index-end.ensures in
    let zeros = c.default-below.ensures in
    (omega arith, omega arith, refl, below-start _ zeros _, none_within _ zeros)

pub loop-u-preserved : goal.loop-u-preserved
unfolding ancestor
loop-u-preserved c =
    let loop = c.loop-u in
    let inv = loop.invariant in
    let tree = ancestors c.args.tree.now in
    let place = rw c.list-list.ensures.0 at c.tree_index-above.ensures in
    let low : 2 ≤ loop.u = omega arith in (
      inv.0,
      inv.1,
      simp length-set inv.2,
      rw c.with_descendant.ensures (below_more tree loop.below loop.u _ inv.2 low place inv.3),
      rw c.with_descendant.ensures (all-within tree loop.below loop.u _ inv.2 low place place.most (omega arith) inv.4),
    )

pub returns : goal.returns
returns c =
    let loop = c.loop-u in
    let tree = ancestors c.args.tree.now in
    let last = c.last_index-end in
    let past : loop.u - 2 ≡ last.result - 1 = omega (arith, c.loop-u-test.false, loop.invariant.0) in
    record {
      are = λ v l h. rw (descendants-size _ last.result tree (sym (ap length c.list-list.ensures.0) ∙ c.list-list.ensures.1) last.ensures v l) (rw past at (loop.invariant.3 v l h));
      within = loop.invariant.4;
    }
