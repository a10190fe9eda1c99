-- What the check leaves of `tree_walk::descent::walk_down`.
use mathlib.Core.Path.{◌≡◌, refl, ap₂, ◌∙◌}
use mathlib.Core.List.{List}
use Prim.Native.Nat.{ℕ}
use native.Mathlib.Omega.{arith}
use borrow.Author.Rules.{rules}
use lib.ListN.{set, replicate}
use Rattle.matrix_form.specs.Shape.{last_node}
use Rattle.tree_walk.specs.Walks.{node_at}
use Rattle.tree_walk.proofs.Walks.{entries-start}
use Rattle.tree_walk.proofs.Along.{along_start, along_next, walking}
use Rattle.tree_walk.proofs.descent.walk_down.Goals as goal

pub loop-i-init : goal.loop-i-init
unfolding last_node
loop-i-init c =
    let is = c.last_index-last.ensures in
    let none = c.none-walk.ensures in
    let put = c.push.ensures in
    let count : c.push.new.self.count ≡ 1 = omega (arith, none.count, put.count) in
    let items : c.push.new.self.items ≡ set (replicate 127 0) 0 1 =
    put.items ∙ ap₂ (λ (xs : List ℕ) (k : ℕ). set xs k 1) none.items none.count in (
      omega arith,
      omega arith,
      omega arith,
      omega arith,
      search rules,
      rw items entries-start,
      λ tree pairs. rw (items, count) (along_start _ tree _ (omega arith)),
    )

pub bounds-below-walk : goal.bounds-below-walk
unfolding node_at
bounds-below-walk c = let most = c.loop-i.invariant.5 c.loop-i.i in omega arith

pub offset_bounds-below-walk : goal.offset_bounds-below-walk
offset_bounds-below-walk c = omega (arith, bounds-below-walk c)

pub loop-i-preserved : goal.loop-i-preserved
unfolding node_at
loop-i-preserved c =
    let loop = c.loop-i in
    let inv = loop.invariant in
    let below = c.loop-i-test.true in
    let within = c.requires (node_at loop.walk.items loop.i) in
    let one = c.put_node.ensures in
    let two = c.put_node-in-loop-i.ensures in
    let least = one.least in
    let more = two.least in (
      omega arith,
      two.most (one.most inv.1),
      inv.2,
      omega arith,
      two.size ∙ one.size ∙ inv.4,
      two.within within.1 (one.within within.0 inv.5),
      λ tree pairs.
          along_next _ _ _ tree _ _ inv.2 inv.4 below inv.1 pairs (inv.6 tree pairs) _ _ _ _ _ _ (one.size ∙ inv.4) refl refl one two,
    )

pub returns : goal.returns
returns c tree belows =
    let loop = c.loop-i in
    let inv = loop.invariant in
    let same : loop.i ≡ loop.walk.count = omega (arith, c.loop-i-test.false) in
    walking _ _ tree _ _ c.last_index-last.ensures inv.1 belows (λ pairs. rw same at (inv.6 tree pairs))
