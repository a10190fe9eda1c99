-- `wagner::keys::Keys::renew_closest` meets its contract.
use Rattle.std.proofs.Common.{arith, refl, rules, sym, ◌∙◌, ◌<◌, length, length-set}
use Rattle.wagner.specs.Closeness.{kept_of}
use Rattle.wagner.proofs.Renewing.{renewed_start, renewed_over, renewed_next, renewed_all}
use Rattle.wagner.proofs.keys.Keys.renew_closest.Goals.{then-not-in_tree, else-not-in_tree}
use Rattle.wagner.proofs.keys.Keys.renew_closest.Goals as goal

pub loop-v-init : goal.loop-v-init
loop-v-init c = record { order = refl; long = search rules; up_to = renewed_start _ _ _ _ _ _ _ }

pub loop-v-preserved : goal.loop-v-preserved
unfolding kept_of
loop-v-preserved c =
    let inv = c.loop-v.invariant in
    elim c.if-not-in_tree.branch [
      | then-not-in_tree w ↦
          let room : c.loop-v.v < length c.loop-v.self.keys = search rules in
          let long : c.loop-v.v < length c.loop-v.self.table = omega (arith, c.args.made.now.taxa) in
          rw w.self-is (record {
            order = inv.order;
            long = simp length-set inv.long;
            up_to = rw w.unwrap_or.ensures (renewed_next _ _ _ _ _ _ _ _ _ _ _ room long inv.up_to w.renew-key.ensures);
          })
      | else-not-in_tree w ↦
          rw w.self-is (record {
            order = inv.order;
            long = inv.long;
            up_to = renewed_over _ _ _ _ _ _ _ _ _ (sym c.in_tree.ensures ∙ w.if-not-in_tree.false) inv.up_to;
          })
    ]

pub returns : goal.returns
returns c =
    let inv = c.loop-v.invariant in
    record { order = inv.order; keys = renewed_all _ _ _ _ _ _ _ c.loop-v.v _ _ (omega arith) inv.up_to }
