-- `wagner::build::build_tree` meets its contract.
use Rattle.std.proofs.Common.{arith, refl, sym, ◌≡◌, ◌+◌, ◌∙◌, [], ◌<◌, length, true≢false}
use Prim.Native.Nat.{suc}
use Rattle.matrix_form.proofs.Limits.{shaped-limits, lent_shaped}
use Rattle.matrix_form.proofs.NodeRows.{none-written}
use Rattle.wagner.proofs.AnyMatrix.{begun_in, next_in}
use Rattle.wagner.proofs.UnderWay.{begun_under_way, next_under_way, done_under_way}
use Rattle.wagner.proofs.build.build_tree.Goals as goal

pub returns-then-not-is_shaped : goal.returns-then-not-is_shaped
returns-then-not-is_shaped c = record {
  is = λ lent weighted. absurd (true≢false (sym (lent_shaped _ _ _ lent) ∙ sym c.is_shaped.ensures ∙ c.if-not-is_shaped.true));
  only = none-written _ _ _;
  unshaped = λ e. (refl, c.alone-built.ensures);
}

pub invariant_of-advancements : goal.invariant_of-advancements
invariant_of-advancements c = record { narrow = (shaped-limits _ _ _ (sym c.is_shaped.ensures ∙ c.if-not-is_shaped.false)).characters }

pub next-b-requires : goal.next-b-requires
next-b-requires c = (shaped-limits _ _ _ (sym c.is_shaped.ensures ∙ c.if-not-is_shaped.false)).taxa

pub invariant_of-renew : goal.invariant_of-renew
invariant_of-renew c =
    let within = shaped-limits _ _ _ (sym c.is_shaped.ensures ∙ c.if-not-is_shaped.false) in
    record { taxon = within.taxon; taxa = within.taxa }

pub loop-turn-init : goal.loop-turn-init
loop-turn-init c = record {
  order = refl;
  placed = begun_in _ _ _ _ c.alone-built.ensures.tree;
  size = refl;
  count = omega (arith, c.alone-built.ensures.placements.count);
  way = λ lent weighted. ([], begun_under_way _ _ _ _ lent weighted _ c.advancements-keys.ensures _ _ c.alone-built.ensures);
}

pub loop-turn-preserved : goal.loop-turn-preserved
loop-turn-preserved c =
    let inv = c.loop-turn.invariant in
    let within = shaped-limits _ _ _ (sym c.is_shaped.ensures ∙ c.if-not-is_shaped.false) in
    record {
      order = c.renew.ensures.order ∙ inv.order;
      placed =
          let more =
          next_in _ _ _ _ _ _ _ _ within.taxon within.taxa within.characters c.loop-turn-test.true inv.placed c.next-b.ensures _ _
          c.place_unasked-placed.ensures in
          let turn : c.loop-turn._turn + 1 ≡ suc c.loop-turn._turn = omega arith in
          rw (c.push.ensures.tree, turn) more;
      size = c.place_unasked-placed.auto.matrix ∙ inv.size;
      count = omega (arith, c.push.ensures.placements.count, inv.count, within.taxa, c.loop-turn-test.true);
      way = λ lent weighted.
          let way = inv.way lent weighted in
          let less : suc (length way.0) < c.args.n = omega (arith, way.1.count, inv.count, c.loop-turn-test.true) in
          let renewed = rw inv.order at c.renew.ensures.keys in
          let placed = c.place_unasked-placed.ensures in
          (_, next_under_way _ _ _ _ _ _ _ _ _ way.1 less _ c.next-b.ensures _ _ placed _ _ _ renewed c.push.ensures);
    }

pub returns : goal.returns
returns c =
    let inv = c.loop-turn.invariant in
    record {
      is = λ lent weighted.
          let way = inv.way lent weighted in
          done_under_way _ _ _ _ _ _ _ _ _ lent weighted way.1 (omega (arith, way.1.count, inv.count, c.loop-turn-test.false));
      only = inv.placed.only;
      unshaped = λ e. absurd (true≢false (sym (sym c.is_shaped.ensures ∙ c.if-not-is_shaped.false) ∙ e));
    }
