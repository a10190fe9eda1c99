-- `fit_passes::characters::fit_character` meets its contract: the states of each node are found from both passes.
use Rattle.std.proofs.Common.{ℕ, ◌-◌, ◌^◌, min, Bool, cond, List, pos, sym, ap, ◌∙◌, subst, arith, zero-add, rules}
use borrow.Author.Tests.{le-ltb}
use Rattle.lists.proofs.Numbers.{map-numbers}
use Rattle.matrix_form.specs.Shape.{last_node}
use Rattle.tree_walk.specs.Walks.{below_at}
use Rattle.tree_form.proofs.Ranges.{made-map}
use Rattle.fit_passes.specs.Steps.{own_in, PartsUp, part_at, SeenDown, seen_at, states_at, states_from, states_up_to, Fits}
use Rattle.fit_passes.specs.Plans.{TaxaTree}
use Rattle.fit_form.specs.declared.characters.States.{States}
use Rattle.fit_passes.proofs.Pass.Standing.{taxa-most}
use Rattle.fit_passes.proofs.Pass.Found.{states_found}
use Rattle.fit_passes.proofs.characters.fit_character.Goals as goal

pub returns : goal.returns
unfolding last_node
returns c =
    let plan = c.plan.inside in
    let own = c.args.own.now in
    let found = c.parts_up-parts.result in
    let looked = c.seen_down-seen.result in
    let up = subst (λ (r : TaxaTree). PartsUp r.taxa r.tree own found) (sym c.plan.view_is) c.parts_up-parts.ensures in
    let down = subst (λ (r : TaxaTree). SeenDown r.taxa r.tree own found looked) (sym c.plan.view_is) c.seen_down-seen.ensures in
    let last = min (last_node plan.n) (2 ^ 64 - 1) in
    let states : ℕ → States = λ v. states_up_to last v (own_in own v) (part_at found (below_at plan.below v).first) (part_at found
    (below_at plan.below v).second) (seen_at looked v) in
    let none : States = record { low = pos 0; high = pos 0; chosen = pos 0 } in
    let made = made-map _ states _ _ 127 none c.from_fn.ensures.items (λ v y q k. search rules) in
    subst (λ (r : TaxaTree). Fits r.taxa r.tree own c.from_fn.result) c.plan.view_is
    (record {
      are = λ rows j own_are branches v l h.
          let few = taxa-most plan.n _ branches in
          let parts = up.are rows j own_are branches in
          let seen = down.are rows j own_are branches parts v l h in
          ap (λ (s : List States). states_at s v) made
          ∙ map-numbers states none 0 127 v (omega arith)
          ∙ ap states (zero-add v)
          ∙ ap (λ (past : Bool). cond past none (states_from (own_in own v) (part_at found (below_at plan.below v).first) (part_at found
          (below_at plan.below v).second) (seen_at looked v))) (le-ltb last v (omega arith))
          ∙ states_found plan.n _ rows j own own_are branches plan.below c.plan.invariant.below found parts v l h (seen_at looked v) seen;
    })
