-- `branching::tree::Tree::place` meets its contract. Assumes nothing.
use mathlib.Core.Path.{◌≡◌, sym, ◌∙◌}
use borrow.Author.Rules.{rules}
use Rattle.std.specs.Prelude.{Err}
use Rattle.branching.specs.declared.placement.NotPlaced.{NotPlaced}
use Rattle.tree_form.proofs.Mapped.{mapped_ok, mapped_err}
use Rattle.branching.proofs.Handing.{hands_refusal, hands_placement}
use Rattle.branching.proofs.tree.Tree.place.Goals as goal

pub returns-in_err-map_err : goal.returns-in_err-map_err
returns-in_err-map_err c =
    let told = mapped_err _ c.ask_placement.result _ c.map_err.ensures.cases _ c.in_err-map_err.was in
    let kept : NotPlaced = record { tree = c.args.self; refusal = told.0 } in
    let is : c.in_err-map_err.field-0.0 ≡ kept = search (rules, told.2) in
    let handed : c.from_residual.result ≡ Err c.in_err-map_err.field-0.0 = search rules in
    rw (handed, is) (hands_refusal _ _ _ c.args.self _ told.0 (sym c.ask_placement.ensures ∙ told.1))

pub returns : goal.returns
returns c =
    let passed = mapped_ok _ c.ask_placement.result _ c.map_err.ensures.cases _ c.in_ok-map_err.was in
    hands_placement _ _ _ _ _ _ _ (sym c.ask_placement.ensures ∙ passed) c.place_unasked.ensures
