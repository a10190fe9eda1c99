-- What the check leaves of `file_lines::rows::ask_codes`.
use mathlib.Core.Path.{refl, sym, ap, ◌∙◌}
use mathlib.Core.List.{[], ◌∷◌}
use lib.ListN.{drop, length-append}
use Rattle.std.proofs.Common.{rules, tests, of_calls}
use Rattle.std.proofs.lemmas.Result.{err_from_is_err_and}
use Rattle.std.proofs.lemmas.Iterator.Consumers.{YieldsList-at, YieldsList-turn, YieldsList-end}
use Rattle.text_form.specs.Lines.{fields_of}
use Rattle.file_form.specs.Rows.{ask_codes}
use Rattle.file_text.proofs.FieldsSplit.{fields_yielded}
use Rattle.file_lines.proofs.CodesWalk.{walk-refused, walk_passed, walk_ended}
use Rattle.file_lines.proofs.rows.ask_codes.Goals as goal

pub loop-field-init : goal.loop-field-init
loop-field-init c = (search (rules, of_calls), search (rules, of_calls), refl)

pub returns-in_err-ask_field : goal.returns-in_err-ask_field
returns-in_err-ask_field c =
    let told = err_from_is_err_and c.from_residual.result c.from_residual.ensures.1 in
    let turn = YieldsList-turn
    (YieldsList-at c.into_iter-field-iterator.ensures.into_iter_gives
    (fields_yielded c.args.line.now c.skip-field-items.ensures.source c.skip-field-items.ensures.count c.split.ensures.rest c.split.ensures.done c.split.ensures.closure (λ x b q k. search (rules, tests))))
    c.loop-field.yielded c.loop-field.field-iterator c.loop-field.yielded_by c.next.result c.next.new.self c.in-Some.field c.in-Some.is
    c.next.ensures.steps in
    rw (told.1, told.2) (walk-refused _ _ c.loop-field.invariant.2 _ turn _ (sym c.ask_field.ensures ∙ c.in_err-ask_field.was))

pub loop-field-preserved : goal.loop-field-preserved
loop-field-preserved c =
    let turn = YieldsList-turn
    (YieldsList-at c.into_iter-field-iterator.ensures.into_iter_gives
    (fields_yielded c.args.line.now c.skip-field-items.ensures.source c.skip-field-items.ensures.count c.split.ensures.rest c.split.ensures.done c.split.ensures.closure (λ x b q k. search (rules, tests))))
    c.loop-field.yielded c.loop-field.field-iterator c.loop-field.yielded_by c.next.result c.next.new.self c.in-Some.field c.in-Some.is
    c.next.ensures.steps in (
      search (rules, of_calls),
      search (rules, of_calls),
      walk_passed _ _ c.loop-field.invariant.2 _ turn (sym c.ask_field.ensures ∙ c.in_ok-ask_field.was)
          ∙ ap (λ k. ask_codes (drop k (drop 1 (fields_of c.args.line.now)))) (sym (length-append c.loop-field.yielded (c.in-Some.field ∷ []))),
    )

pub returns : goal.returns
returns c =
    walk_ended _ _ c.loop-field.invariant.2
    (YieldsList-end
    (YieldsList-at c.into_iter-field-iterator.ensures.into_iter_gives
    (fields_yielded c.args.line.now c.skip-field-items.ensures.source c.skip-field-items.ensures.count c.split.ensures.rest c.split.ensures.done c.split.ensures.closure (λ x b q k. search (rules, tests))))
    c.loop-field.yielded c.loop-field.field-iterator c.loop-field.yielded_by c.next.result c.next.new.self c.in-None.is c.next.ensures.steps).1
