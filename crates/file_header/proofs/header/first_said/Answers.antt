-- `file_header::header::first_said` meets its contract: each answer follows from the tests that led to it.
use mathlib.Core.Path.{sym, ◌∙◌}
use Rattle.lists.proofs.Between.{nat_between}
use Rattle.file_form.proofs.File.FirstForm.{fields_count}
use Rattle.file_header.proofs.HeaderWalk.{kind_none, no_count, taxa_none, characters_none, all_said}
use Rattle.file_header.proofs.header.first_said.Goals as goal

pub returns-in_err-kind : goal.returns-in_err-kind
returns-in_err-kind c = c.from_residual.ensures ∙ kind_none _ _ c.field.ensures (sym c.in_err-kind.was ∙ c.kind.ensures)

pub returns-then-not-contains : goal.returns-then-not-contains
returns-then-not-contains c =
    no_count _ _ c.field.ensures _ (sym c.in_ok-kind.was ∙ c.kind.ensures) _ _ (fields_count _ _ c.separators.ensures) c.most_tabs.ensures
    _ (nat_between _ _ _ _ c.new.ensures.start c.new.ensures.end c.new.ensures.exhausted c.contains.ensures.value) c.if-not-contains.true

pub returns-in_err-n : goal.returns-in_err-n
returns-in_err-n c =
    c.from_residual-in_err-n.ensures
    ∙ taxa_none _ _ c.field.ensures _ (sym c.in_ok-kind.was ∙ c.kind.ensures) _ c.field-2.ensures (sym c.in_err-n.was ∙ c.number.ensures.said)

pub returns-in_err-m : goal.returns-in_err-m
returns-in_err-m c =
    c.from_residual-in_err-m.ensures
    ∙ characters_none _ _ c.field.ensures _ (sym c.in_ok-kind.was ∙ c.kind.ensures) _ c.field-3.ensures
    (sym c.in_err-m.was ∙ c.number-2.ensures.said)

pub returns : goal.returns
returns c =
    all_said _ _ c.field.ensures _ (sym c.in_ok-kind.was ∙ c.kind.ensures) _ _ (fields_count _ _ c.separators.ensures) c.most_tabs.ensures
    _ (nat_between _ _ _ _ c.new.ensures.start c.new.ensures.end c.new.ensures.exhausted c.contains.ensures.value) c.if-not-contains.false _ _ c.field-2.ensures c.field-3.ensures _ _
    (sym c.in_ok-n.was ∙ c.number.ensures.said)
    (sym c.in_ok-m.was ∙ c.number-2.ensures.said)
