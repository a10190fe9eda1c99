-- `file_header::header::most_tabs` meets its contract: one less than the fields of the kind. Assumes nothing.
use mathlib.Core.Path.{sym, ap}
use Rattle.file_form.specs.declared.header.Kind.{Kind}
use Rattle.file_form.specs.Kinds.{kind_form}
use Rattle.file_header.proofs.header.most_tabs.Goals as goal

pub returns-in-Wagner : goal.returns-in-Wagner
returns-in-Wagner c = sym (ap (λ (kind : Kind). (kind_form kind).most_fields) c.in-Wagner.is)

pub returns-in-Own : goal.returns-in-Own
returns-in-Own c = sym (ap (λ (kind : Kind). (kind_form kind).most_fields) c.in-Own.is)
