-- `file_header::weights::weights_form` meets its contract: the count decides, and then each field.
use mathlib.Core.Path.{ap, sym, ◌∙◌}
use lib.ListN.{drop}
use borrow.Author.Tests.{ne_eqb}
use Rattle.std.proofs.Common.{rules, tests}
use Rattle.std.specs.Prelude.{is_some}
use Rattle.std.proofs.lemmas.Iterator.Search.{all_from_yields_List}
use Rattle.std.specs.List.{list_all}
use Rattle.text_form.specs.Bytes.{tab}
use Rattle.text_form.specs.Lines.{fields_of}
use Rattle.file_form.specs.Weights.{weight_form, weight_in}
use Rattle.text_form.proofs.Slices.{pieces_split}
use Rattle.file_text.specs.Steps.{read_as}
use Rattle.file_text.proofs.FieldsSplit.{fields_yielded}
use Rattle.file_header.proofs.WeightFields.{all_read, other-count, fields_decide}
use Rattle.file_header.proofs.weights.weights_form.Goals as goal

pub returns-then-separators-m : goal.returns-then-separators-m
unfolding fields_of
returns-then-separators-m c =
    all_from_yields_List (λ field. is_some (read_as weight_form weight_in field)) _ _ c.all.result c.all.ensures.ran
    (fields_yielded c.args.line.now c.skip.ensures.source c.skip.ensures.count c.split.ensures.rest c.split.ensures.done c.split.ensures.closure (λ x b q k. search (rules, tests)))
    (λ x b q k. search (rules, tests))
    ∙ ap (λ pieces. list_all (λ field. is_some (read_as weight_form weight_in field)) (drop 1 pieces)) (sym (pieces_split tab c.args.line.now))
    ∙ all_read (drop 1 (fields_of c.args.line.now))
    ∙ fields_decide _ _ _ c.separators.ensures c.if-separators-m.true

pub returns-else-separators-m : goal.returns-else-separators-m
returns-else-separators-m c = ne_eqb _ _ c.if-separators-m.false ∙ other-count _ _ _ c.separators.ensures c.if-separators-m.false
