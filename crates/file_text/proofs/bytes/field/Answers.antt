-- `file_text::bytes::field` meets its contract: the piece at an index.
use mathlib.Core.Path.{refl}
use lib.Dec.{eqb}
use Rattle.std.proofs.Common.{rules, tests}
use Rattle.std.proofs.lemmas.Iterator.Consumers.{nth_from_yields_List}
use Rattle.std.proofs.lemmas.Iterator.Splits.{YieldsList-from_slice_split}
use Rattle.text_form.specs.Bytes.{tab}
use Rattle.text_form.proofs.Slices.{field_found}
use Rattle.file_text.proofs.bytes.field.Goals as goal

pub returns : goal.returns
returns c =
    field_found c.args.line.now c.args.index c.nth.result _ c.unwrap_or.result
    (nth_from_yields_List c.nth.result c.nth.new.self c.args.index c.nth.ensures.ran
    (YieldsList-from_slice_split _ (λ byte. eqb byte tab) c.args.line.now c.split.ensures.rest c.split.ensures.done c.split.ensures.closure
    (λ x b q k. search (rules, tests))))
    refl c.unwrap_or.ensures
