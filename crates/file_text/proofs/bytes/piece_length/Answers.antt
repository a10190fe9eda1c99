-- `file_text::bytes::piece_length` meets its contract: the index of the first separator, if there is one.
use mathlib.Core.Path.{◌∙◌}
use lib.Dec.{eqb}
use Rattle.std.proofs.Common.{rules, tests}
use Rattle.std.proofs.lemmas.Iterator.{YieldsList-from_slice}
use Rattle.std.proofs.lemmas.Iterator.Search.{position_from_yields_List}
use Rattle.text_form.proofs.Slices.{piece_found}
use Rattle.file_text.proofs.bytes.piece_length.Goals as goal

pub returns : goal.returns
returns c =
    c.unwrap_or.ensures
    ∙ piece_found c.args.separator c.args.text.now c.position.result
    (position_from_yields_List (λ byte. eqb byte c.args.separator) _ _ c.position.result c.position.ensures.ran
    (YieldsList-from_slice c.args.text.now cc) (λ x b q k. search (rules, tests)))
