-- `matrix_file::writing::write_weight` meets its contract: one weight.
use mathlib.Core.Path.{sym, ap, ◌∙◌}
use lib.ListN.{set}
use Rattle.file_form.specs.Weights.{weight_form, weight_in}
use Rattle.file_text.proofs.ReadAs.{read_or}
use Rattle.lists.proofs.Stripes.{over-one}
use Rattle.matrix_file.proofs.writing.write_weight.Goals as goal

pub returns : goal.returns
returns c =
    ap (set c.args.out.now 0) (c.unwrap_or.ensures ∙ read_or weight_form weight_in _ _ _ c.weight.ensures c.requires.formed)
    ∙ sym (over-one 0 _ c.args.out.now)
