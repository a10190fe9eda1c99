-- `matrix_file::writing::write_code` meets its contract: one code.
use mathlib.Core.Path.{sym, ap, ◌∙◌}
use borrow.Author.Rules.{sfits_of}
use lib.ListN.{set}
use mir.Facts.{to_z-of_z}
use mir.Syntax.{w32}
use Rattle.text_form.specs.Decimal.{code_form, code_of}
use Rattle.file_text.proofs.ReadAs.{read_or}
use Rattle.lists.proofs.Stripes.{over-one}
use Rattle.matrix_file.proofs.writing.write_code.Goals as goal

pub returns : goal.returns
returns c =
    ap (set c.args.out.now 0)
    (to_z-of_z {w = w32} (sfits_of c.unwrap_or.type_inv)
    ∙ c.unwrap_or.ensures
    ∙ read_or code_form code_of _ _ _ c.code.ensures c.requires.formed)
    ∙ sym (over-one 0 _ c.args.out.now)
