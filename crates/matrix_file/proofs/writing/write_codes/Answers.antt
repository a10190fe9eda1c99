-- `matrix_file::writing::write_codes` meets its contract: each field says a code.
use mathlib.Core.Path.{ap, ◌∙◌}
use mathlib.Core.List.{[], ◌∷◌}
use lib.ListN.{drop}
use Rattle.lists.proofs.Every.{every_at}
use Rattle.text_form.specs.Decimal.{code_form, code_of}
use Rattle.text_form.specs.Lines.{fields_of}
use Rattle.file_form.specs.Rows.{codes_in}
use Rattle.lists.proofs.Stripes.{side_by_side}
use Rattle.matrix_file.proofs.writing.write_codes.Goals as goal

pub write_fields-requires-clause-callable : goal.write_fields-requires-clause-callable
write_fields-requires-clause-callable c =
    λ out field i room h l. (ap code_form l ∙ every_at code_form _ c.requires.codes_formed i [] h, room)

pub returns : goal.returns
unfolding codes_in
returns c =
    c.write_fields.ensures (λ field. code_of field ∷ []) (λ out field done after e. e)
    ∙ side_by_side code_of (drop 1 (fields_of c.args.line.now)) 0 c.args.out.now
