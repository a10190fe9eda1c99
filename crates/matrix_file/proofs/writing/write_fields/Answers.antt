-- What the check leaves of `matrix_file::writing::write_fields`.
use mathlib.Core.Path.{sym, ap, subst, ◌∙◌}
use mathlib.Core.List.{map}
use native.Mathlib.Omega.{arith}
use Rattle.lists.specs.Over.{stripes}
use Rattle.text_form.specs.Lines.{fields_of}
use Rattle.matrix_file.specs.Steps.{TakesPieces}
use Rattle.matrix_file.proofs.Lists.WrittenPieces.{fields_count, fields_behind, fields_enough}
use Rattle.matrix_file.proofs.writing.write_fields.Goals as goal

pub write_pieces-requires : goal.write_pieces-requires
unfolding fields_of
write_pieces-requires g c =
    record {
      room = omega (arith, c.requires.room, fields_count c.args.line.now _ c.separators.ensures);
      enough = fields_enough _ _ c.separators.ensures _ c.behind_piece-fields.ensures;
      callable = subst (TakesPieces _ 1) (sym (fields_behind _ _ c.separators.ensures _ c.behind_piece-fields.ensures)) c.requires.callable;
    }

pub returns : goal.returns
unfolding fields_of
returns g c =
    λ says writes.
    c.write_pieces.ensures says writes
    ∙ ap (λ pieces. stripes 1 0 (map says pieces) c.args.out.now) (fields_behind _ _ c.separators.ensures _ c.behind_piece-fields.ensures)
