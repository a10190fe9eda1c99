-- What the check leaves of `matrix_file::writing::write_weights`.
use mathlib.Core.Path.{ap, ◌∙◌}
use mathlib.Core.List.{[], ◌∷◌}
use borrow.Author.Tests.{not-true, not-false}
use native.Mathlib.Omega.{arith}
use lib.ListN.{drop, replicate}
use lib.Seq.{length-take-le}
use Rattle.text_form.specs.Lines.{fields_of}
use Rattle.file_form.specs.Weights.{weight_form, weight_in}
use Rattle.lists.proofs.Stripes.{side_by_side}
use Rattle.matrix_file.proofs.Lists.WeightsWritten.{ones_written, weights_count, weight_given, weights_written}
use Rattle.matrix_file.proofs.writing.write_weights.Goals as goal

pub returns-then-not-header : goal.returns-then-not-header
returns-then-not-header c =
    ones_written _ _ _ c.requires.weights_formed _ _ (not-true _ c.if-not-header.true)
    (c.fill.ensures.after (λ y same. same)
    ∙ ap (λ count. replicate count 1) (length-take-le c.args.header.m c.args.weights.now c.requires.room))
    c.requires.room

pub write_fields-requires : goal.write_fields-requires
write_fields-requires c =
    let there = not-false _ c.if-not-header.false in
    record {
      room = omega (arith, c.requires.room, weights_count _ _ _ c.requires.weights_formed _ c.first_piece.ensures there);
      callable =
          λ out field i room h l.
          (ap weight_form l ∙ weight_given _ _ _ c.requires.weights_formed _ c.first_piece.ensures there i h, room);
    }

pub returns : goal.returns
returns c =
    c.write_fields.ensures (λ field. weight_in field ∷ []) (λ out field done after e. e)
    ∙ side_by_side weight_in (drop 1 (fields_of c.first_piece.result.now)) 0 c.args.weights.now
    ∙ weights_written _ _ _ c.requires.weights_formed _ c.first_piece.ensures (not-false _ c.if-not-header.false) c.args.weights.now
