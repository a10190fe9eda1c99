-- `matrix_file::reading::write_job` meets its contract: what each writer is handed is well formed and fits, and what it writes is the job's.
-- Assumes nothing.
use mathlib.Core.Path.{sym, ap, ◌∙◌}
use native.Mathlib.Omega.{arith}
use Rattle.lists.specs.Over.{over, stripes}
use Rattle.matrix_form.specs.Shape.{columns}
use Rattle.tree_form.specs.LentNumbers.{record_size}
use Rattle.file_form.specs.Job.{name_size}
use Rattle.text_form.specs.Lines.{lines_of}
use Rattle.file_form.specs.Rows.{codes_in}
use Rattle.file_form.specs.Written.{padded}
use Rattle.file_form.specs.Formed.{record_in}
use Rattle.file_form.proofs.Rows.Names.{name_first}
use Rattle.matrix_file.specs.Steps.{padded_in}
use Rattle.matrix_file.proofs.Lists.BranchLine.{line_told}
use Rattle.matrix_file.proofs.Lists.RowFormed.{line-formed}
use Rattle.matrix_file.proofs.Lists.WrittenPieces.{codes_few, name_short}
use Rattle.file_form.proofs.Lists.Sizes.{lists-full}
use Rattle.matrix_file.proofs.Lists.ReadWalk.{taxa-most, rows_given, codes_said, names_said}
use Rattle.matrix_file.proofs.Lists.ReadWalk.{weights_given, weights_said_lem}
use Rattle.matrix_file.proofs.Lists.ReadWalk.{branches_given, branches_few, records_said}
use Rattle.matrix_file.proofs.reading.write_job.Goals as goal

pub write_pieces-requires : goal.write_pieces-requires
unfolding lines_of
write_pieces-requires c =
    let rows = rows_given _ _ c.requires.answered _ c.header_lines.ensures _ c.behind_lines-rows.ensures in
    record {
      room = omega (arith, taxa-most _ _ c.requires.answered, (lists-full _ _ _ _ c.requires.full_sizes).0);
      enough = omega (arith, rows.count);
      callable =
          λ out line i room h l.
          let formed = line-formed _ _ rows _ _ h l in
          (formed.coded, omega (arith, codes_few _ formed, room));
    }

pub write_weights-requires : goal.write_weights-requires
write_weights-requires c =
    let asked = weights_given _ _ c.requires.answered _ c.behind_piece.ensures _ (lists-full _ _ _ _ c.requires.full_sizes).1 in
    record { weights_formed = asked.0; room = asked.1 }

pub write_pieces-requires-2 : goal.write_pieces-requires-2
unfolding lines_of
write_pieces-requires-2 c =
    let rows = rows_given _ _ c.requires.answered _ c.header_lines.ensures _ c.behind_lines-rows.ensures in
    record {
      room = omega (arith, taxa-most _ _ c.requires.answered, (lists-full _ _ _ _ c.requires.full_sizes).2);
      enough = omega (arith, rows.count);
      callable = λ out line i room h l. (name_short _ (line-formed _ _ rows _ _ h l), room);
    }

pub write_pieces-requires-3 : goal.write_pieces-requires-3
unfolding lines_of
write_pieces-requires-3 c =
    let few =
    branches_few _ _ c.requires.answered _ c.header_lines.ensures _ c.behind_lines-rows.ensures _ c.behind_lines-behind.ensures _
    c.branch_count.ensures in
    let lines =
    branches_given _ _ c.requires.answered _ c.header_lines.ensures _ c.behind_lines-rows.ensures _ c.behind_lines-behind.ensures _
    c.branch_count.ensures in
    record {
      room = omega (arith, few, (lists-full _ _ _ _ c.requires.full_sizes).3);
      enough = omega (arith, lines.more);
      callable =
          λ out line i room h l.
          let told = line_told _ _ lines _ _ h l in
          (told.node, (told.above, room));
    }

pub returns : goal.returns
unfolding lines_of
returns c =
    λ i.
    record {
      matrix =
          (c.write_pieces.ensures codes_in (λ out line done after e. e)
          ∙ ap (λ items. stripes columns 0 items c.args.matrix.now)
          (sym (codes_said _ _ c.requires.answered _ c.header_lines.ensures _ c.behind_lines-rows.ensures))) i;
      weights =
          (c.write_weights.ensures
          ∙ ap (λ items. over 0 items c.args.weights.now)
          (sym (weights_said_lem _ _ c.requires.answered _ c.behind_piece.ensures))) i;
      names =
          (c.write_pieces-2.ensures padded_in (λ out line done after e. e ∙ ap (λ name. over 0 (padded name) out.now) (sym (name_first line.now)))
          ∙ ap (λ items. stripes name_size 0 items c.args.names.now)
          (sym (names_said _ _ c.requires.answered _ c.header_lines.ensures _ c.behind_lines-rows.ensures))) i;
      branches =
          (c.write_pieces-3.ensures record_in (λ out line done after e. e)
          ∙ ap (λ items. stripes record_size 0 items c.args.branches.now)
          (sym (records_said _ _ c.requires.answered _ c.header_lines.ensures _ c.behind_lines-rows.ensures _
          c.behind_lines-behind.ensures _ c.branch_count.ensures))) i;
    }
