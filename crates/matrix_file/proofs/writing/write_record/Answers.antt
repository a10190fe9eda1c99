-- `matrix_file::writing::write_record` meets its contract: three numbers, one after another.
use mathlib.Core.Path.{sym, ap, ap₂, ◌∙◌}
use mathlib.Core.List.{◌++◌}
use lib.ListN.{drop}
use Rattle.lists.proofs.Over.{over-fits}
use Rattle.tree_form.specs.LentNumbers.{record_numbers}
use Rattle.file_form.specs.Branches.{ancestor_in}
use Rattle.file_form.specs.Formed.{record_in}
use Rattle.matrix_file.proofs.writing.write_record.Goals as goal

pub returns : goal.returns
unfolding ancestor_in
returns c =
    ap (λ xs. xs ++ drop 3 c.args.out.now)
    (c.copy_from_slice.ensures.after ∙ ap₂ record_numbers c.number_in-node.ensures c.number_in-ancestor.ensures)
    ∙ sym (over-fits 0 (record_in c.args.line.now) c.args.out.now c.requires.room)
