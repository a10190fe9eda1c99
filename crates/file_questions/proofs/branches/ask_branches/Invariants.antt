-- `file_questions::branches::ask_branches` meets its contract. The loop's invariant: the lines that are left decide, and the tree is that
-- of the lines passed.
use mathlib.Core.Path.{◌≡◌}
use Rattle.tree_form.specs.Ancestors.{tree_with}
use Rattle.file_form.specs.Branches.{branch_sort}
use Rattle.file_questions.proofs.LinesWalk.{LinesLeft}
use Rattle.file_questions.proofs.BranchLines.Said.{said_in}
use Rattle.file_questions.proofs.branches.ask_branches.Given as goal

abbrev pub invariant-loop-done : goal.invariant-loop-done
invariant-loop-done l =
    LinesLeft branch_sort l.fn.text l.fn.count l.fn.first l.rest l.done × (l.above ≡ tree_with (said_in l.fn.text l.done))
