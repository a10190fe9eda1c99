-- `file_questions::branches::branch_count` meets its contract: none in a `W` file, 2n-3 in an `F` file, as far as there are 125.
use mathlib.Core.Path.{sym, ap, ◌∙◌}
use Prim.Native.Nat.{min}
use Rattle.file_form.specs.Branches.{branch_count}
use Rattle.file_questions.proofs.branches.branch_count.Goals as goal

pub returns-in-Wagner : goal.returns-in-Wagner
returns-in-Wagner c = sym (ap (λ kind. min (branch_count kind c.args.n) 125) c.in-Wagner.is)

pub returns-in-Own : goal.returns-in-Own
returns-in-Own c = c.record_count.ensures ∙ sym (ap (λ kind. min (branch_count kind c.args.n) 125) c.in-Own.is)
