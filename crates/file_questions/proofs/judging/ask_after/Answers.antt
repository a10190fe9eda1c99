-- `file_questions::judging::ask_after` meets its contract: a refusal of the `C` lines stands, then the end of the file decides, then the
-- branching.
use mathlib.Core.Path.{◌≡◌, sym, ap, ◌∙◌}
use native.Mathlib.Omega.{arith}
use Rattle.std.proofs.lemmas.Result.{err_from_is_err_and, IfOk-at_ok}
use Rattle.file_form.specs.Branches.{branch_count}
use Rattle.file_form.proofs.BranchLines.Nodes.{count_whole}
use Rattle.file_questions.specs.Steps.{left_of}
use Rattle.file_questions.proofs.FileWalk.{branches-refused, end_refused, tree_decides}
use Rattle.file_questions.proofs.judging.ask_after.Goals as goal
use Rattle.file_questions.proofs.judging.ask_after.Goals.{After-branch_count-count}

pub ask_branches-requires : goal.ask_branches-requires
ask_branches-requires c = (omega (arith, c.branch_count-count.ensures), c.requires.1)

-- as many `C` lines are asked as the file has
counted : (c : After-branch_count-count) → c.branch_count-count.result ≡ branch_count c.args.header.kind c.args.header.n
counted c = c.branch_count-count.ensures ∙ count_whole c.args.header.kind c.args.header.n c.requires.0

pub returns-in_err-tree : goal.returns-in_err-tree
returns-in_err-tree c =
    let told = err_from_is_err_and c.from_residual.result c.from_residual.ensures.1 in
    rw (told.1, told.2)
    (branches-refused _ _ _ _ (counted (goal.at.returns-in_err-tree c).After-branch_count-count) _ c.ask_branches.ensures.asked _
    (ap (left_of (λ found. found.1.now)) c.in_err-tree.was))

pub returns-in_err-on_line : goal.returns-in_err-on_line
returns-in_err-on_line c =
    let told = err_from_is_err_and c.from_residual-in_err-on_line.result c.from_residual-in_err-on_line.ensures.1 in
    rw (told.1, told.2)
    (end_refused _ _ _ _ (counted (goal.at.returns-in_err-on_line c).After-branch_count-count) _ c.ask_branches.ensures.asked _
    (ap (left_of (λ found. found.1.now)) c.in_ok-tree.was) _ c.ask_end.ensures _ (sym c.on_line.ensures ∙ c.in_err-on_line.was))

pub returns : goal.returns
returns c =
    tree_decides _ _ _ _ (counted (goal.at.returns c).After-branch_count-count) _ c.ask_branches.ensures.asked _
    (ap (left_of (λ found. found.1.now)) c.in_ok-tree.was) _ c.ask_end.ensures (sym c.on_line.ensures ∙ c.in_ok-on_line.was) _
    (c.ask_tree.ensures _ (IfOk-at_ok _ c.in_ok-tree.was c.ask_branches.ensures.tree)) _ c.on_line-2.ensures
