-- `file_questions::branches::ask_tree` meets its contract: of an `F` file the tree is tested.
use Rattle.file_questions.proofs.BranchLines.Tree.{tree-none, tree-refused, tree_passed}
use Rattle.file_questions.proofs.branches.ask_tree.Goals as goal

pub returns-in-Wagner : goal.returns-in-Wagner
returns-in-Wagner c = λ above t. tree-none _ _ c.in-Wagner.is above

pub returns-then-not-is_branching : goal.returns-then-not-is_branching
returns-then-not-is_branching c =
    λ above t. tree-refused _ _ c.requires c.in-Own.is _ _ c.is_branching.ensures above t c.if-not-is_branching.true

pub returns-else-not-is_branching : goal.returns-else-not-is_branching
returns-else-not-is_branching c =
    λ above t. tree_passed _ _ c.requires c.in-Own.is _ _ c.is_branching.ensures above t c.if-not-is_branching.false
