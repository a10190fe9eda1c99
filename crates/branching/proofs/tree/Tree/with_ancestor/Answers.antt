-- `branching::tree::Tree::with_ancestor` meets its contract: beyond the entries nothing is set. Assumes nothing.
use mathlib.Core.Path.{◌≡◌, sym}
use native.Mathlib.Omega.{arith}
use lib.ListN.{length}
use lib.Seq.{set_out}
use borrow.Author.Rules.{rules}
use Rattle.branching.proofs.tree.Tree.with_ancestor.Goals as goal

pub returns-else-v-lt-TREE_SIZE : goal.returns-else-v-lt-TREE_SIZE
returns-else-v-lt-TREE_SIZE c = let size : length c.args.self.ancestors ≡ 127 = search rules in
    sym (set_out _ _ _ (omega arith))
