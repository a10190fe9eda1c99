-- `branching::tree::Tree::taxa_placed` meets its contract: no taxon beyond the entries is placed. Assumes nothing.
use mathlib.Core.Path.{sym, ◌∙◌}
use Prim.Native.Nat.{◌+◌, min}
use native.Mathlib.Omega.{arith}
use borrow.Author.Rules.{rules}
use borrow.Author.Tests.{tests}
use Rattle.std.proofs.lemmas.Iterator.{YieldsList-from_range}
use Rattle.std.proofs.lemmas.Iterator.Consumers.{count_from_yields_List, YieldsList-from_filter}
use Rattle.branching.specs.Views.{ancestors}
use Rattle.tree_form.specs.Nodes.{in_tree}
use Rattle.tree_form.proofs.Ranges.{kept-range}
use Rattle.branching.proofs.Entries.{taxa_placed-entries}
use Rattle.branching.proofs.tree.Tree.taxa_placed.Goals as goal

pub returns : goal.returns
returns c =
    let tree = ancestors c.args.self.now in
    let n = c.args.n in
    count_from_yields_List _ _ c.count.ensures.ran
    (YieldsList-from_filter _ (in_tree tree)
    (YieldsList-from_range 1 (min n 126 + 1) (min n 126) (search rules) (omega arith))
    c.filter.ensures.closure (λ x b q k. search (rules, tests)))
    ∙ kept-range (in_tree tree) 1 (min n 126)
    ∙ sym (taxa_placed-entries tree (search rules) n)
