-- `branching::growing::Candidate::descendant_count` meets its contract: nodes 2 to 2n-2 are gone through. Assumes nothing.
use mathlib.Core.Path.{sym, ap, ◌∙◌}
use Prim.Native.Nat.{◌+◌, ◌*◌, ◌-◌}
use native.Mathlib.Omega.{arith}
use borrow.Author.Rules.{rules}
use borrow.Author.Tests.{tests}
use lib.Dec.{eqb}
use lib.ListN.{length}
use Rattle.std.proofs.lemmas.Iterator.{YieldsList-from_range}
use Rattle.std.proofs.lemmas.Iterator.Consumers.{count_from_yields_List, YieldsList-from_filter}
use Rattle.matrix_form.specs.Shape.{last_node}
use Rattle.tree_form.specs.Ancestors.{ancestor}
use Rattle.branching.specs.Views.{ancestors}
use Rattle.tree_form.specs.Nodes.{other_nodes}
use Rattle.tree_form.specs.Growing.{descendant_count}
use Rattle.tree_form.proofs.Descendants.{descendants-keep}
use Rattle.tree_form.proofs.Ranges.{kept-range}
use Rattle.branching.proofs.growing.Candidate.descendant_count.Goals as goal

pub returns : goal.returns
unfolding descendant_count other_nodes last_node
returns c =
    let tree = ancestors c.args.self.now.tree.now in
    let n = c.args.self.now.n in
    let v = c.args.v in
    let last = c.last_index-end.ensures in
    count_from_yields_List _ _ c.count.ensures.ran
    (YieldsList-from_filter _ (λ u. eqb (ancestor tree u) v)
    (YieldsList-from_range 2 (c.last_index-end.result + 1) (2 * n - 3) (search rules) (omega arith))
    c.filter.ensures.closure (λ x b q k. search (rules, tests)))
    ∙ kept-range (λ u. eqb (ancestor tree u) v) 2 (2 * n - 3)
    ∙ sym (ap length (descendants-keep tree (other_nodes n) v))
