-- `branching::tree::Tree::is_alone` meets its contract: no place holds an ancestor. Assumes nothing.
use mathlib.Core.Path.{◌≡◌, sym, ap, ◌∙◌}
use Prim.Native.Nat.{ℕ}
use borrow.Author.Rules.{rules}
use lib.Dec.{eqb}
use lib.ListN.{length, replicate}
use lib.Pointwise.{pointwise}
use Rattle.tree_form.specs.Ancestors.{ancestor}
use Rattle.branching.specs.Views.{ancestors}
use Rattle.tree_form.specs.Nodes.{has_ancestor}
use Rattle.tree_form.specs.Growing.{row_one_alone}
use Rattle.tree_form.specs.Hanging.{only_row_one}
use Rattle.tree_form.proofs.Ranges.{equal-zeros}
use Rattle.branching.proofs.tree.Tree.is_alone.Goals as goal

pub returns : goal.returns
unfolding row_one_alone has_ancestor ancestor only_row_one
returns c =
    let tree = ancestors c.args.self.now in
    let size : length tree ≡ 127 = search rules in
    c.eq.ensures
    ∙ ap (pointwise eqb tree) (c.alone.ensures ∙ ap (λ (n : ℕ). replicate n 0) (sym size))
    ∙ equal-zeros tree
