-- `branching::questions::ask_htus` meets its contract: the HTUs of the tree are gone through. Assumes nothing.
use mathlib.Core.Path.{ap, ◌∙◌}
use Prim.Native.Nat.{ℕ, ◌+◌, ◌-◌, max}
use native.Mathlib.Omega.{arith}
use Rattle.lists.specs.Numbers.{numbers}
use Rattle.matrix.specs.Lent.{lent_lists}
use Rattle.matrix_form.specs.Questions.{ask_rows_of}
use Rattle.branching.specs.Views.{ancestors}
use Rattle.tree_form.specs.Nodes.{taxa_placed}
use Rattle.tree_form.specs.Asking.{htus_of}
use Rattle.tree_form.proofs.Nodes.{taxa_placed_le}
use Rattle.branching.proofs.questions.ask_htus.Goals as goal

pub overflow_add-end : goal.overflow_add-end
overflow_add-end c = omega (arith, c.taxa_placed.ensures, c.max.ensures, taxa_placed_le (ancestors c.args.tree.now) c.args.lent.now.n)

pub returns : goal.returns
unfolding htus_of
returns c =
    let lent = c.args.lent.now in
    let count : ℕ = taxa_placed lent.n (ancestors c.args.tree.now) - 2 in
    c.ask_rows.ensures
    ∙ ap (λ (k : ℕ). ask_rows_of (lent_lists lent) lent.m (numbers (lent.n + 1) k))
    (omega (arith, c.taxa_placed.ensures, c.max.ensures))
