-- `branching::tree::Tree::hang_on` meets its contract. Assumes nothing.
use mathlib.Core.Path.{sym}
use Rattle.tree_form.specs.Placing.{from_interval}
use Rattle.branching.proofs.Searching.{hung_leaves}
use Rattle.branching.proofs.tree.Tree.hang_on.Goals as goal

pub returns : goal.returns
unfolding from_interval
returns c =
    hung_leaves _ _ _ _ _ _ _ _ _ _ c.requires.0 (rw (sym c.ancestor-upper.ensures) c.interval_difference-added.ensures) c.ancestor-upper.ensures c.next_htu-htu.ensures
    c.write_htu.ensures _ c.hang.ensures
