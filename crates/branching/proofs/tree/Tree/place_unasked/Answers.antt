-- `branching::tree::Tree::place_unasked` meets its contract. Assumes nothing.
use mathlib.Core.Path.{refl}
use Rattle.branching.proofs.Unasked.{zero_placement, done_beyond, done-linked, done-hung}
use Rattle.branching.proofs.tree.Tree.place_unasked.Goals as goal

pub returns-then-n-gt-MOST_TAXA : goal.returns-then-n-gt-MOST_TAXA
returns-then-n-gt-MOST_TAXA c =
    done_beyond _ _ _ _ _ _ c.then-n-gt-MOST_TAXA.either refl (zero_placement _ c.default.ensures)

pub returns-in-None : goal.returns-in-None
returns-in-None c =
    done-linked _ _ _ _ _ c.if-n-gt-MOST_TAXA.false c.if-m-gt-MOST_CHARACTERS.false _ c.in-None.ensures c.link_first.ensures

pub returns-in-Some : goal.returns-in-Some
returns-in-Some c =
    done-hung _ _ _ _ _ c.if-n-gt-MOST_TAXA.false c.if-m-gt-MOST_CHARACTERS.false _ _ _ c.in-Some.ensures.1 c.in-Some.ensures.0
    c.hang_on.ensures
