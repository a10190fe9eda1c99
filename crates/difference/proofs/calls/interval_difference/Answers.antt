-- What the check leaves of `difference::calls::interval_difference`: after the questions there are at most 128 characters.
use mathlib.Core.Path.{sym, ◌∙◌}
use Rattle.matrix_form.proofs.Passing.{nodes_passed}
use Rattle.difference.proofs.calls.interval_difference.Goals as goal

pub invariant_of-interval_difference : goal.invariant_of-interval_difference
invariant_of-interval_difference c =
    record { narrow = (nodes_passed _ _ _ _ (sym c.ask_nodes.ensures ∙ c.in_ok-ask_nodes.was)).matrix.characters }
