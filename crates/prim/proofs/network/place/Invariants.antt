-- `prim::network::place` meets its contract. The loop's invariant: what is kept of the taxa passed is changed.
use mathlib.Core.Path.{◌≡◌}
use Rattle.std.specs.Prelude.{option_and_then}
use Rattle.difference.specs.Steps.{between}
use Rattle.prim_form.proofs.InPlace.{changed}
use Rattle.prim.specs.Growing.{moved_link}
use Rattle.prim.proofs.network.place.Given as goal

abbrev pub invariant-loop-kept : goal.invariant-loop-kept
invariant-loop-kept l = l.waiting ≡ changed (option_and_then (moved_link (between l.nodes) l.v)) l.kept-index l.initial.waiting
