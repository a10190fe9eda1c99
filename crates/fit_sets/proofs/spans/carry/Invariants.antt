-- `fit_sets::spans::carry` meets its contract. The loop's invariant: the entries passed and what is still carried make up the list.
use Rattle.std.proofs.Common.{◌≡◌, ◌++◌, length, take, drop}
use Rattle.fit_sets.specs.Steps.{carried}
use Rattle.fit_sets.proofs.spans.carry.Given as goal

abbrev pub invariant-loop-here : goal.invariant-loop-here
invariant-loop-here l =
    (length l.here-items ≡ l.count)
    × (take l.here-index l.here-items ++ carried l.on (drop l.here-index l.here-items) ≡ carried l.state l.initial.here-items)
