-- `lines::put::Listing::put_name` meets its contract. The loop's invariant: the bytes that came so far are put. Assumes nothing.
use mathlib.Core.List.{map}
use Rattle.lines.specs.Puts.{Puts}
use Rattle.lines.proofs.put.Listing.put_name.Given as goal

abbrev pub invariant-loop-byte : goal.invariant-loop-byte
invariant-loop-byte l =
    (goal.iterator-loop-byte).can_next l.byte-iterator
    × (goal.iterator-loop-byte).is_finite l.byte-iterator
    × Puts (map (λ byte. byte.now) l.yielded) l.initial.self l.self
