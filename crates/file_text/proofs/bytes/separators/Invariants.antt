-- `file_text::bytes::separators` meets its contract. The loop's invariant: the separators among the bytes passed are counted.
use mathlib.Core.Path.{◌≡◌}
use lib.Dec.{eqb}
use lib.ListN.{take}
use Rattle.std.specs.List.{count_by}
use Rattle.file_text.proofs.bytes.separators.Given as goal

abbrev pub invariant-loop-byte : goal.invariant-loop-byte
invariant-loop-byte l = l.count ≡ count_by (λ byte. eqb byte l.separator) (take l.byte-index l.text)
