-- `file_text::bytes::behind_lines` meets its contract. The loop's invariant: the rest is what stands behind the lines passed.
use Rattle.file_text.specs.Steps.{BehindLines}
use Rattle.file_text.proofs.bytes.behind_lines.Given as goal

abbrev pub invariant-loop-line : goal.invariant-loop-line
invariant-loop-line l = BehindLines l.fn.text l._line l.rest
