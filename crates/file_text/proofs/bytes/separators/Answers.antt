-- `file_text::bytes::separators` meets its contract: one less than the pieces.
use mathlib.Core.Path.{ap, ◌∙◌}
use Prim.Native.Nat.{◌+◌}
use native.Mathlib.Omega.{arith}
use lib.Dec.{eqb}
use lib.Seq.{take_all}
use Rattle.std.specs.List.{count_by}
use Rattle.text_form.proofs.Slices.{pieces_counted}
use Rattle.file_text.proofs.bytes.separators.Goals as goal

pub returns : goal.returns
returns c =
    ap (λ k. k + 1)
    (c.loop-byte.invariant
    ∙ ap (count_by (λ byte. eqb byte c.args.separator)) (take_all c.loop-byte.byte-index c.args.text.now (omega (arith, c.loop-byte-test.false))))
    ∙ pieces_counted c.args.separator c.args.text.now
