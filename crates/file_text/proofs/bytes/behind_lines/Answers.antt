-- What the check leaves of `file_text::bytes::behind_lines`.
use mathlib.Core.Path.{◌≡◌, subst}
use native.Mathlib.Omega.{arith}
use Rattle.file_text.specs.Steps.{BehindLines}
use Rattle.file_text.proofs.LinesBehind.{behind_none, behind_next}
use Rattle.file_text.proofs.bytes.behind_lines.Goals as goal

pub loop-line-init : goal.loop-line-init
loop-line-init c = behind_none _

pub loop-line-preserved : goal.loop-line-preserved
loop-line-preserved c = behind_next _ _ _ c.loop-line.invariant _ c.behind_piece-rest.ensures

pub returns : goal.returns
returns c =
    let all : c.loop-line._line ≡ c.args.count = omega (arith, c.loop-line-test.false) in
    subst (λ count. BehindLines c.args.text.now count c.loop-line.rest.now) all c.loop-line.invariant
