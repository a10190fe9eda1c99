-- `consistency::floor::Taxa::character_floor` meets its contract: codes of 32 bits make a small floor. Assumes nothing.
use mathlib.Core.Path.{ap, ◌∙◌}
use native.Mathlib.Omega.{arith}
use borrow.Author.Rules.{sfits_of}
use lib.Signed.{nat_abs-le}
use mir.Syntax.{w32}
use mir.Val.{SFits}
use Rattle.difference_form.specs.Rows.{lower, part}
use Rattle.difference_form.proofs.Laws.Weights.{part-most}
use Rattle.fit_form.proofs.Bits.{of_bits}
use Rattle.matrix_form.specs.declared.spans.Span.{Span}
use Rattle.consistency_form.specs.Floor.{character_floor}
use Rattle.consistency.proofs.floor.Taxa.character_floor.Goals as goal

pub returns : goal.returns
unfolding character_floor
returns c =
    let weight = c.args.weight in
    let ends = c.ends-ends.result in
    let told = c.struct_told-1.given in
    let high : SFits w32 ends.high = sfits_of told.1.0.1 in
    let low : SFits w32 ends.low = sfits_of told.0.1 in
    let least : SFits w32 c.lower.result = sfits_of c.lower.type_inv in
    let end = of_bits lower ends.low ends.high _ low high c.lower.ensures in
    let found = of_bits (part weight) ends.low c.lower.result _ low least c.part.ensures.is in
    let most = part-most weight ends.low c.lower.result (omega (arith, c.ranges.weight.fits)) (nat_abs-le ends.low low.sfits)
    (nat_abs-le c.lower.result least.sfits) in
    record {
      is = found ∙ ap (part weight ends.low) end ∙ ap (λ (e : Span). part weight e.low (lower e.low e.high)) c.ends-ends.ensures.are;
      most = rw found most;
    }
