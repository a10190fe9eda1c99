-- `consistency::floor::narrowed` meets its contract: it calls what the definition names. Assumes nothing.
use mir.Syntax.{w32}
use mathlib.Core.Path.{ap₂, ◌∙◌}
use borrow.Author.Rules.{sfits_of}
use mir.Facts.{to_z-of_z}
use Rattle.difference_form.specs.Rows.{lower, higher}
use Rattle.fit_form.proofs.Bits.{of_bits}
use Rattle.matrix_form.specs.Spans.{span}
use Rattle.consistency.proofs.floor.narrowed.Goals as goal

pub returns : goal.returns
returns c =
    let own = c.struct_told-1.given in
    let ends = c.struct_told-2-1.given in
    ap₂ span
    (to_z-of_z {w = w32} (sfits_of c.higher.type_inv)
    ∙ of_bits higher _ _ _ (sfits_of own.0.1) (sfits_of ends.0.1) c.higher.ensures)
    (to_z-of_z {w = w32} (sfits_of c.lower.type_inv)
    ∙ of_bits lower _ _ _ (sfits_of own.1.0.1) (sfits_of ends.1.0.1) c.lower.ensures)
