-- `matrix::rows::write_row` meets its contract: the part that is copied stands over the codes from where the row begins.
use mathlib.Core.List.{List}
use mathlib.Core.Path.{◌≡◌, ◌∙◌, ap}
use native.Mathlib.Omega.{arith}
use lib.IntN.{ℤ}
use lib.ListN.{length, length-take}
use Rattle.lists.specs.Over.{over}
use Rattle.lists.proofs.Over.{over-part_put}
use Rattle.matrix_form.proofs.NodeRows.{with_row-part}
use Rattle.matrix.proofs.rows.write_row.Goals as goal

pub returns : goal.returns
returns c =
    let written = c.copy_from_slice.new.self in
    let codes = c.args.matrix.now in
    let room = c.row_start-start.ensures in
    let count = c.min-count.ensures in
    let is = c.copy_from_slice.ensures.after in
    let size : length written ≡ c.min-count.result = omega (arith, ap length is, length-take c.min-count.result c.args.row.now) in
    over-part_put c.row_start-start.result c.min-count.result written codes size (omega arith)
    ∙ ap (λ (part : List ℤ). over c.row_start-start.result part codes) is
    ∙ with_row-part codes c.args.v c.args.row.now _ _ room count
