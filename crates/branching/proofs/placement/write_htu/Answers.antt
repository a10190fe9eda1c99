-- `branching::placement::write_htu` meets its contract: the medians are written behind one another, and then into the row. Assumes nothing.
use mathlib.Core.Path.{refl, ◌∙◌}
use Prim.Native.Nat.{◌≤◌}
use native.Mathlib.Omega.{arith}
use borrow.Author.Rules.{rules}
use lib.ListN.{length, length-take}
use Rattle.branching.proofs.Searching.{htu_room, written_row}
use Rattle.branching.proofs.placement.write_htu.Goals as goal

pub slice_bounds-htu-end : goal.slice_bounds-htu-end
slice_bounds-htu-end c =
    htu_room _ _ _ _ _ c.row-c_row.result.now c.row-e_row.result.now _ _ _ c.requires refl c.row-b_row.ensures c.write_medians.ensures (search rules)

pub slice_bounds-write_row-end : goal.slice_bounds-write_row-end
slice_bounds-write_row-end c =
    let most : c.min-count.result ≤ length c.write_medians.new.out =
    htu_room _ _ _ _ _ c.row-c_row.result.now c.row-e_row.result.now _ _ _ c.requires refl c.row-b_row.ensures c.write_medians.ensures (search rules) in
    simp length-take (omega arith)

pub returns : goal.returns
returns c =
    c.write_row.ensures
    ∙ written_row _ _ _ _ _ _ _ _ _ _ _ _ c.requires refl c.row-b_row.ensures c.row-c_row.ensures c.row-e_row.ensures
    c.write_medians.ensures (search rules)
