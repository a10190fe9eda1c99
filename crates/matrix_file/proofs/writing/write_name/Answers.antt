-- `matrix_file::writing::write_name` meets its contract: the name, and zeros behind it.
use mathlib.Core.Path.{ap, ◌∙◌}
use Prim.Native.Nat.{◌≤◌}
use native.Mathlib.Omega.{arith}
use lib.ListN.{length, replicate}
use Rattle.lists.specs.Over.{over}
use Rattle.file_form.specs.Job.{name_size}
use Rattle.file_form.specs.Written.{padded}
use Rattle.matrix_file.proofs.Lists.NameWritten.{name_put, zeros_room}
use Rattle.matrix_file.proofs.writing.write_name.Goals as goal

pub returns : goal.returns
returns c =
    let short : length c.first_piece-name.result.now ≤ name_size =
    omega (arith, ap length c.first_piece-name.ensures, c.requires.name_short) in
    name_put _ _ _ _ short c.requires.room c.copy_from_slice.ensures.after
    (c.fill.ensures.after (λ y same. same)
    ∙ ap (λ count. replicate count 0)
    (zeros_room c.args.out.now c.first_piece-name.result.now c.copy_from_slice.new.self short c.requires.room
    c.copy_from_slice.ensures.after))
    ∙ ap (λ name. over 0 (padded name) c.args.out.now) c.first_piece-name.ensures
