-- `listing::call::put_file` meets its contract: the listing of what was read, or the line of the refusal. Assumes nothing.
use borrow.Author.Rules.{rules}
use mathlib.Core.Path.{◌≡◌}
use lib.ListN.{length}
use Rattle.matrix_form.specs.Shape.{matrix_size}
use Rattle.tree_form.specs.LentNumbers.{lent_numbers}
use Rattle.file_form.specs.Written.{names_size}
use Rattle.lines.proofs.Puts.{put_same}
use Rattle.listing.proofs.ReadListed.{refused-printed, accepted_lent, accepted_weighed, accepted_branching, accepted_printed}
use Rattle.listing.proofs.call.put_file.Goals as goal
use Rattle.listing.proofs.call.put_file.Goals.{After-read}

-- the lists have their full size
sizes : (c : After-read) → (length c.args.room.now.lists.matrix ≡ matrix_size) × (length c.args.room.now.lists.names ≡ names_size)
    × (length c.args.room.now.lists.branches ≡ lent_numbers)
sizes c = (search rules, search rules, search rules)

pub put_job-requires : goal.put_job-requires
put_job-requires c =
    let full = sizes (goal.at.put_job-requires c).After-read in record {
      lent_matrix = (
        accepted_lent _ _ _ _ c.read.ensures full.0 c.requires full.1 full.2 _ c.in-Ok.is,
        accepted_weighed _ _ _ _ c.read.ensures full.0 c.requires full.1 full.2 _ c.in-Ok.is,
      );
      branching_lent = accepted_branching _ _ _ _ c.read.ensures full.0 c.requires full.1 full.2 _ c.in-Ok.is;
    }

pub returns-in-Err : goal.returns-in-Err
returns-in-Err c =
    let full = sizes (goal.at.returns-in-Err c).After-read in
    put_same (refused-printed _ _ _ _ c.read.ensures full.0 c.requires full.1 full.2 _ c.in-Err.is)
    (rw c.number.ensures at c.put_refusal_line.ensures)

pub returns-in-Ok : goal.returns-in-Ok
returns-in-Ok c =
    let full = sizes (goal.at.returns-in-Ok c).After-read in
    accepted_printed _ _ _ _ c.read.ensures full.0 c.requires full.1 full.2 _ c.in-Ok.is c.put_job.ensures
