-- After an accepted read the lent bytes hold the names of the job.
use mathlib.Core.Path.{◌≡◌}
use mathlib.Core.List.{List, []}
use Prim.Native.Nat.{ℕ, ◌+◌, ◌-◌}
use native.Mathlib.Omega.{arith}
use lib.ListN.{length}
use Rattle.lists.proofs.Every.{every_at}
use Rattle.file_form.specs.Job.{Job, JobWithinLimits, name_form}
use Rattle.file_form.specs.Written.{names_size, names_written}
use Rattle.file_form.proofs.Lists.ReadLists.{job_name}
use Rattle.file_form.specs.Written.{name_bytes}
use Rattle.listing.specs.Handed.{HoldsNames}

-- the names of a job within the limits, written into a lent list of full size
pub names-held : (job : Job) → JobWithinLimits job → (lent : List ℕ) → length lent ≡ names_size
    → HoldsNames job.n job.names (names_written job.names lent)
unfolding name_bytes
names-held job within lent full =
    record {
      held = λ k h. let place : k + 1 - 1 ≡ k = omega arith in rw place at (job_name job within lent full (k + 1) (omega arith) (omega arith));
      formed = λ k h. every_at name_form job.names within.names_formed k [] (omega (arith, within.name_count));
    }
