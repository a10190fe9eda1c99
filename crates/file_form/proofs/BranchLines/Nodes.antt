-- How many `C` lines there are at most, and the nodes that those of a job that is formed name.
use mathlib.Core.Path.{◌≡◌}
use mathlib.Core.Bool.{true}
use Prim.Native.Nat.{ℕ, ◌-◌, ◌*◌, ◌≤◌, min}
use native.Mathlib.Nat.{min-eq_left}
use native.Mathlib.Omega.{arith}
use lib.ListN.{length, get_or-eq_default}
use Rattle.matrix_form.specs.Shape.{most_taxa, most_characters}
use Rattle.matrix_form.specs.Questions.{one_to, within_limits}
use Rattle.matrix_form.proofs.Passing.{one_to-true}
use Rattle.file_form.specs.declared.header.Kind.{Kind}
use Rattle.file_form.specs.declared.header.Kind.TheVariants.{Wagner, Own}
use Rattle.file_form.specs.Job.{Job, JobFormed, JobWithinLimits}
use Rattle.file_form.specs.Branches.{branch_count, branched}
use Rattle.lists.proofs.Both.{and_left}
use Rattle.file_form.proofs.BranchLines.Written.{AreNodes, branched_nodes}
use Rattle.file_form.proofs.Rows.Within.{limits-high}

-- there are at most 2n-3 `C` lines
pub count_most : (kind : Kind) (n : ℕ) → branch_count kind n ≤ 2 * n - 3
count_most Wagner n = omega arith
count_most Own n = omega arith

-- of 64 taxa at most there is room for all of them
pub count_whole : (kind : Kind) (n : ℕ) → n ≤ most_taxa → min (branch_count kind n) 125 ≡ branch_count kind n
count_whole kind n few = min-eq_left (omega (arith, count_most kind n, few))

-- each ancestor of a job that is formed is a node's number
pub formed_nodes : (job : Job) → JobFormed job → AreNodes job.ancestors
unfolding within_limits
formed_nodes job formed =
    let high = limits-high job.n job.m formed.limits in
    by job.kind high.0 formed.branches_counted formed.branching_said
  where
    some : 1 ≤ job.n
    some = (one_to-true most_taxa job.n (and_left (one_to most_taxa job.n) (one_to most_characters job.m) formed.limits)).0

    by : (kind : Kind) → job.n ≤ most_taxa → length job.ancestors ≡ branch_count kind job.n → branched kind job.n job.ancestors ≡ true
        → AreNodes job.ancestors
    by Wagner most count e k =
        let none : length job.ancestors ≤ k = omega (arith, count) in
        rw (get_or-eq_default job.ancestors 0 none) (omega arith)
    by Own most count e k = branched_nodes job.n job.ancestors some most e k

-- so is each of a job within the limits
pub job_nodes : (job : Job) → JobWithinLimits job → AreNodes job.ancestors
job_nodes job within = formed_nodes job within.formed
