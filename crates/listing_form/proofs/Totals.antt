-- The totals that are printed are the sums of what the lines of their blocks print.
use mathlib.Core.Path.{◌≡◌, refl, sym}
use mathlib.Core.List.{List, []}
use Prim.Native.Nat.{ℕ, ◌-◌}
use native.Mathlib.Omega.{arith}
use lib.ListN.{length, get_or}
use borrow.Author.Tests.{eqb-true}
use Rattle.lists.specs.Sums.{sum_over}
use Rattle.lists.proofs.Every.{every_at}
use Rattle.matrix_form.specs.NodeRows.{row_of}
pub use Rattle.matrix_form.proofs.Limits.{Limits, limits}
use Rattle.file_form.specs.Job.{Job, JobWithinLimits, has_codes}
use Rattle.difference_form.specs.Rows.{Measure}
use Rattle.prim_form.specs.Network.{Link, network_length}
use Rattle.tree_form.specs.declared.placement.Placement.{Placement}
use Rattle.tree_form.specs.Nodes.{other_nodes}
use Rattle.tree_form.proofs.RowLengths.{OfLength}
use Rattle.wagner_form.specs.Build.{wagner_length, added_length}
use Rattle.wagner_form.proofs.Difference.{wagner-length}
use Rattle.fit_form.specs.Fit.{fitted_length, fitted_total}
use Rattle.fit_form.proofs.Matrix.Totals.{lengths-total}
use Rattle.listing_form.specs.Meant.{order_meant, measure_meant, links_meant, built_meant, states_meant}

-- `p` is the sum of the lengths of the `P` lines
pub prim_total_lem : (measure : Measure) (job : Job)
    → network_length (links_meant measure job) ≡ sum_over (λ (l : Link). l.length) (links_meant measure job)
unfolding network_length
prim_total_lem measure job = refl

-- `t` is the sum of the lengths of the `T` lines
pub tree-total : (measure : Measure) (job : Job) (tree : List ℕ)
    → fitted_total measure.step tree (states_meant job) job.n job.m
    ≡ sum_over (fitted_length measure.step tree (states_meant job) job.n job.m) (other_nodes job.n)
tree-total measure job tree = sym (lengths-total measure.step job.n job.m tree (states_meant job))

module _ (job : Job) (within : JobWithinLimits job) where
  -- each row has m codes
  pub rows_sized : OfLength job.m job.rows
  unfolding row_of has_codes
  rows_sized v low high =
      eqb-true (length (get_or job.rows (v - 1) [])) job.m
      (every_at (has_codes job.m) job.rows within.rows_full (v - 1) [] (omega arith))

  -- `w` is the sum of the lengths that the `W` lines say are added
  pub wagner-total : wagner_length (measure_meant job).rows job.n (built_meant (measure_meant job) job)
      ≡ sum_over (λ (p : Placement). p.added) (built_meant (measure_meant job) job).placements
  unfolding added_length
  wagner-total =
      let known = limits job.n job.m within.limits in
      wagner-length (order_meant job.order) job.weights job.n job.m known.taxon known.taxa job.rows within.row_count rows_sized
