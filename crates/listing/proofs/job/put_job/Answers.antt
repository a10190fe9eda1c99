-- `listing::job::put_job` meets its contract: what is put for what was found is the listing, for each kind of file. Assumes nothing.
use mathlib.Core.Path.{◌∙◌, ap}
use Rattle.tree_form.specs.Branches.{lent_branching}
use Rattle.tree_form.specs.Within.{branching_within}
use Rattle.fitting.proofs.Passed.{size-branching}
use Rattle.listing.specs.Found.{lists_of}
use Rattle.listing.proofs.PutJobs.{built_put, own_put}
use Rattle.listing.proofs.job.put_job.Goals as goal

pub fitted_of-fitted-requires-clause-branching : goal.fitted_of-fitted-requires-clause-branching
fitted_of-fitted-requires-clause-branching c =
    let one = ap (lent_branching c.args.header.n) c.records_in.ensures ∙ c.requires.branching_lent c.in-Own.is in
    rw c.lent.ensures.n
    (ap (branching_within c.args.header.n) c.tree_of-tree.ensures ∙ size-branching _ _ _ _ c.requires.lent_matrix.0 one)

pub returns-in-Wagner : goal.returns-in-Wagner
returns-in-Wagner c =
    let legend = c.legend.ensures in
    built_put _ c.in-Wagner.is (lists_of c.args.room.now.lists) _ _ _ _ c.results_of-found.ensures.found
    (rw (legend.n, legend.names, legend.m, legend.ranges, c.results_of-found.ensures.named) at c.put_results.ensures)

pub returns-in-Own : goal.returns-in-Own
returns-in-Own c =
    let lent = c.lent.ensures in
    let legend = c.legend-in-Own.ensures in
    own_put _ c.in-Own.is (lists_of c.args.room.now.lists) _ c.records_in.ensures _ c.tree_of-tree.ensures _ _ _ _
    (rw (lent.matrix, lent.weights, lent.n, lent.m) at c.fitted_of-fitted.ensures)
    (rw (legend.n, legend.names, legend.m, legend.ranges) at c.put_tree.ensures)
