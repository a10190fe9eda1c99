-- `listing::job::results_of` meets its contract: what is found of a lent matrix without questions, put together. Assumes nothing.
use Rattle.listing.proofs.FoundResults.{found_branching, found_lent, results_found}
use Rattle.listing.proofs.job.results_of.Goals as goal

pub fitted_of-fitted-requires : goal.fitted_of-fitted-requires
fitted_of-fitted-requires c =
    let lent = c.lent.ensures in
    let after = c.lent-2.ensures in
    let network = rw (lent.matrix, lent.weights, lent.n, lent.m) at c.network_of-network.ensures in
    let built = c.build_tree-built.ensures in
    let still = found_lent _ _ _ _ _ c.requires.0 c.requires.1 _ network _ built in record {
      lent_matrix = rw (after.matrix, after.weights, after.n, after.m) (still, c.requires.1);
      branching = rw after.n (found_branching _ _ _ _ _ c.requires.0 c.requires.1 _ network _ built);
    }

pub returns-clause-found : goal.returns-clause-found
returns-clause-found c =
    let lent = c.lent.ensures in
    let after = c.lent-2.ensures in
    let network = rw (lent.matrix, lent.weights, lent.n, lent.m) at c.network_of-network.ensures in
    let built = rw c.order_meant-order.ensures at c.build_tree-built.ensures in
    results_found _ _ _ _ _ c.requires.0 c.requires.1 _ network _ built _ _ _ _
    (rw (after.matrix, after.weights, after.n, after.m) at c.fitted_of-fitted.ensures)
