-- `listing::job::fitted_of` meets its contract: what the calls promise, put together. Assumes nothing.
use borrow.Author.Rules.{rules}
use Rattle.listing.specs.Found.{StateLists}
use Rattle.listing.proofs.FittedTrees.{fitted_found}
use Rattle.listing.proofs.job.fitted_of.Goals as goal

pub returns : goal.returns
returns c =
    let ranges = c.args.ranges.now in
    let full : StateLists ranges.low ranges.high ranges.chosen =
    record { low_full = search rules; high_full = search rules; chosen_full = search rules } in
    fitted_found _ _ _ c.requires.lent_matrix.0 c.requires.lent_matrix.1 _ c.requires.branching _ _ _ _ _ _ full _ c.fit_tree-fit.ensures _
    c.floor_of-floor.ensures _ c.index_of.ensures
