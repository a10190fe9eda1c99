-- `wagner::records::branches` meets its contract.
use Rattle.std.proofs.Common.{◌≡◌, ◌∙◌, length, rules}
use Rattle.wagner.proofs.Lengths.{lengths-records}
use Rattle.wagner.proofs.records.branches.Goals as goal

pub returns : goal.returns
returns c =
    let size : length c.args.records ≡ 125 = search rules in
    c.with_records.ensures ∙ lengths-records _ _ _ _ _ _ size c.lengths.ensures
