-- `tree_records::numbers::records_in` meets its contract: each record is the one of its place. Assumes nothing.
use borrow.Author.Rules.{rules}
use Rattle.tree_form.specs.LentNumbers.{record_at, records_in}
use Rattle.tree_form.proofs.Lending.{no_branch}
use Rattle.tree_form.proofs.Ranges.{made-map}
use Rattle.tree_records.proofs.numbers.records_in.Goals as goal

pub returns : goal.returns
unfolding records_in
returns c = made-map _ (record_at c.args.numbers.now) _ _ 125 no_branch c.from_fn.ensures.items (λ i y q k. search rules)
