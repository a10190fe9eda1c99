-- `listing::call::list` meets its contract. Assumes nothing.
use borrow.Author.Rules.{rules}
use Rattle.listing.proofs.Called.{list-refused, list_written}
use Rattle.listing.proofs.call.list.Goals as goal

pub returns-then-out-ne-OUTPUT_SIZE : goal.returns-then-out-ne-OUTPUT_SIZE
returns-then-out-ne-OUTPUT_SIZE c = list-refused _ _ c.if-out-ne-OUTPUT_SIZE.true

pub returns : goal.returns
returns c =
    let done = list_written _ _ _ _ c.if-out-ne-OUTPUT_SIZE.false c.put_file.ensures.put in
    let same = c.put_file.ensures.same in
    search rules
