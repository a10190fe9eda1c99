-- `lines::put::Listing::put_number` meets its contract: it puts the digits of the tenth part, then the last digit. The measure is the number.
-- Assumes nothing.
use Rattle.lines.proofs.put.Listing.+put_number.Given as goal

abbrev pub decreases-put_number : goal.decreases-put_number
decreases-put_number l = l.n
