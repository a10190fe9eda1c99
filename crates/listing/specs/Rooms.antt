-- What a room holds for a job, as it is handed on. No public contract cites this.
use Rattle.std.specs.Prelude.{◌≡◌}
use Rattle.file_form.specs.declared.header.Header.{Header}
use Rattle.listing.specs.declared.blocks.Legend.{Legend}
use Rattle.matrix.specs.declared.lent.Lent.{Lent}
use Rattle.listing.specs.declared.job.Lists.{Lists}
use Rattle.listing.specs.declared.job.Room.{Room}

-- the matrix and the weights of lists are lent, with the numbers of a header
pub record LendsLists (lists : Lists) (header : Header) (r : Lent) : Type 0 where
  pub matrix : r.matrix.now ≡ lists.matrix
  pub weights : r.weights.now ≡ lists.weights
  pub n : r.n ≡ header.n
  pub m : r.m ≡ header.m

-- the lines of the job with a header go by what a room holds
pub record LegendOf (room : Room) (header : Header) (r : Legend) : Type 0 where
  pub names : r.names.lent.now ≡ room.lists.names
  pub n : r.names.n ≡ header.n
  pub m : r.m ≡ header.m
  pub ranges : r.ranges.now ≡ room.ranges
