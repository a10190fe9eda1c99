-- `fitting::ranges::Ranges::alike` meets its contract: a number that fits 32 bits is the one that its bits say. Assumes nothing.
use Rattle.std.proofs.Common.{replicate, to_z-of_z}
use Rattle.matrix_form.specs.Shape.{matrix_size}
use Rattle.fitting.proofs.ranges.Ranges.alike.Goals as goal

pub returns : goal.returns
returns c = λ i. record {
  low = replicate matrix_size (to_z-of_z c.ranges.low i);
  high = replicate matrix_size (to_z-of_z c.ranges.high i);
  chosen = replicate matrix_size (to_z-of_z c.ranges.chosen i);
}
