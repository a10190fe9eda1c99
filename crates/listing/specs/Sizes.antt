-- The numbers of taxa and characters that a legend of lines is for. No exported contract cites this file.
use Rattle.std.specs.Prelude.{ℕ, ◌≤◌}
use Rattle.matrix_form.specs.Shape.{columns}

-- n and m are within their limits
pub record SizesWithin (n m : ℕ) : Type 0 where
  pub some : 1 ≤ n
  pub taxa : n ≤ 64
  pub characters : m ≤ columns
