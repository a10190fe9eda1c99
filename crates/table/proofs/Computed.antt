-- The table, computed by the checker.
use mathlib.Core.Path.{refl}
use Rattle.listing_form.proofs.Computed.{computed}
use Rattle.table.specs.Table.{text, Table}

-- all of the table holds
pub table : Table
unfolding computed text
table =
    record {
      median = refl;
      apart_sets = refl;
      common = refl;
      touching = refl;
      first_sum = record { ancestor = refl; other = refl; across = refl; half = refl };
      second_sum = record { ancestor = refl; other = refl; across = refl; half = refl };
      third_sum = record { ancestor = refl; other = refl; across = refl; half = refl };
      listing = refl;
    }
