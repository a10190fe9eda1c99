-- The consistency index in thousandths, with what is left over (document 02, M-102).
use Rattle.std.specs.Prelude.{◌≡◌, Option, Some, None, ℕ, zero, suc, ◌+◌, ◌*◌, ◌/◌, ◌%◌, ◌<◌}
use Rattle.consistency_form.specs.declared.index.Index.{Index}

-- the index is counted in thousandths
abbrev pub thousand : ℕ
thousand = 1000

-- the index of a floor and a total: 1000 times the floor is the quotient times the total plus the remainder, which is below the total; with
-- a total of 0 there is none
pub data IsIndex (floor total : ℕ) : Option Index → Type 0 where
  divided : (quotient remainder : ℕ) → thousand * floor ≡ quotient * total + remainder → remainder < total
      → IsIndex floor total (Some (record { quotient = quotient; remainder = remainder }))
  no_total : total ≡ 0 → IsIndex floor total None

-- the index as it is computed
unfoldable pub index : ℕ → ℕ → Option Index
index floor zero = None
index floor (suc less) = Some (record { quotient = thousand * floor / suc less; remainder = thousand * floor % suc less })
