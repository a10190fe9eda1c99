-- The index as it is computed is the one that the paper describes, and there is no other.
use mathlib.Core.Path.{◌≡◌, refl, sym, ap, ap₂, ◌∙◌}
use Prim.Native.Nat.{ℕ, zero, suc, ◌+◌, ◌*◌, ◌/◌, ◌%◌, ◌≤◌, ◌<◌}
use native.Mathlib.Nat.{div-add-mod', mod-lt, zero-lt-suc, zero-add, add_comm, add-mul-div_right, mul-add-mod_self_right, div-eq_of_lt, mod-eq_of_lt, div-lt_iff_lt-mul, le_of_mul-le-mul_right}
use native.Mathlib.Omega.{arith}
use Rattle.consistency_form.specs.declared.index.Index.{Index}
use Rattle.std.proofs.Common.{Option, Some}
use Rattle.consistency_form.specs.Index.{thousand, IsIndex, divided, no_total, index}

-- the index is what the paper says
pub index_is : (floor total : ℕ) → IsIndex floor total (index floor total)
unfolding index
index_is floor zero = no_total refl
index_is floor (suc less) =
    divided (thousand * floor / suc less) (thousand * floor % suc less) (sym (div-add-mod' (thousand * floor) (suc less)))
    (mod-lt (thousand * floor) (zero-lt-suc less))

-- and nothing else is: quotient and remainder are the only ones of their kind
pub index-only : (floor total : ℕ) (i : Option Index) → IsIndex floor total i → i ≡ index floor total
unfolding index
index-only floor zero i (divided quotient remainder e below) = absurd (omega arith)
index-only floor zero i (no_total none) = refl
index-only floor (suc less) i (no_total none) = absurd (omega arith)
index-only floor (suc less) i (divided quotient remainder e below) =
    let total = suc less in
    let whole : thousand * floor / total ≡ quotient =
    ap (λ (x : ℕ). x / total) (e ∙ add_comm (quotient * total) remainder)
    ∙ add-mul-div_right remainder quotient (zero-lt-suc less)
    ∙ ap (λ (x : ℕ). x + quotient) (div-eq_of_lt below)
    ∙ zero-add quotient in
    let over : thousand * floor % total ≡ remainder =
    ap (λ (x : ℕ). x % total) e ∙ mul-add-mod_self_right quotient total remainder ∙ mod-eq_of_lt below in
    ap₂ (λ (q r : ℕ). Some (record { quotient = q; remainder = r })) (sym whole) (sym over)

-- where the floor is no higher than the total the index is at most 1000 thousandths
pub thousandths_most : (floor total : ℕ) → floor ≤ total → 1 ≤ total → thousand * floor / total ≤ thousand
thousandths_most floor total below some =
    let less : thousand * floor / total < thousand + 1 = (div-lt_iff_lt-mul some).1 (omega arith) in
    omega arith

-- so its quotient is at most 1000
pub quotient_most : (floor total quotient remainder : ℕ) → floor ≤ total → IsIndex floor total (Some (record { quotient = quotient; remainder = remainder }))
    → quotient ≤ thousand
quotient_most floor total q r below (divided quotient remainder e over) =
    let most : quotient * total ≤ thousand * total = omega (arith, e, below) in
    le_of_mul-le-mul_right most (omega arith)
