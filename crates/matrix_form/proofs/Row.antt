-- Laws of the row of a node.
use native.Mathlib.Nat.{min_comm}
use Rattle.std.proofs.lemmas.List.{take_min, drop_min}
use mathlib.Core.Path.{◌≡◌, sym, ap, ◌∙◌}
use mathlib.Core.List.{List}
use Prim.Native.Nat.{ℕ, ◌+◌, ◌-◌, ◌≤◌, ◌<◌, min}
use native.Mathlib.Omega.{arith}
use lib.IntN.{ℤ, pos}
use lib.ListN.{length, get_or, take, drop, length-take, length-drop}
use lib.Seq.{take_all, get_or-take, get_or-drop, ext_get_or}
use Rattle.matrix_form.specs.Shape.{columns, matrix_size, row_start, row}

-- what is lent as the row of node v: of the list from where it begins, or from its end, the first m codes
pub row_part : (codes : List ℤ) (m v start count : ℕ) → start ≡ min (length codes) (row_start v) → count ≡ min m (length (drop start codes))
    → take count (drop start codes) ≡ row codes m v
unfolding row
row_part codes m v start count e f =
    ap (λ (k : ℕ). take k (drop start codes)) f
    ∙ take_min m (drop start codes)
    ∙ ap (take m) (ap (λ (k : ℕ). drop k codes) (e ∙ min_comm (length codes) (row_start v)) ∙ drop_min (row_start v) codes)

-- a row has m codes, or as many as the matrix has from its start on
pub length-row : (codes : List ℤ) (m v : ℕ) → length (row codes m v) ≡ min m (length codes - row_start v)
unfolding row
length-row codes m v = simp (length-take, length-drop)

-- so it has at most m
pub row-most : (codes : List ℤ) (m v : ℕ) → length (row codes m v) ≤ m
row-most codes m v = omega (arith, length-row codes m v)

-- and in a matrix of full size just m
pub row-length : (codes : List ℤ) (m v : ℕ) → length codes ≡ matrix_size → m ≤ columns → 1 ≤ v → v ≤ 126 → length (row codes m v) ≡ m
row-length codes m v full narrow low high = omega (arith, length-row codes m v)

-- a row of at most 128 codes is the first 128 of itself
pub row_128 : (codes : List ℤ) (m v : ℕ) → m ≤ columns → take 128 (row codes m v) ≡ row codes m v
row_128 codes m v narrow = take_all 128 (row codes m v) (omega (arith, row-most codes m v))

-- the code for a character, counted from 0
pub row-code : (codes : List ℤ) (m v j : ℕ) → j < m → get_or (row codes m v) j (pos 0) ≡ get_or codes (row_start v + j) (pos 0)
unfolding row
row-code codes m v j h = get_or-take m (drop (row_start v) codes) j (pos 0) h ∙ get_or-drop (row_start v) codes j (pos 0)

-- two matrices of one size have one row of node v if its codes are the same
pub row_same : (old new : List ℤ) (m v : ℕ) → length new ≡ length old
    → ((j : ℕ) → j < m → get_or new (row_start v + j) (pos 0) ≡ get_or old (row_start v + j) (pos 0)) → row new m v ≡ row old m v
row_same old new m v size same =
    ext_get_or
    (pos 0)
    (row new m v)
    (row old m v)
    (length-row new m v ∙ ap (λ (k : ℕ). min m (k - row_start v)) size ∙ sym (length-row old m v))
    (λ j h. let l : j < m = omega (arith, row-most new m v) in row-code new m v j l ∙ same j l ∙ sym (row-code old m v j l))
