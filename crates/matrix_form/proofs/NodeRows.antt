-- Laws of the rows of the nodes, and of rows written into a matrix: what is written is read back, and every other row stays.
use mathlib.Core.Path.{◌≡◌, refl, sym, ap, ◌∙◌}
use mathlib.Core.Logic.{◌≢◌, by_cases}
use mathlib.Core.List.{List, [], ◌++◌}
use Prim.Native.Nat.{ℕ, suc, ◌+◌, ◌-◌, ◌*◌, ◌≤◌, ◌<◌, min}
use native.Mathlib.Omega.{arith}
use native.Mathlib.Decide.{dec_le}
use lib.IntN.{ℤ, pos}
use lib.ListN.{length, get_or, length-append, get_or-append, get_or-eq_default, take}
use lib.Seq.{get_or-append-add, ext_get_or}
use Rattle.lists.specs.Over.{over}
use Rattle.lists.proofs.Numbers.{length_map_numbers, map-numbers}
use Rattle.lists.proofs.Over.{length_over, over-else, over_item, over-part, over_past}
use Rattle.lists.proofs.Stripes.{Narrow, length-stripes, stripes-before, stripes-else, stripes_item}
use Rattle.matrix_form.specs.Shape.{columns, row_start, row, last_node, state_at}
use Rattle.matrix_form.specs.NodeRows.{row_of, rows_of, with_row, with_rows, HtusWritten}
use Rattle.matrix_form.proofs.Row.{row_same}

-- the row of the node behind the first i
pub row_of-next : (rows : List (List ℤ)) (i : ℕ) → row_of rows (suc i) ≡ get_or rows i []
unfolding row_of
row_of-next rows i = ap (λ (k : ℕ). get_or rows k []) (omega arith)

-- the rows of nodes 1 to count
module _ (codes : List ℤ) (m count : ℕ) where
  -- there are as many as nodes
  pub length-rows_of : length (rows_of codes m count) ≡ count
  unfolding rows_of
  length-rows_of = length_map_numbers (row codes m) 1 count

  -- the row at an index
  pub get_or-rows_of : (i : ℕ) → i < count → get_or (rows_of codes m count) i [] ≡ row codes m (suc i)
  unfolding rows_of
  get_or-rows_of i h = map-numbers (row codes m) [] 1 count i h ∙ ap (row codes m) (omega arith)

  -- that of node v is its row in the matrix
  pub row_of-rows_of : (v : ℕ) → 1 ≤ v → v ≤ count → row_of (rows_of codes m count) v ≡ row codes m v
  unfolding row_of
  row_of-rows_of v l h = get_or-rows_of (v - 1) (omega arith) ∙ ap (row codes m) (omega arith)

-- a matrix, a node v and a row that is written for it
module _ (codes : List ℤ) (v : ℕ) (r : List ℤ) where
  -- the matrix keeps its size
  pub length-with_row : length (with_row codes v r) ≡ length codes
  unfolding with_row
  length-with_row = length_over (row_start v) r codes

  -- the row of node v begins with the row written
  pub with_row-same : row_start v + length r ≤ length codes → row (with_row codes v r) (length r) v ≡ r
  unfolding with_row row
  with_row-same fits = over_item (row_start v) r codes fits

  -- no code outside the row's first codes changes
  pub with_row-else : (j : ℕ) → (row_start v ≤ j → j < row_start v + length r → ⊥) → get_or (with_row codes v r) j (pos 0) ≡ get_or codes j (pos 0)
  unfolding with_row
  with_row-else j outside = over-else (pos 0) (row_start v) r codes j outside

  -- the row of another node stays
  pub with_row-other : length r ≤ columns → (m u : ℕ) → m ≤ columns → 1 ≤ u → 1 ≤ v → u ≢ v → row (with_row codes v r) m u ≡ row codes m u
  with_row-other short m u wide ulow vlow ne =
      row_same codes (with_row codes v r) m u length-with_row λ i h.
      with_row-else (row_start u + i) (λ from upto. by_cases (dec_le (suc u) v) (λ less. omega arith) (λ more. omega arith))

  -- of an HTU's row of at most m codes, that is a state of an HTU
  pub row-written : (n m : ℕ) → n < v → v ≤ last_node n → length r ≤ m → m ≤ columns → HtusWritten n m codes (with_row codes v r)
  row-written n m low high short wide = record {
    size = length-with_row;
    others = λ u j l first last out.
        with_row-else (row_start u + (j - 1)) (λ from upto.
        let same : u ≡ v = omega arith in
        out (omega arith) (omega arith) (omega arith));
  }

-- where nothing is written
pub none-written : (n m : ℕ) (list : List ℤ) → HtusWritten n m list list
none-written n m list = record { size = refl; others = λ v j l first last out. refl }

-- and written over once more
pub more-written : (n m : ℕ) (old now new : List ℤ) → HtusWritten n m old now → HtusWritten n m now new → HtusWritten n m old new
more-written n m old now new before more = record {
  size = more.size ∙ before.size;
  others = λ v j l first last out. more.others v j l first last out ∙ before.others v j l first last out;
}

-- the states of the taxa stay then
pub taxon-unwritten : (n m : ℕ) (old new : List ℤ) → HtusWritten n m old new → (v j : ℕ) → 1 ≤ v → v ≤ n → 1 ≤ j → j ≤ columns
    → state_at new v j ≡ state_at old v j
taxon-unwritten n m old new written v j p q l h = written.others v j p l h (λ htu. absurd (omega arith))

-- a row written as far as the matrix goes, from where the row of node v begins or from the matrix's end
pub with_row-part : (codes : List ℤ) (v : ℕ) (r : List ℤ) (start count : ℕ) → start ≡ min (length codes) (row_start v)
    → count ≡ min (length codes - start) (length r) → over start (take count r) codes ≡ with_row codes v r
unfolding with_row
with_row-part codes v r start count e f =
    over-part start count r codes (omega arith)
    ∙ by_cases
    (dec_le (row_start v) (length codes))
    (λ inside. ap (λ (p : ℕ). over p r codes) (omega arith))
    (λ past. over_past start r codes (omega arith) ∙ sym (over_past (row_start v) r codes (omega arith)))

-- rows of m codes that are written for the nodes behind the first `count`
module _ (codes : List ℤ) (m count : ℕ) (rows : List (List ℤ)) (each : (i : ℕ) → i < length rows → length (get_or rows i []) ≡ m)
    (wide : m ≤ columns) where
  -- behind them stands no row
  past : (k : ℕ) → length rows ≤ k → length (get_or rows k []) ≡ 0
  past k h = ap length (get_or-eq_default rows [] h)

  -- no row is wider than its place
  narrow : Narrow columns rows
  narrow k =
      by_cases
      (dec_le (suc k) (length rows))
      (λ in_rows. omega (arith, each k in_rows))
      (λ out. let h : length rows ≤ k = omega arith in omega (arith, past k h))

  -- the matrix keeps its size
  pub length-with_rows : length (with_rows codes (suc count) rows) ≡ length codes
  unfolding with_rows
  length-with_rows = length-stripes columns (row_start (suc count)) rows codes

  -- the rows before them stay
  pub with_rows-before : (v : ℕ) → 1 ≤ v → v ≤ count → row (with_rows codes (suc count) rows) m v ≡ row codes m v
  unfolding with_rows
  with_rows-before v l h =
      row_same codes (with_rows codes (suc count) rows) m v length-with_rows λ j below.
      stripes-before columns (pos 0) (row_start (suc count)) rows codes (row_start v + j) (omega arith)

  -- each stands in the row of its node
  pub with_rows-row : (k : ℕ) → k < length rows → row_start (suc (count + length rows)) ≤ length codes
      → row (with_rows codes (suc count) rows) m (suc (count + k)) ≡ get_or rows k []
  unfolding with_rows row
  with_rows-row k h room =
      let place : row_start (suc (count + k)) ≡ row_start (suc count) + k * columns = omega arith in
      rw (place, sym (each k h))
      (stripes_item columns (pos 0) (row_start (suc count)) rows codes narrow k (omega (arith, each k h)))

  -- a code behind the codes of such a row, or in a row behind them all, stays
  pub with_rows-else : (k j : ℕ) → j < columns → (k < length rows → m ≤ j)
      → get_or (with_rows codes (suc count) rows) (row_start (suc (count + k)) + j) (pos 0) ≡ get_or codes (row_start (suc (count + k)) + j)
      (pos 0)
  unfolding with_rows
  with_rows-else k j h behind =
      let place : row_start (suc (count + k)) + j ≡ row_start (suc count) + k * columns + j = omega arith in
      rw place (stripes-else columns (pos 0) (row_start (suc count)) rows codes narrow k j short h)
    where
      short : length (get_or rows k []) ≤ j
      short =
          by_cases
          (dec_le (suc k) (length rows))
          (λ in_rows. omega (arith, each k in_rows, behind in_rows))
          (λ out. let h : length rows ≤ k = omega arith in omega (arith, past k h))

  -- so the matrix then holds the rows before and these
  pub with_rows-rows : row_start (suc (count + length rows)) ≤ length codes
      → rows_of (with_rows codes (suc count) rows) m (count + length rows) ≡ rows_of codes m count ++ rows
  with_rows-rows room =
      ext_get_or [] (rows_of new m all) (rows_of codes m count ++ rows)
      (length-rows_of new m all
      ∙ sym (length-append (rows_of codes m count) rows ∙ ap (λ (k : ℕ). k + length rows) (length-rows_of codes m count)))
      (λ i h. at i (omega (arith, length-rows_of new m all)))
    where
      all : ℕ
      all = count + length rows

      new : List ℤ
      new = with_rows codes (suc count) rows

      at : (i : ℕ) → i < count + length rows → get_or (rows_of new m all) i [] ≡ get_or (rows_of codes m count ++ rows) i []
      at i h =
          get_or-rows_of new m all i h
          ∙ by_cases
          (dec_le (suc i) count)
          (λ old. with_rows-before (suc i) (omega arith) old
          ∙ sym (get_or-rows_of codes m count i old)
          ∙ sym (get_or-append (rows_of codes m count) rows [] i (omega (arith, length-rows_of codes m count))))
          (λ later. behind (i - count) (omega arith) (omega arith))
        where
          behind : (k : ℕ) → i ≡ count + k → k < length rows → row new m (suc i) ≡ get_or (rows_of codes m count ++ rows) i []
          behind k e below =
              rw e
              (with_rows-row k below room
              ∙ sym (get_or-append-add (rows_of codes m count) rows k [])
              ∙ ap (λ (p : ℕ). get_or (rows_of codes m count ++ rows) (p + k) []) (length-rows_of codes m count))
