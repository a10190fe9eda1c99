-- Rows of a lent matrix, and what becomes of them when a row is written.
use mathlib.Core.Path.{◌≡◌, sym, ap, ◌∙◌}
use mathlib.Core.List.{List, [], ◌++◌}
use Prim.Native.Nat.{ℕ, suc, ◌+◌, ◌-◌, ◌≤◌, ◌<◌}
use native.Mathlib.Omega.{arith}
use mathlib.Core.Logic.{by_cases}
use native.Mathlib.Decide.{dec_le}
use lib.IntN.{ℤ, pos}
use lib.ListN.{take-append-drop, length, get_or, take, drop, length-drop}
use lib.Seq.{length-take-le, get_or-take, get_or-drop, ext_get_or}
use Rattle.matrix_form.specs.NodeRows.{rows_of, with_rows}
use Rattle.matrix_form.proofs.NodeRows.{row_of-next, length-rows_of, row_of-rows_of, length-with_rows, with_rows-before, with_rows-rows, with_rows-else}
use Rattle.lists.proofs.Stripes.{stripes-before}
use Rattle.matrix_form.specs.Shape.{row, row_start, columns}
use Rattle.matrix_form.proofs.Row.{length-row}
use Rattle.tree_form.specs.Hanging.{only_row_one}
use Rattle.wagner_form.specs.Matrix.{matrix_after}
use Rattle.wagner_form.specs.Build.{Built}
use Rattle.tree_form.proofs.RowLengths.{OfLength}
use Rattle.wagner_form.proofs.BuildLength.{Sound}

-- the rows of nodes 1 to count in a matrix that has them have m codes each
pub rows_of-each : (codes : List ℤ) (m count : ℕ) → m ≤ columns → row_start (suc count) ≤ length codes → OfLength m (rows_of codes m count)
rows_of-each codes m count wide room v l h =
    let within : v ≤ count = omega (arith, length-rows_of codes m count) in
    ap length (row_of-rows_of codes m count v l within) ∙ omega (arith, length-row codes m v)

-- a build of n taxa from the rows of a lent matrix
module _ (d : List ℤ → List ℤ → ℕ) (codes : List ℤ) (n m : ℕ) (wide : m ≤ columns) (room : row_start (suc (n + (n - 2))) ≤ length codes)
    (built : Built) (s : Sound d n m n only_row_one (rows_of codes m n) built) where
  -- there is a row for each of the n taxa and n-2 HTUs
  long : length built.rows ≡ n + (n - 2)
  long = s.growth.full

  -- behind the taxa stand those of the n-2 HTUs
  later : length (drop n built.rows) ≡ n - 2
  later = omega (arith, length-drop n built.rows, long)

  -- the rows of the taxa come first
  taxa-first : take n built.rows ≡ rows_of codes m n
  taxa-first =
      ext_get_or
      []
      (take n built.rows)
      (rows_of codes m n)
      (length-take-le n built.rows (omega (arith, long)) ∙ sym (length-rows_of codes m n))
      (λ i h. same i (omega (arith, length-take-le n built.rows (omega (arith, long)))))
    where
      same : (i : ℕ) → i < n → get_or (take n built.rows) i [] ≡ get_or (rows_of codes m n) i []
      same i h =
          get_or-take n built.rows i [] h
          ∙ sym (row_of-next built.rows i)
          ∙ s.kept (suc i) (omega arith) (omega (arith, length-rows_of codes m n))
          ∙ row_of-next (rows_of codes m n) i

  -- those of the HTUs behind them have m codes
  htus_each : (i : ℕ) → i < length (drop n built.rows) → length (get_or (drop n built.rows) i []) ≡ m
  htus_each i h =
      ap length (get_or-drop n built.rows i [] ∙ sym (row_of-next built.rows (n + i)))
      ∙ s.growth.each (suc (n + i)) (omega arith) (omega (arith, long, later))

  -- the matrix keeps its size
  pub after_size : length (matrix_after codes n built) ≡ length codes
  unfolding matrix_after
  after_size = length-with_rows codes m n (drop n built.rows) htus_each wide

  -- the matrix after the build holds the rows of all its nodes
  pub after_rows : rows_of (matrix_after codes n built) m (n + (n - 2)) ≡ built.rows
  unfolding matrix_after
  after_rows =
      ap (λ (k : ℕ). rows_of (matrix_after codes n built) m (n + k)) (sym later)
      ∙ with_rows-rows codes m n (drop n built.rows) htus_each wide (omega (arith, later))
      ∙ ap (λ (front : List (List ℤ)). front ++ drop n built.rows) (sym taxa-first)
      ∙ take-append-drop n built.rows

  -- the rows of the taxa stay
  pub after_taxon : (v : ℕ) → 1 ≤ v → v ≤ n → row (matrix_after codes n built) m v ≡ row codes m v
  unfolding matrix_after
  after_taxon = with_rows-before codes m n (drop n built.rows) htus_each wide

  -- no code is changed but those of characters 1 to m in the rows of nodes n+1 to 2n-2
  pub after_else : (v j : ℕ) → 1 ≤ v → j < columns → (n < v → v ≤ n + (n - 2) → j < m → ⊥)
      → get_or (matrix_after codes n built) (row_start v + j) (pos 0) ≡ get_or codes (row_start v + j) (pos 0)
  unfolding matrix_after
  after_else v j low h outside =
      by_cases
      (dec_le v n)
      (λ taxon. before_htus taxon)
      (λ behind. behind-taxa (v - suc n) (omega arith))
    where
      before_htus : v ≤ n
          → get_or (with_rows codes (suc n) (drop n built.rows)) (row_start v + j) (pos 0) ≡ get_or codes (row_start v + j) (pos 0)
      before_htus taxon =
          unfold with_rows in stripes-before columns (pos 0) (row_start (suc n)) (drop n built.rows) codes (row_start v + j) (omega arith)

      behind-taxa : (k : ℕ) → v ≡ suc (n + k)
          → get_or (with_rows codes (suc n) (drop n built.rows)) (row_start v + j) (pos 0) ≡ get_or codes (row_start v + j) (pos 0)
      behind-taxa k e =
          rw e
          (with_rows-else codes m n (drop n built.rows) htus_each wide k j h λ below.
          by_cases (dec_le m j) (λ past. past) (λ less. absurd (outside (omega arith) (omega (arith, later)) (omega arith))))
