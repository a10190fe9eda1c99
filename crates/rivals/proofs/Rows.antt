-- Rows of m codes: those of an accepted matrix.
use mathlib.Core.Path.{◌≡◌, ap, ◌∙◌}
use mathlib.Core.Bool.{Bool, true}
use mathlib.Core.List.{List, [], ◌++◌}
use Prim.Native.Nat.{ℕ, ◌+◌, ◌-◌, ◌≤◌, ◌<◌}
use native.Mathlib.Omega.{arith}
use borrow.Author.Tests.{eqb-true, eq-eqb}
use lib.IntN.{ℤ}
use lib.ListN.{length, get_or}
use lib.Seq.{take_all}
use Rattle.std.specs.Prelude.{Ok}
use Rattle.matrix_form.proofs.NodeRows.{row_of-rows_of, length-rows_of}
use Rattle.tree_form.proofs.RowLengths.{OfLength}
use Rattle.matrix_form.specs.NodeRows.{row_of, rows_of}
use Rattle.lists.specs.Tests.{every}
use Rattle.matrix_form.specs.Shape.{row, is_weight, MatrixLists}
use Rattle.matrix_form.specs.Questions.{within_limits, all_in_range, are_weights, ask_matrix, LentMatrix}
use Rattle.lists.proofs.Both.{and_both}
use Rattle.lists.proofs.Every.{every_at, every-from, every_append}
use Rattle.matrix_form.proofs.Passing.{matrix_passed, weights_passed, true-one_to}
use Rattle.matrix_form.proofs.Row.{row-length}
use Rattle.file_form.specs.Job.{Job, has_codes}
use Rattle.matrix_form.specs.Outcomes.{value}
use Rattle.file_form.specs.Reading.{read_answer}
use Rattle.file_form.proofs.File.FileOfRead.{file_of_read}
use Rattle.rivals.specs.Accepted.{CodeRows, Accepted, file_read, matrix_lent}

-- the row of each node has m codes
pub rows_sized : (m : ℕ) (rows : List (List ℤ)) → CodeRows m rows → OfLength m rows
unfolding row_of has_codes
rows_sized m rows codes v low high = eqb-true _ _ (every_at (has_codes m) rows codes.full (v - 1) [] (omega arith))

-- rows behind rows
pub rows_append : (m : ℕ) (rows more : List (List ℤ)) → CodeRows m rows → CodeRows m more → CodeRows m (rows ++ more)
rows_append m rows more p q =
    record {
      full = every_append (has_codes m) rows more p.full q.full;
      known = every_append all_in_range rows more p.known q.known;
    }

-- n rows of m codes within the limits, and m weights from 1 to 9
pub record MatrixRows (n m : ℕ) (weights : List ℕ) (rows : List (List ℤ)) : Type 0 where
  pub limits : within_limits n m ≡ true
  pub weighed : are_weights weights m ≡ true
  pub count : length rows ≡ n
  pub codes : CodeRows m rows

-- such are the rows of a file that a read accepts
rows_read : (file : List ℕ) (job : Job) → read_answer file ≡ value job → MatrixRows job.n job.m job.weights job.rows
rows_read file job e =
    let within = (file_of_read file job e).0 in
    record {
      limits = within.limits;
      weighed = unfold are_weights in ap (every is_weight) (take_all job.m job.weights (omega (arith, within.weight_count))) ∙ within.weights_known;
      count = within.row_count;
      codes = record { full = within.rows_full; known = within.codes_in_range };
    }

-- the rows of nodes 1 to n, entry by entry
pub row_at : (codes : List ℤ) (m n i : ℕ) → i < n → get_or (rows_of codes m n) i [] ≡ row codes m (i + 1)
unfolding row_of
row_at codes m n i h =
    let place : i ≡ i + 1 - 1 = omega arith in
    ap (λ k. get_or (rows_of codes m n) k []) place ∙ row_of-rows_of codes m n (i + 1) (omega arith) (omega arith)

-- a test that each of rows 1 to n passes, the rows of these nodes pass
rows-from : (test : List ℤ → Bool) (codes : List ℤ) (m n : ℕ) → ((v : ℕ) → 1 ≤ v → v ≤ n → test (row codes m v) ≡ true)
    → every test (rows_of codes m n) ≡ true
rows-from test codes m n h = every-from test [] (rows_of codes m n) at_index
  where
    at_index : (i : ℕ) → i < length (rows_of codes m n) → test (get_or (rows_of codes m n) i []) ≡ true
    at_index i below =
        let small : i < n = omega (arith, length-rows_of codes m n) in
        rw (row_at codes m n i small) (h (i + 1) (omega arith) (omega arith))

-- and those of a lent matrix that passes its questions
rows-lent : (lists : MatrixLists) (n m : ℕ) → ask_matrix lists n m ≡ Ok tt
    → MatrixRows n m lists.weights (rows_of lists.codes m n)
unfolding within_limits has_codes
rows-lent lists n m e =
    let lent = matrix_passed lists n m e in
    record {
      weighed = (weights_passed lists n m e).known;
      limits = and_both (true-one_to 64 n lent.taxon lent.taxa) (true-one_to 128 m lent.character lent.characters);
      count = length-rows_of lists.codes m n;
      codes = record {
        full = rows-from (has_codes m) lists.codes m n (full lent);
        known = rows-from all_in_range lists.codes m n lent.known;
      };
    }
  where
    full : LentMatrix lists.codes n m → (v : ℕ) → 1 ≤ v → v ≤ n → has_codes m (row lists.codes m v) ≡ true
    full lent v low high =
        eq-eqb _ _ (row-length lists.codes m v lent.full lent.characters low (omega (arith, lent.taxa)))

-- an accepted matrix has n rows of m codes within the limits, and m weights
pub accepted_rows : {n m : ℕ} {weights : List ℕ} {rows : List (List ℤ)} → Accepted n m weights rows → MatrixRows n m weights rows
accepted_rows (file_read file job e) = rows_read file job e
accepted_rows (matrix_lent lists n m e) = rows-lent lists n m e
