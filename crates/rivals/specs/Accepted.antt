-- Accepted matrices, and the trees that are handed in for them.
use Rattle.std.specs.Prelude.{◌≡◌, true, false, List, ℕ, ◌-◌, ℤ, length, Ok}
use Rattle.matrix_form.specs.NodeRows.{rows_of}
use Rattle.lists.specs.Tests.{every}
use Rattle.matrix_form.specs.Questions.{all_in_range, ask_matrix}
use Rattle.file_form.specs.Job.{Job, has_codes}
use Rattle.matrix_form.specs.Outcomes.{value}
use Rattle.file_form.specs.Reading.{read_answer}
use Rattle.tree_form.specs.Nodes.{taxa_placed}
use Rattle.tree_form.specs.Growing.{growing_tree, row_one_alone}
use Rattle.matrix_form.specs.Shape.{MatrixLists}

-- an accepted matrix of n taxa and m characters, by the weights of its characters and its rows: a read accepts it, or, lent, it passes the
-- questions 12, 4, 16 and 10
pub data Accepted : ℕ → ℕ → List ℕ → List (List ℤ) → Type 0 where
  file_read : (file : List ℕ) (job : Job) → read_answer file ≡ value job → Accepted job.n job.m job.weights job.rows
  matrix_lent : (lists : MatrixLists) (n m : ℕ) → ask_matrix lists n m ≡ Ok tt
      → Accepted n m lists.weights (rows_of lists.codes m n)

-- rows of m codes from -999 to 999
pub record CodeRows (m : ℕ) (rows : List (List ℤ)) : Type 0 where
  pub full : every (has_codes m) rows ≡ true
  pub known : every all_in_range rows ≡ true

-- a growing tree of n taxa that is handed in with the rows of its HTUs n+1 to n+k-2, that no question refuses, and that is not row 1
-- alone, so that it has intervals
pub record HandedIn (n m : ℕ) (tree : List ℕ) (htus : List (List ℤ)) : Type 0 where
  pub sized : length tree ≡ 127
  pub growing : growing_tree n tree ≡ true
  pub count : length htus ≡ taxa_placed n tree - 2
  pub codes : CodeRows m htus
  pub intervals : row_one_alone tree ≡ false
