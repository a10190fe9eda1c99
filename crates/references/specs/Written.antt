-- A finished tree handed back as a list of branch records: what the call answers, and what the lent list then holds.
use Rattle.std.specs.Prelude.{◌≡◌, List, ℕ, length}
use Rattle.matrix_form.specs.Shape.{row, MatrixLists}
use Rattle.matrix_form.specs.Outcomes.{Asked, Outcome, asked_says, afterwards}
use Rattle.difference_form.specs.Rows.{difference, node_difference}
use Rattle.tree_form.specs.declared.branch.Branch.{Branch}
use Rattle.tree_form.specs.Asking.{ask_records}
use Rattle.tree_form.specs.Branches.{with_records}

-- the difference of two nodes by the codes and weights of the matrix, those of an HTU among them
unfoldable pub code_difference : MatrixLists → ℕ → ℕ → ℕ → ℕ
code_difference lists m = node_difference (difference lists.weights) (row lists.codes m)

-- what the questions say, for a lent list of so many records
unfoldable pub records_say : MatrixLists → ℕ → ℕ → List ℕ → ℕ → Outcome (Unit {0})
records_say lists n m tree room = asked_says (ask_records lists n m tree room)

-- the call answers its questions. If none refuses, the first 2n-3 records of the lent list are those of the tree: node, immediate ancestor,
-- and length under the codes and weights of the matrix; the others are as before. After a refusal all are as before.
pub record RecordsWritten (lists : MatrixLists) (n m : ℕ) (tree : List ℕ) (old new : List Branch) (r : Asked) : Type 0 where
  pub says : r ≡ ask_records lists n m tree (length old)
  pub records : new ≡ afterwards (records_say lists n m tree (length old))
      (with_records (code_difference lists m) n tree old) old
