-- The floor of every accepted matrix never passes the total, of any branching and any assignment (document 02, M-102).
use mathlib.Core.Path.{◌≡◌}
use mathlib.Core.Bool.{true}
use mathlib.Core.List.{List}
use Prim.Native.Nat.{ℕ, ◌≤◌}
use lib.IntN.{ℤ}
use Rattle.std.specs.Prelude.{Some, Ok}
use Rattle.matrix_form.specs.NodeRows.{rows_of}
use Rattle.matrix_form.specs.Spans.{singles, spans_of}
use Rattle.fit_form.proofs.Matrix.Proper.{singles_proper}
use Rattle.matrix_form.specs.Outcomes.{value}
use Rattle.matrix_form.specs.Questions.{ask_matrix}
use Rattle.file_form.specs.Job.{Job}
use Rattle.file_form.specs.Reading.{read_answer}
use Rattle.difference_form.specs.Rows.{weighing}
use Rattle.tree_form.specs.Growing.{branching}
use Rattle.fit_form.specs.Fit.{fitted_total}
use Rattle.consistency_form.specs.Floor.{floor, FloorNeverPasses}
use Rattle.consistency_form.specs.Index.{thousand, IsIndex}
use Rattle.consistency_form.proofs.NeverPasses.{floor_never_passes, floor-fitted}
use Rattle.consistency_form.proofs.Division.{quotient_most}
use Rattle.rivals.specs.Accepted.{Accepted, file_read, matrix_lent}
use Rattle.rivals.proofs.Rows.{accepted_rows}
use Rattle.rivals.proofs.Demand.{taxa-limits}
use Rattle.matrix_form.specs.Shape.{MatrixLists}

module _ (n m : ℕ) (weights : List ℕ) (rows : List (List ℤ)) (matrix : Accepted n m weights rows) where
  -- no total of any branching of the taxa and any assignment is below the floor
  pub floor_lowest : FloorNeverPasses (weighing weights).step (singles rows) n m
  floor_lowest = floor_never_passes weights n m (singles rows) (taxa-limits n m (accepted_rows matrix).limits).0

  -- so no fitted total is
  pub floor_below_fit : (tree : List ℕ) → branching n tree ≡ true
      → floor (weighing weights).step (singles rows) n m ≤ fitted_total (weighing weights).step tree (singles rows) n m
  floor_below_fit tree b =
      floor-fitted weights n m tree (singles rows) (taxa-limits n m (accepted_rows matrix).limits).0 (singles_proper rows n m) (accepted_rows matrix).weighed b

  -- so the quotient of an index is at most 1000
  pub quotient_bounded : (tree : List ℕ) → branching n tree ≡ true → (quotient remainder : ℕ)
      → IsIndex (floor (weighing weights).step (singles rows) n m) (fitted_total (weighing weights).step tree (singles rows) n m) (Some (record { quotient = quotient; remainder = remainder }))
      → quotient ≤ thousand
  quotient_bounded tree b quotient remainder is =
      quotient_most (floor (weighing weights).step (singles rows) n m) (fitted_total (weighing weights).step tree (singles rows) n m) quotient remainder
      (floor_below_fit tree b) is

-- for every file that a read accepts
pub floor_of_every_file : (file : List ℕ) (job : Job) → read_answer file ≡ value job
    → FloorNeverPasses (weighing job.weights).step (singles job.rows) job.n job.m
floor_of_every_file file job e = floor_lowest job.n job.m job.weights job.rows (file_read file job e)

-- for every lent matrix that passes 12, 4, 16 and the taxa's 10
pub floor_of_every_lent_matrix : (lists : MatrixLists) (n m : ℕ) → ask_matrix lists n m ≡ Ok tt
    → FloorNeverPasses (weighing lists.weights).step (spans_of lists m n) n m
unfolding spans_of
floor_of_every_lent_matrix lists n m e = floor_lowest n m lists.weights (rows_of lists.codes m n) (matrix_lent lists n m e)
