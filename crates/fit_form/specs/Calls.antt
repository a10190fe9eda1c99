-- What the calls on a lent branching answer, and what the functions on a tree promise that other crates call.
use Rattle.std.specs.Prelude.{◌≡◌, ℕ, ◌+◌, ◌-◌, ◌*◌, ◌≤◌, Bool, false, ◌&&◌, List, map, length, ℤ, ◌==◌, slice_index_or}
use Rattle.lists.specs.Numbers.{numbers}
use Rattle.matrix_form.specs.Shape.{matrix_size, MatrixLists}
use Rattle.matrix_form.specs.NodeRows.{with_rows}
use Rattle.matrix_form.specs.Spans.{spans_of}
use Rattle.matrix_form.specs.Outcomes.{Asked, Outcome, answered, ask}
use Rattle.matrix_form.specs.declared.refusal.Refusal.TheVariants.{ListSize}
use Rattle.difference_form.specs.Rows.{weighing}
use Rattle.tree_form.specs.Nodes.{htus}
use Rattle.tree_form.specs.declared.branch.Branch.{Branch}
use Rattle.tree_form.specs.Branches.{ancestors_of}
use Rattle.tree_form.specs.Asking.{ask_branching}
use Rattle.fit_form.specs.Fit.{states_in, fitted_length, fitted_total, marked}
use Rattle.fit_form.specs.declared.characters.States.{States}
use Rattle.fit_form.specs.declared.whole.BranchFit.{BranchFit}
use Rattle.fit_form.specs.declared.whole.Fit.{Fit}
use Rattle.matrix_form.specs.declared.spans.Span.{Span}

-- which of a node's states: the lowest or the highest of its range, or the chosen one
pub data Which : Type 0 where
  Low : Which
  High : Which
  Chosen : Which

-- one of the states of a node
abbrev pub state_in : Which → States → ℤ
state_in Low states = states.low
state_in High states = states.high
state_in Chosen states = states.chosen

-- a list of the matrix's shape with one of the states of each HTU in each of m characters written into the HTUs' rows
unfoldable pub states_written : Which → List ℕ → List (List Span) → ℕ → ℕ → List ℤ → List ℤ
states_written which tree rows n m old =
    with_rows old (n + 1) (map (λ v. map (λ j. state_in which (states_in tree rows n v j)) (numbers 1 m)) (htus n))

-- a branch of no length and without a mark
abbrev pub no_branch : BranchFit
no_branch = record { length = 0; mark = false }

-- what is kept of the branch of node v
abbrev pub branch_at : List BranchFit → ℕ → BranchFit
branch_at branches v = slice_index_or branches v no_branch

-- a fit handed back: by node number the fitted lengths and the marks of the branches, and 0 and no mark elsewhere; the fitted total
pub record FitOf (step : ℕ → ℤ → ℤ → ℕ) (tree : List ℕ) (rows : List (List Span)) (n m : ℕ) (fit : Fit) : Type 0 where
  pub lengths : (v : ℕ) → 2 ≤ v → v ≤ 2 * n - 2 → (branch_at fit.branches v).length ≡ fitted_length step tree rows n m v
  pub no_length : (v : ℕ) → (2 ≤ v → v ≤ 2 * n - 2 → ⊥) → (branch_at fit.branches v).length ≡ 0
  pub marks : (v : ℕ) → 2 ≤ v → v ≤ 2 * n - 2 → (branch_at fit.branches v).mark ≡ marked step tree rows n m v
  pub no_mark : (v : ℕ) → (2 ≤ v → v ≤ 2 * n - 2 → ⊥) → (branch_at fit.branches v).mark ≡ false
  pub total : fit.total ≡ fitted_total step tree rows n m

-- the fitted total of a lent branching, once its questions are answered
unfoldable pub total_answer : MatrixLists → ℕ → ℕ → List Branch → Outcome ℕ
total_answer lists n m records =
    answered (ask_branching lists n m records)
    (fitted_total (weighing lists.weights).step (ancestors_of n records) (spans_of lists m n) n m)

-- three lists have the matrix's size
unfoldable pub lists_full : ℕ → ℕ → ℕ → Bool
lists_full low high chosen = low == matrix_size && (high == matrix_size && chosen == matrix_size)

-- the questions of the call for a fit: the sizes of the three lists, then those on a lent branching that reads no HTU row
unfoldable pub ask_fit : MatrixLists → ℕ → ℕ → List Branch → List ℤ → List ℤ → List ℤ → Asked
ask_fit lists n m records low high chosen =
    ask (lists_full (length low) (length high) (length chosen)) ListSize (ask_branching lists n m records)
