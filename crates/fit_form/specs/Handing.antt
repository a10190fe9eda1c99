-- What the call for a fit of a lent branching hands back, for all inputs and refusals.
use Rattle.std.specs.Prelude.{◌≡◌, ℕ, ◌-◌, ◌*◌, ◌<◌, ◌≤◌, cond, ◌↔◌, Result, Ok, Err, MatchResult, List, length, ℤ, ◌≤ℤ◌, ◌==◌, nat_le}
use Rattle.lists.specs.Sums.{sum_over}
use Rattle.matrix_form.specs.Shape.{state_at, last_node, MatrixLists}
use Rattle.matrix_form.specs.Questions.{one_to, ask_matrix}
use Rattle.matrix_form.specs.Spans.{spans_of}
use Rattle.matrix_form.specs.declared.spans.Span.{Span}
use Rattle.matrix_form.specs.Outcomes.{Asked, answered, result_says, ask, and_then}
use Rattle.matrix_form.specs.declared.refusal.Refusal.{Refusal}
use Rattle.matrix_form.specs.declared.refusal.Refusal.TheVariants.{ListSize, NotThere, NotBranching}
use Rattle.difference_form.specs.Rows.{weighing}
use Rattle.tree_form.specs.Nodes.{other_nodes}
use Rattle.tree_form.specs.declared.branch.Branch.{Branch}
use Rattle.tree_form.specs.Branches.{ancestors_of, lent_branching}
use Rattle.tree_form.specs.Asking.{branches_size}
use Rattle.fit_form.specs.Assignments.{character, total, IsAssignment, Occurs}
use Rattle.fit_form.specs.Calls.{Low, High, Chosen, states_written, branch_at, FitOf, ask_fit}
use Rattle.fit_form.specs.declared.whole.Fit.{Fit}
use Rattle.fit_form.specs.Fit.{states_in}
use Rattle.fit_form.specs.Marks.{MarkMeans}
use Rattle.fit_form.specs.declared.characters.States.{States}

-- the states that a list of the matrix's shape gives the HTUs; the taxa have the low ends of theirs
unfoldable pub handed_states : List (List Span) → ℕ → List ℤ → ℕ → ℕ → ℤ
handed_states rows n list v j = cond (nat_le v n) (character rows j v).low (state_at list v j)

-- what a fit of a tree hands back, by the numbers in the lists and by assignments
pub record HandedBack (step : ℕ → ℤ → ℤ → ℕ) (tree : List ℕ) (rows : List (List Span)) (n m : ℕ) (low high chosen : List ℤ)
    (fit : Fit) : Type 0 where
  -- a state lies from low to high exactly if the HTU has it in some assignment of least length
  pub ranges : (v j : ℕ) (s : ℤ) → n < v → v ≤ 2 * n - 2 → 1 ≤ j → j ≤ m
      → ((state_at low v j ≤ℤ s) × (s ≤ℤ state_at high v j)) ↔ Occurs step tree rows n m v j s
  -- the chosen states are an assignment
  pub assigns : IsAssignment rows n m (handed_states rows n chosen)
  -- of the total handed back
  pub is_total : total step tree n m (handed_states rows n chosen) ≡ fit.total
  -- every assignment has at least that total
  pub least : (states : ℕ → ℕ → ℤ) → IsAssignment rows n m states → fit.total ≤ total step tree n m states
  -- the lengths handed back add up to it
  pub sums : sum_over (λ v. (branch_at fit.branches v).length) (other_nodes n) ≡ fit.total
  -- the mark handed back of each branch says of these states what a mark says
  pub marks : (v : ℕ) → 2 ≤ v → v ≤ 2 * n - 2
      → MarkMeans step tree rows n m (handed_states rows n chosen) v (branch_at fit.branches v).mark

-- the questions of a fit have passed: the lists hold, in the HTUs' rows and the m columns, lowest, highest and chosen states, and elsewhere
-- what they held; the fit is that of the branching
pub record FitHanded (lists : MatrixLists) (n m : ℕ) (records : List Branch) (low low' high high' chosen chosen' : List ℤ)
    (fit : Fit) : Type 0 where
  pub passed : ask_fit lists n m records low high chosen ≡ Ok tt
  pub fitted : FitOf (weighing lists.weights).step (ancestors_of n records) (spans_of lists m n) n m fit
  pub is_low : low' ≡ states_written Low (ancestors_of n records) (spans_of lists m n) n m low
  pub is_high : high' ≡ states_written High (ancestors_of n records) (spans_of lists m n) n m high
  pub is_chosen : chosen' ≡ states_written Chosen (ancestors_of n records) (spans_of lists m n) n m chosen
  pub handed : HandedBack (weighing lists.weights).step (ancestors_of n records) (spans_of lists m n) n m low' high' chosen' fit

-- a question of a fit has refused, and all lists are as before
pub record NotFitted (lists : MatrixLists) (n m : ℕ) (records : List Branch) (low low' high high' chosen chosen' : List ℤ)
    (refusal : Refusal) : Type 0 where
  pub refused : ask_fit lists n m records low high chosen ≡ Err refusal
  pub low_unchanged : low' ≡ low
  pub high_unchanged : high' ≡ high
  pub chosen_unchanged : chosen' ≡ chosen

-- the call answers its questions: if none refuses it fits, and after a refusal there is no fit
abbrev pub FitAnswer : MatrixLists → ℕ → ℕ → List Branch → List ℤ → List ℤ → List ℤ → List ℤ → List ℤ → List ℤ
    → Result Fit Refusal → Type 0
FitAnswer lists n m records low low' high high' chosen chosen' r =
    MatchResult r (FitHanded lists n m records low low' high high' chosen chosen')
    (NotFitted lists n m records low low' high high' chosen chosen')

-- the questions of the call for node v in character j: the size of the list of branches, those on the matrix, whether node and character
-- exist, whether the branches are a branching
unfoldable pub ask_node : MatrixLists → ℕ → ℕ → List Branch → ℕ → ℕ → Asked
ask_node lists n m records v j =
    ask (length records == branches_size) ListSize
    (and_then (ask_matrix lists n m)
    (ask (one_to (last_node n) v) NotThere (ask (one_to m j) NotThere (ask (lent_branching n records) NotBranching (Ok tt)))))

-- the call for node v in character j answers its questions; the states are those of the branching, and a state lies from low to high
-- exactly if the node, taxon or HTU, has it in some assignment of least length
pub record NodeAnswer (lists : MatrixLists) (n m : ℕ) (records : List Branch) (v j : ℕ) (r : Result States Refusal) : Type 0 where
  pub says : result_says r ≡ answered (ask_node lists n m records v j) (states_in (ancestors_of n records) (spans_of lists m n) n v j)
  pub ranges : (states : States) → r ≡ Ok states → (s : ℤ)
      → ((states.low ≤ℤ s) × (s ≤ℤ states.high))
      ↔ Occurs (weighing lists.weights).step (ancestors_of n records) (spans_of lists m n) n m v j s
