-- What the calls on a lent branching hand back, part by part: after a refusal, and where the questions pass. Each theorem uses the claim,
-- so that a weaker claim would not prove it.
use Rattle.std.proofs.Common.{◌≡◌, ℕ, ◌-◌, ◌*◌, ◌<◌, ◌≤◌, ◌≤ℤ◌, ◌↔◌, true, false, Result, Ok, Err, List, ℤ, refl, ap, ◌∙◌, arith}
use Rattle.lists.specs.Sums.{sum_over}
use Rattle.matrix_form.specs.Shape.{state_at, MatrixLists}
use Rattle.matrix_form.specs.Spans.{spans_of}
use Rattle.matrix_form.specs.Outcomes.{value, result_says}
use Rattle.matrix_form.specs.declared.refusal.Refusal.{Refusal}
use Rattle.difference_form.specs.Rows.{weighing}
use Rattle.tree_form.specs.Nodes.{other_nodes}
use Rattle.tree_form.specs.declared.branch.Branch.{Branch}
use Rattle.tree_form.specs.Branches.{ancestors_of}
use Rattle.fit_form.specs.Assignments.{branch_length, total, IsLeast, Occurs}
use Rattle.fit_form.specs.Fit.{states_in, fitted_length, fitted_total, marked}
use Rattle.fit_form.specs.Calls.{Low, High, Chosen, states_written, branch_at, FitOf, ask_fit}
use Rattle.fit_form.specs.Handing.{handed_states, FitHanded, FitAnswer, ask_node, NodeAnswer}
use Rattle.fit_form.specs.declared.characters.States.{States}
use Rattle.fit_form.specs.declared.whole.Fit.{Fit}
use Rattle.matrix_form.specs.declared.spans.Span.{Span}

-- a fit of n taxa and m characters to a tree
module _ (step : ℕ → ℤ → ℤ → ℕ) (tree : List ℕ) (rows : List (List Span)) (n m : ℕ) (fit : Fit) (of : FitOf step tree rows n m fit) where
  -- a branch has its fitted length and its mark
  pub branch_fitted : (v : ℕ) → 2 ≤ v → v ≤ 2 * n - 2
      → ((branch_at fit.branches v).length ≡ fitted_length step tree rows n m v)
      × ((branch_at fit.branches v).mark ≡ marked step tree rows n m v)
  branch_fitted v first last = (of.lengths v first last, of.marks v first last)

  -- node 1 has no length and no mark
  pub root_unmarked : ((branch_at fit.branches 1).length ≡ 0) × ((branch_at fit.branches 1).mark ≡ false)
  root_unmarked = (of.no_length 1 (λ first last. omega arith), of.no_mark 1 (λ first last. omega arith))

  -- nor has what stands behind the last branch
  pub behind_unmarked : (v : ℕ) → 2 * n - 2 < v → ((branch_at fit.branches v).length ≡ 0) × ((branch_at fit.branches v).mark ≡ false)
  behind_unmarked v behind = (of.no_length v (λ first last. omega arith), of.no_mark v (λ first last. omega arith))

-- the call for a fit
module _ (lists : MatrixLists) (n m : ℕ) (records : List Branch) (low low' high high' chosen chosen' : List ℤ) where
  -- what a change costs
  abbrev step : ℕ → ℤ → ℤ → ℕ
  step = (weighing lists.weights).step

  -- the lent branching
  abbrev tree : List ℕ
  tree = ancestors_of n records

  -- the rows of its taxa
  abbrev rows : List (List Span)
  rows = spans_of lists m n

  -- after a refusal its answer is the refusal, and the three lists are as before
  pub fit_refused : (r : Result Fit Refusal) → FitAnswer lists n m records low low' high high' chosen chosen' r → (refusal : Refusal)
      → ask_fit lists n m records low high chosen ≡ Err refusal
      → (r ≡ Err refusal) × (low' ≡ low) × (high' ≡ high) × (chosen' ≡ chosen)
  fit_refused (Ok fit) answer refusal e = let passed = answer.passed in cc
  fit_refused (Err other) answer refusal e =
      let told = answer.refused in
      let same : other ≡ refusal = cc in
      (ap Err same, answer.low_unchanged, answer.high_unchanged, answer.chosen_unchanged)

  -- where the questions pass it is a fit
  pub fit_passed : (r : Result Fit Refusal) → FitAnswer lists n m records low low' high high' chosen chosen' r
      → ask_fit lists n m records low high chosen ≡ Ok tt
      → (fit : Fit) × (r ≡ Ok fit) × FitHanded lists n m records low low' high high' chosen chosen' fit
  fit_passed (Ok fit) answer e = (fit, refl, answer)
  fit_passed (Err other) answer e = let told = answer.refused in cc

  module _ (fit : Fit) (handed : FitHanded lists n m records low low' high high' chosen chosen' fit) where
    -- the lists hold the states of the HTUs, and all else as before
    pub lists_hold : (low' ≡ states_written Low tree rows n m low) × (high' ≡ states_written High tree rows n m high)
        × (chosen' ≡ states_written Chosen tree rows n m chosen)
    lists_hold = (handed.is_low, handed.is_high, handed.is_chosen)

    -- the total is the fitted total, and the lengths add up to it
    pub total_handed : (fit.total ≡ fitted_total step tree rows n m)
        × (sum_over (λ v. (branch_at fit.branches v).length) (other_nodes n) ≡ fit.total)
    total_handed = (handed.fitted.total, handed.handed.sums)

    -- the chosen states are an assignment of least length, and the total is theirs
    pub chosen_least : IsLeast step tree rows n m (handed_states rows n chosen')
        × (total step tree n m (handed_states rows n chosen') ≡ fit.total)
    chosen_least =
        let back = handed.handed in
        (record { assigns = back.assigns; least = λ others h. omega (arith, back.is_total, back.least others h) }, back.is_total)

    -- a state lies from the lowest to the highest that is handed back exactly if the HTU has it in some assignment of least length
    pub range_handed : (v j : ℕ) (s : ℤ) → n < v → v ≤ 2 * n - 2 → 1 ≤ j → j ≤ m
        → ((state_at low' v j ≤ℤ s) × (s ≤ℤ state_at high' v j)) ↔ Occurs step tree rows n m v j s
    range_handed = handed.handed.ranges

    -- a branch is marked exactly if it has a length above 0 under the chosen states
    pub mark_handed : (v : ℕ) → 2 ≤ v → v ≤ 2 * n - 2
        → ((branch_at fit.branches v).mark ≡ true) ↔ (0 < branch_length step tree m (handed_states rows n chosen') v)
    mark_handed v first last = (handed.handed.marks v first last).plus

-- the call for the states of one node: those of the branching, and a state lies from the lowest to the highest exactly if the node, taxon
-- or HTU, has it in some assignment of least length
pub node_handed : (lists : MatrixLists) (n m : ℕ) (records : List Branch) (v j : ℕ) (r : Result States Refusal)
    → NodeAnswer lists n m records v j r → ask_node lists n m records v j ≡ Ok tt
    → (states : States)
    × (r ≡ Ok states)
    × (states ≡ states_in (ancestors_of n records) (spans_of lists m n) n v j)
    × ((s : ℤ) → ((states.low ≤ℤ s) × (s ≤ℤ states.high))
    ↔ Occurs (weighing lists.weights).step (ancestors_of n records) (spans_of lists m n) n m v j s)
node_handed lists n m records v j r answer e = go r refl (answer.says ∙ rw e)
  where
    go : (s : Result States Refusal) → r ≡ s → result_says r ≡ value (states_in (ancestors_of n records) (spans_of lists m n) n v j)
        → (states : States)
        × (r ≡ Ok states)
        × (states ≡ states_in (ancestors_of n records) (spans_of lists m n) n v j)
        × ((s : ℤ) → ((states.low ≤ℤ s) × (s ≤ℤ states.high))
        ↔ Occurs (weighing lists.weights).step (ancestors_of n records) (spans_of lists m n) n m v j s)
    go (Ok states) is says = (states, is, cc, answer.ranges states is)
    go (Err refusal) is says = cc
