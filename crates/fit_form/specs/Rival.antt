-- The claim about the third rival (document 01, "The three rivals"): the chosen states have least length, the ranges are those of all
-- assignments of least length, and the marks mean what a mark says.
use Rattle.std.specs.Prelude.{◌≡◌, ℕ, ◌-◌, ◌*◌, ◌≤◌, ◌↔◌, List, ℤ}
use Rattle.matrix_form.specs.Shape.{last_node}
use Rattle.tree_form.specs.Nodes.{other_nodes}
use Rattle.lists.specs.Sums.{sum_over}
use Rattle.fit_form.specs.Sets.{In}
use Rattle.fit_form.specs.Assignments.{total, IsAssignment, Occurs}
use Rattle.fit_form.specs.Fit.{chosen_state, range, fitted_length, fitted_total, marked}
use Rattle.fit_form.specs.Marks.{MarkMeans}
use Rattle.matrix_form.specs.declared.spans.Span.{Span}

-- the claim, for a branching of n taxa and the m characters of their rows;
-- `step j a b` is what a change between states a and b costs in character j
pub record FitIsLeast (step : ℕ → ℤ → ℤ → ℕ) (tree : List ℕ) (rows : List (List Span)) (n m : ℕ) : Type 0 where
  -- our chosen states are an assignment
  pub assigns : IsAssignment rows n m (chosen_state tree rows n)
  -- the fitted lengths of the branches, node by node from 2 to 2n-2, add up to the fitted total
  pub lengths : sum_over (fitted_length step tree rows n m) (other_nodes n) ≡ fitted_total step tree rows n m
  -- every assignment has at least the fitted total
  pub least : (states : ℕ → ℕ → ℤ) → IsAssignment rows n m states → fitted_total step tree rows n m ≤ total step tree n m states
  -- a state is in the range of a node, taxon or HTU, exactly if the node has it in some assignment of least length
  pub ranges : (v j : ℕ) (s : ℤ) → 1 ≤ v → v ≤ last_node n → 1 ≤ j → j ≤ m →
      In s (range tree rows n v j) ↔ Occurs step tree rows n m v j s
  -- the mark of each branch says of the chosen states what a mark says
  pub marks : (v : ℕ) → 2 ≤ v → v ≤ 2 * n - 2 → MarkMeans step tree rows n m (chosen_state tree rows n) v (marked step tree rows n m v)
