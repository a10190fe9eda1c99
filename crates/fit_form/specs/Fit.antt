-- The fit of a whole matrix to a branching: chosen states, ranges, fitted lengths and marks (document 01, "Fitting the inner states").
use Rattle.std.specs.Prelude.{ℕ, Bool, List, ℤ, nat_lt}
use Rattle.clades.specs.Character.{state_of, range_of}
use Rattle.fit_form.specs.Sets.{ordered}
use Rattle.matrix_form.specs.declared.spans.Span.{Span}
use Rattle.fit_form.specs.declared.characters.States.{States}
use Rattle.fit_form.specs.Clades.{clades_below}
use Rattle.fit_form.specs.Assignments.{character, branch_length, total}

module _ (tree : List ℕ) (rows : List (List Span)) (n : ℕ) where
  -- the state chosen for node v in character j
  unfoldable pub chosen_state : ℕ → ℕ → ℤ
  chosen_state v j = state_of ordered (character rows j) (clades_below tree n) v

  -- the range of node v in character j, lowest to highest state
  unfoldable pub range : ℕ → ℕ → Span
  range v j = range_of ordered (character rows j) (clades_below tree n) v

  -- the states of node v in character j: the lowest and the highest of its range, and the chosen one
  unfoldable pub states_in : ℕ → ℕ → States
  states_in v j = record { low = (range v j).low; high = (range v j).high; chosen = chosen_state v j }

-- `step j a b` is what a change between states a and b costs in character j
module _ (step : ℕ → ℤ → ℤ → ℕ) (tree : List ℕ) (rows : List (List Span)) (n m : ℕ) where
  -- the fitted length of the branch from node v to its immediate ancestor, over m characters
  unfoldable pub fitted_length : ℕ → ℕ
  fitted_length v = branch_length step tree m (chosen_state tree rows n) v

  -- the fitted total: the total of the chosen states
  unfoldable pub fitted_total : ℕ
  fitted_total = total step tree n m (chosen_state tree rows n)

  -- the branch from node v to its immediate ancestor is marked `+` if its fitted length is above 0, else `-`
  unfoldable pub marked : ℕ → Bool
  marked v = nat_lt 0 (fitted_length v)
