-- The branch lengths of the fit and the differences of rows are one measure.
use Rattle.std.proofs.Common.{◌≡◌, ℕ, ◌+◌, ◌-◌, ◌<◌, ◌≤◌, List, map, get_or, ℤ, pos, sym, ◌∙◌, ap₂, arith}
use Rattle.lists.specs.Numbers.{numbers}
use Rattle.lists.proofs.Numbers.{numbers-within, length_map_numbers, map-numbers}
use Rattle.lists.proofs.Sums.{sum_same}
use Rattle.matrix_form.specs.Shape.{weight_of}
use Rattle.difference_form.specs.Rows.{part, weighing}
use Rattle.difference_form.proofs.Laws.Measure.{rows_cost_steps}
use Rattle.tree_form.specs.Ancestors.{ancestor}
use Rattle.fit_form.specs.Assignments.{branch_length}

module _ (weights tree : List ℕ) (m : ℕ) (states : ℕ → ℕ → ℤ) where
  -- the states of node v as a row
  abbrev state_row : ℕ → List ℤ
  state_row v = map (states v) (numbers 1 m)

  -- the entry for character j is the state in character j
  state_row_at : (v j : ℕ) → 1 ≤ j → j < 1 + m → get_or (state_row v) (j - 1) (pos 0) ≡ states v j
  state_row_at v j p q = let here : 1 + (j - 1) ≡ j = omega arith in rw (map-numbers (states v) (pos 0) 1 m (j - 1) (omega arith), here)

  -- the length of a branch is the difference of the rows of states at its ends
  pub branch_length-difference : (v : ℕ) → branch_length (weighing weights).step tree m states v
      ≡ (weighing weights).rows (state_row v) (state_row (ancestor tree v))
  unfolding branch_length
  branch_length-difference v =
      let u = ancestor tree v in
      sum_same (λ j. part (weight_of weights j) (states v j) (states u j))
      (λ j. part (weight_of weights j) (get_or (state_row v) (j - 1) (pos 0)) (get_or (state_row u) (j - 1) (pos 0))) (numbers 1 m)
      (λ j i. let w = numbers-within 1 m j i in sym (ap₂ (part (weight_of weights j)) (state_row_at v j w.0 w.1) (state_row_at u j w.0 w.1)))
      ∙ sym (rows_cost_steps weights m (state_row v) (state_row u) (length_map_numbers (states v) 1 m) (length_map_numbers (states u) 1 m))
