-- The fitted total is the sum of the lengths of the characters.
use Rattle.std.proofs.Common.{◌≡◌, ℕ, ◌*◌, List, ◌∙◌}
use Rattle.lists.specs.Numbers.{numbers}
use Rattle.lists.specs.Sums.{sum_over}
use Rattle.lists.proofs.Sums.{sum_swap, sum_same, sum_times}
use Rattle.matrix_form.specs.Shape.{weight_of}
use Rattle.difference_form.specs.Rows.{apart, part, weighing}
use Rattle.tree_form.specs.Ancestors.{ancestor}
use Rattle.tree_form.specs.Nodes.{other_nodes}
use Rattle.fit_form.specs.Assignments.{branch_length, total}
use Rattle.fit_form.specs.Fit.{chosen_state, fitted_total}
use Rattle.fit_passes.specs.Steps.{character_length}
use Rattle.matrix_form.specs.declared.spans.Span.{Span}

-- the fitted total is the sum of the characters' lengths, each as often as its weight says
pub total-characters : (weights tree : List ℕ) (rows : List (List Span)) (n m : ℕ) →
    fitted_total (weighing weights).step tree rows n m ≡ sum_over (λ j. weight_of weights j * character_length tree rows n j) (numbers 1 m)
unfolding fitted_total total branch_length character_length part
total-characters weights tree rows n m =
    let length : ℕ → ℕ → ℕ = λ v j. apart (chosen_state tree rows n v j) (chosen_state tree rows n (ancestor tree v) j) in
    sum_swap (λ v j. weight_of weights j * length v j) (other_nodes n) (numbers 1 m)
    ∙ sum_same (λ j. sum_over (λ v. weight_of weights j * length v j) (other_nodes n))
    (λ j. weight_of weights j * sum_over (λ v. length v j) (other_nodes n)) (numbers 1 m)
    (λ j i. sum_times (weight_of weights j) (λ v. length v j) (other_nodes n))
