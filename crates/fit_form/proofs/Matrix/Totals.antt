-- Totals: the fitted lengths add up to the fitted total, and the total of an assignment is the sum of its characters' costs over the clade.
use Rattle.std.proofs.Common.{◌≡◌, ℕ, List, ℤ, sym, refl, ap, ◌∙◌}
use Rattle.lists.specs.Numbers.{numbers}
use Rattle.lists.specs.Sums.{sum_over}
use Rattle.lists.proofs.Sums.{sum_same, sum_swap}
use Rattle.tree_form.specs.Ancestors.{ancestor}
use Rattle.tree_form.specs.Nodes.{other_nodes}
use Rattle.clades.proofs.OneCharacter.CharacterFit.{length_in}
use Rattle.fit_form.specs.Assignments.{branch_length, total}
use Rattle.fit_form.specs.Fit.{fitted_length, fitted_total}
use Rattle.fit_form.proofs.Clades.Built.{CladeOf, cost_sum_clade}
use Rattle.matrix_form.specs.declared.spans.Span.{Span}

-- the fitted lengths of the branches add up to the fitted total
pub lengths-total : (step : ℕ → ℤ → ℤ → ℕ) (n m : ℕ) (tree : List ℕ) (rows : List (List Span)) →
    sum_over (fitted_length step tree rows n m) (other_nodes n) ≡ fitted_total step tree rows n m
unfolding fitted_total fitted_length total
lengths-total step n m tree rows = refl

-- the cost of character j under an assignment, over the clade of a branching
abbrev pub cost_of : (ℕ → ℤ → ℤ → ℕ) → (n : ℕ) (tree : List ℕ) → CladeOf n tree → (ℕ → ℕ → ℤ) → ℕ → ℕ
cost_of step n tree clade_of states j = length_in (step j) clade_of.clade (λ v. states v j)

-- the total of an assignment is the sum of its characters' costs
pub total-cost : (step : ℕ → ℤ → ℤ → ℕ) (n m : ℕ) (tree : List ℕ) (clade_of : CladeOf n tree) (states : ℕ → ℕ → ℤ)
    → total step tree n m states ≡ sum_over (cost_of step n tree clade_of states) (numbers 1 m)
unfolding total branch_length
total-cost step n m tree clade_of states = sum_swap (λ v j. step j (states v j) (states (ancestor tree v) j)) (other_nodes n) (numbers 1 m)
    ∙ sum_same (λ j. sum_over (λ v. step j (states v j) (states (ancestor tree v) j)) (other_nodes n)) (cost_of step n tree clade_of states)
    (numbers 1 m)
    (λ j m. sym
    (cost_sum_clade (step j) n tree (λ v. states v j) (states 1 j) clade_of.clade clade_of.is_made (ap (λ v. states v j) clade_of.from_row1)
    ∙ clade_of.sums (λ v. step j (states v j) (states (ancestor tree v) j))))
