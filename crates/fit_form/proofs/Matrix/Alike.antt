-- Where states are alike nothing changes: a branch whose ends have the same states has length 0 and the mark `-`, and where all taxa
-- have the same states the fitted total is 0.
use Rattle.std.proofs.Common.{◌≡◌, ℕ, ◌≤◌, Bool, false, List, ℤ, refl, sym, ap, ◌∙◌, subst, arith}
use Rattle.lists.specs.Numbers.{numbers}
use Rattle.lists.proofs.Numbers.{numbers-within}
use Rattle.lists.proofs.Sums.{sum_none}
use Rattle.matrix_form.specs.Shape.{weight_of}
use lib.Signed.{≤ℤ_refl}
use Rattle.difference_form.specs.Rows.{part, weighing}
use Rattle.difference_form.proofs.Laws.Weights.{part_distance}
use Rattle.tree_form.specs.Ancestors.{ancestor}
use Rattle.tree_form.specs.Nodes.{other_nodes}
use Rattle.fit_form.specs.Assignments.{character, branch_length, total, IsAssignment}
use Rattle.fit_form.specs.Fit.{fitted_total}
use Rattle.fit_form.specs.Marks.{MarkMeans}
use Rattle.fit_form.specs.Rival.{FitIsLeast}
use Rattle.fit_form.specs.Sets.{In}
use Rattle.fit_form.proofs.Matrix.Proper.{RowsProper}
use Rattle.fit_form.proofs.Marks.{minus_of_none}
use Rattle.matrix_form.specs.declared.spans.Span.{Span}

module _ (weights : List ℕ) (tree : List ℕ) (m : ℕ) (states : ℕ → ℕ → ℤ) where
  -- a node with the states of its immediate ancestor has a branch of length 0
  pub equal-branch : (v : ℕ) → ((j : ℕ) → 1 ≤ j → j ≤ m → states v j ≡ states (ancestor tree v) j)
      → branch_length (weighing weights).step tree m states v ≡ 0
  unfolding branch_length
  equal-branch v same =
      sum_none (λ j. part (weight_of weights j) (states v j) (states (ancestor tree v) j)) (numbers 1 m) λ j i.
      let within = numbers-within 1 m j i in
      let last : j ≤ m = omega (arith, within.1) in
      ap (λ (s : ℤ). part (weight_of weights j) s (states (ancestor tree v) j)) (same j within.0 last)
      ∙ (part_distance (weight_of weights j)).self (states (ancestor tree v) j)

  -- and so the mark `-`
  pub equal-unmarked : (rows : List (List Span)) (n v : ℕ) (mark : Bool) → MarkMeans (weighing weights).step tree rows n m states v mark
      → ((j : ℕ) → 1 ≤ j → j ≤ m → states v j ≡ states (ancestor tree v) j) → mark ≡ false
  equal-unmarked rows n v mark means same =
      minus_of_none (weighing weights).step tree rows n m v states mark means (equal-branch v same)

  -- an assignment of the same states to all nodes has the total 0
  pub equal-total : (n : ℕ) → ((u v j : ℕ) → states u j ≡ states v j) → total (weighing weights).step tree n m states ≡ 0
  unfolding total
  equal-total n same =
      sum_none (branch_length (weighing weights).step tree m states) (other_nodes n) λ v i.
      equal-branch v (λ j first last. same v (ancestor tree v) j)

-- where all taxa have the states of row 1, a fit of least length has the total 0
pub alike_total : (weights : List ℕ) (n m : ℕ) (tree : List ℕ) (rows : List (List Span)) → 1 ≤ n → RowsProper rows n m
    → FitIsLeast (weighing weights).step tree rows n m
    → ((v j : ℕ) → 1 ≤ v → v ≤ n → 1 ≤ j → j ≤ m → character rows j v ≡ character rows j 1)
    → fitted_total (weighing weights).step tree rows n m ≡ 0
alike_total weights n m tree rows taxa each fit same =
    let states : ℕ → ℕ → ℤ = λ v j. (character rows j 1).low in
    let assigns : IsAssignment rows n m states = record {
      keeps = λ v j p q r l.
          subst (In (character rows j 1).low) (sym (same v j p q r l))
          (record { from_low = ≤ℤ_refl _; to_high = (each.proper 1 j (omega arith) taxa r l).ordered });
    } in
    let none = equal-total weights tree m states n (λ u v j. refl) in
    omega (arith, none, fit.least states assigns)
