-- Demand 3 about the third rival, and M-107's marks, for every matrix in which each taxon has a state, all weights and every branching of its taxa.
use Rattle.std.proofs.Common.{◌≡◌, ℕ, ◌-◌, ◌*◌, ◌≤◌, Bool, true, ltb, ◌↔◌, List, ℤ}
use Rattle.lists.specs.Numbers.{numbers}
use Rattle.lists.specs.Sums.{sum_over}
use Rattle.matrix_form.specs.Shape.{weight_of}
use Rattle.matrix_form.specs.Questions.{are_weights}
use Rattle.difference_form.specs.Rows.{part, weighing}
use Rattle.difference_form.proofs.Laws.Weights.{weight_of-within}
use Rattle.tree_form.specs.Ancestors.{ancestor}
use Rattle.tree_form.specs.Facts.{Branching}
use Rattle.fit_form.specs.Sets.{In, gap, ordered}
use Rattle.matrix_form.specs.declared.spans.Span.{Span}
use Rattle.fit_form.specs.Assignments.{character, branch_length, IsAssignment, IsLeast}
use Rattle.fit_form.specs.Fit.{chosen_state, range, fitted_total}
use Rattle.fit_form.specs.Rival.{FitIsLeast}
use Rattle.fit_form.proofs.Marks.{marked_means}
use Rattle.fit_form.proofs.Sets.IsKind.{ordered_laws}
use Rattle.fit_form.proofs.Matrix.Proper.{RowsProper}
use Rattle.fit_form.proofs.Matrix.Totals.{lengths-total}
use Rattle.fit_form.proofs.Matrix.Mixed.{Assignment, Shortest, Claim, mixed_claim, ranges_apart, mark_of}

module _ (tree : List ℕ) (rows : List (List Span)) (n m : ℕ) where
  -- how far the ranges of a node and of its ancestor lie from each other, in all characters together
  unfoldable pub ranges_between : ℕ → ℕ
  ranges_between v = sum_over (λ j. gap (range tree rows n v j) (range tree rows n (ancestor tree v) j)) (numbers 1 m)

  -- the branch from node v to its immediate ancestor cannot vanish if in some character the ranges of its ends do not meet
  unfoldable pub forced : ℕ → Bool
  forced v = ltb 0 (ranges_between v)

module _ (weights : List ℕ) (n m : ℕ) (tree : List ℕ) (rows : List (List Span)) (taxa : 1 ≤ n) (weighed : are_weights weights m ≡ true)
    (each : RowsProper rows n m) (branching : Branching n tree) where
  -- what a change costs
  abbrev step : ℕ → ℤ → ℤ → ℕ
  step = (weighing weights).step

  -- the taxa's own sets
  abbrev own : ℕ → ℕ → Span
  own j = character rows j

  -- the states that a taxon may have
  abbrev Own : ℕ → ℕ → ℤ → Type 0
  Own j v s = In s (own j v)

  -- the claim for ordered characters
  claim : Claim (λ j. ordered) (weight_of weights) own tree n m
  claim = mixed_claim (λ j. ordered) (weight_of weights) own tree n m taxa branching (record {
    laws = λ j r l. ordered_laws;
    weighed = λ j r l. (weight_of-within weights m weighed j r l).0;
    proper = each.proper;
  })

  -- an assignment takes members of the own sets
  members : (states : ℕ → ℕ → ℤ) → IsAssignment rows n m states → Assignment Own step tree n m states
  members states h = record { keeps = h.keeps }

  -- and the other way
  assigned : (states : ℕ → ℕ → ℤ) → Assignment Own step tree n m states → IsAssignment rows n m states
  assigned states h = record { keeps = h.keeps }

  -- an assignment of least length is so among those that take members of the own sets
  shortest : (states : ℕ → ℕ → ℤ) → IsLeast step tree rows n m states → Shortest Own step tree n m states
  shortest states h = record { assigns = members states h.assigns; least = λ others k. h.least others (assigned others k) }

  -- and the other way
  least : (states : ℕ → ℕ → ℤ) → Shortest Own step tree n m states → IsLeast step tree rows n m states
  least states h = record { assigns = assigned states h.assigns; least = λ others k. h.least others (members others k) }

  -- by any weights from 1 to 9 the chosen states have least length and the ranges are those of all assignments of least length
  pub third_rival : FitIsLeast step tree rows n m
  unfolding part chosen_state range fitted_total
  third_rival =
      let ours = least (chosen_state tree rows n) claim.shortest in
      record {
        assigns = ours.assigns;
        lengths = lengths-total step n m tree rows;
        least = ours.least;
        ranges = λ v j s p q r l.
            let iff = claim.ranges v j s p q r l in (
              λ i. let h = iff.0 i in record { states = h.states; is_least = least h.states h.is_least; here = h.here },
              λ o. iff.1 (record { states = o.states; is_least = shortest o.states o.is_least; here = o.here }),
            );
        marks = λ v p q. marked_means step tree rows n m v;
      }

  -- a branch cannot vanish exactly if every assignment of least length gives it a length of at least 1
  pub forced_iff : (v : ℕ) → 2 ≤ v → v ≤ 2 * n - 2 → (forced tree rows n m v ≡ true)
      ↔ ((states : ℕ → ℕ → ℤ) → IsLeast step tree rows n m states → 1 ≤ branch_length step tree m states v)
  unfolding part range forced ranges_between mark_of ranges_apart
  forced_iff v p q =
      let iff = claim.marks v p q in
      (λ e states h. iff.0 e states (shortest states h), λ all. iff.1 (λ states h. all states (least states h)))
