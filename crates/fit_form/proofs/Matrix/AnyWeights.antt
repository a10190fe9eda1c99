-- What weights move and what they do not: the ranges are the same by any weights from 1 to 9, and where every character weighs 1 the
-- claim about the third rival is document 01's.
use Rattle.std.proofs.Common.{◌≡◌, ℕ, ◌≤◌, true, ◌↔◌, List, ℤ, sym, arith}
use Rattle.lists.specs.Numbers.{numbers}
use Rattle.lists.proofs.Numbers.{numbers-within}
use Rattle.lists.proofs.Sums.{sum_same}
use Rattle.matrix_form.specs.Shape.{last_node, weight_of}
use Rattle.matrix_form.specs.Questions.{are_weights}
use Rattle.difference_form.specs.Rows.{weighing, plain}
use Rattle.difference_form.proofs.Laws.Measure.{step-alike}
use Rattle.tree_form.specs.Ancestors.{ancestor}
use Rattle.tree_form.specs.Nodes.{other_nodes}
use Rattle.tree_form.specs.Facts.{Branching}
use Rattle.fit_form.specs.Assignments.{branch_length, total, IsLeast, Occurs}
use Rattle.fit_form.specs.Fit.{chosen_state, fitted_total}
use Rattle.fit_form.specs.Rival.{FitIsLeast}
use Rattle.fit_form.proofs.Marks.{marked_means}
use Rattle.fit_form.proofs.Matrix.Totals.{lengths-total}
use Rattle.fit_form.proofs.Matrix.Proper.{RowsProper}
use Rattle.fit_form.proofs.Matrix.ThirdRival.{third_rival}
use Rattle.matrix_form.specs.declared.spans.Span.{Span}

-- a node has a state in some assignment of least length by one set of weights exactly if it has it by another
pub weights_move_nothing : (weights others : List ℕ) (n m : ℕ) (tree : List ℕ) (rows : List (List Span)) → 1 ≤ n → RowsProper rows n m
    → are_weights weights m ≡ true → are_weights others m ≡ true → Branching n tree
    → (v j : ℕ) (s : ℤ) → 1 ≤ v → v ≤ last_node n → 1 ≤ j → j ≤ m
    → Occurs (weighing weights).step tree rows n m v j s ↔ Occurs (weighing others).step tree rows n m v j s
weights_move_nothing weights others n m tree rows taxa proper known others-known branching v j s first last one end =
    let ours = (third_rival weights n m tree rows taxa known proper branching).ranges v j s first last one end in
    let theirs = (third_rival others n m tree rows taxa others-known proper branching).ranges v j s first last one end in
    (λ o. theirs.0 (ours.1 o), λ o. ours.0 (theirs.1 o))

-- two costs of a step by which every assignment has the same total have the same assignments of least length
module _ (one other : ℕ → ℤ → ℤ → ℕ) (tree : List ℕ) (rows : List (List Span)) (n m : ℕ)
    (same : (states : ℕ → ℕ → ℤ) → total one tree n m states ≡ total other tree n m states) where
  -- an assignment of least length by one is of least length by the other
  is_least-same : (states : ℕ → ℕ → ℤ) → IsLeast one tree rows n m states → IsLeast other tree rows n m states
  is_least-same states l = record {
    assigns = l.assigns;
    least = λ others h. omega (arith, same states, same others, l.least others h);
  }

  -- so a state occurs by the other that occurs by one
  pub occurs_same : (v j : ℕ) (s : ℤ) → Occurs one tree rows n m v j s → Occurs other tree rows n m v j s
  occurs_same v j s o = record { states = o.states; is_least = is_least-same o.states o.is_least; here = o.here }

-- then the claim about the third rival by one is that by the other
pub least-same : (one other : ℕ → ℤ → ℤ → ℕ) (tree : List ℕ) (rows : List (List Span)) (n m : ℕ)
    → ((states : ℕ → ℕ → ℤ) → total one tree n m states ≡ total other tree n m states)
    → FitIsLeast one tree rows n m → FitIsLeast other tree rows n m
unfolding fitted_total
least-same one other tree rows n m same claim = record {
  assigns = claim.assigns;
  lengths = lengths-total other n m tree rows;
  least = λ states h. omega (arith, claim.least states h, same (chosen_state tree rows n), same states);
  ranges = λ v j s first last start end.
      let own = claim.ranges v j s first last start end in (
        λ i. occurs_same one other tree rows n m same v j s (own.0 i),
        λ o. own.1 (occurs_same other one tree rows n m (λ f. sym (same f)) v j s o),
      );
  marks = λ v first last. marked_means other tree rows n m v;
}

module _ (weights : List ℕ) (n m : ℕ) (tree : List ℕ) (rows : List (List Span))
    (alike : (j : ℕ) → 1 ≤ j → j ≤ m → weight_of weights j ≡ 1) where
  -- where every character weighs 1 the total of any assignment is that by document 01's measure
  pub total-alike : (states : ℕ → ℕ → ℤ) → total (weighing weights).step tree n m states ≡ total plain.step tree n m states
  unfolding total branch_length
  total-alike states =
      sum_same (λ v. branch_length (weighing weights).step tree m states v) (λ v. branch_length plain.step tree m states v) (other_nodes n)
      (λ v i. sum_same (λ j. (weighing weights).step j (states v j) (states (ancestor tree v) j))
      (λ j. plain.step j (states v j) (states (ancestor tree v) j)) (numbers 1 m)
      (λ j k.
      let w = numbers-within 1 m j k in
      step-alike weights j (alike j w.0 (omega (arith, w.1))) (states v j) (states (ancestor tree v) j)))

  -- and the claim about the third rival is document 01's
  pub least-alike : FitIsLeast (weighing weights).step tree rows n m ↔ FitIsLeast plain.step tree rows n m
  least-alike = (
    least-same (weighing weights).step plain.step tree rows n m total-alike,
    least-same plain.step (weighing weights).step tree rows n m (λ f. sym (total-alike f)),
  )
