-- What a mark says settles it: it is that of the fit, and no other, `+` above a length of 0 and `-` at 0.
use Rattle.std.proofs.Common.{◌≡◌, ℕ, ◌<◌, Bool, true, false, List, ℤ, sym, refl, arith}
use borrow.Author.Tests.{ltb-true, lt-ltb}
use Rattle.fit_form.specs.Assignments.{branch_length}
use Rattle.fit_form.specs.Fit.{chosen_state, fitted_length, marked}
use Rattle.fit_form.specs.Marks.{MarkMeans}
use Rattle.matrix_form.specs.declared.spans.Span.{Span}

module _ (step : ℕ → ℤ → ℤ → ℕ) (tree : List ℕ) (rows : List (List Span)) (n m v : ℕ) where
  -- the mark of the fit means this of the chosen states
  pub marked_means : MarkMeans step tree rows n m (chosen_state tree rows n) v (marked step tree rows n m v)
  unfolding marked fitted_length
  marked_means =
      let length = branch_length step tree m (chosen_state tree rows n) v in
      record { plus = (λ e. ltb-true 0 length e, λ h. lt-ltb 0 length h) }

  -- states under which the branch has the same length give the mark the same meaning
  pub means_alike : (states others : ℕ → ℕ → ℤ) (mark : Bool)
      → branch_length step tree m others v ≡ branch_length step tree m states v
      → MarkMeans step tree rows n m states v mark → MarkMeans step tree rows n m others v mark
  means_alike states others mark same means = record { plus = rw same means.plus }

  -- two marks that mean it of the same states are the same
  pub mark_settled : (states : ℕ → ℕ → ℤ) (a b : Bool) → MarkMeans step tree rows n m states v a → MarkMeans step tree rows n m states v b → a ≡ b
  mark_settled states true true p q = refl
  mark_settled states true false p q = sym (q.plus.1 (p.plus.0 refl))
  mark_settled states false true p q = p.plus.1 (q.plus.0 refl)
  mark_settled states false false p q = refl

  module _ (states : ℕ → ℕ → ℤ) (mark : Bool) (means : MarkMeans step tree rows n m states v mark) where
    -- a branch of a length above 0 is marked `+`
    pub plus_of_length : 0 < branch_length step tree m states v → mark ≡ true
    plus_of_length some = means.plus.1 some

    -- a branch of length 0 is marked `-`
    pub minus_of_none : branch_length step tree m states v ≡ 0 → mark ≡ false
    minus_of_none none = by mark means.plus.0
      where
        by : (said : Bool) → (said ≡ true → 0 < branch_length step tree m states v) → said ≡ false
        by true h = absurd (omega (arith, h refl))
        by false h = refl
