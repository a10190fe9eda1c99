-- What a mark says of a branch (document 01, "Fitting the inner states"), the one place that says so.
use Rattle.std.specs.Prelude.{◌≡◌, ℕ, ◌<◌, Bool, true, ◌↔◌, List, ℤ}
use Rattle.matrix_form.specs.declared.spans.Span.{Span}
use Rattle.fit_form.specs.Assignments.{branch_length}

-- the mark of the branch from node v to its immediate ancestor, with these states chosen for the nodes: it is `+`, which is `true`, exactly
-- if the length of the branch under them is above 0. The taxa's rows are handed in for a meaning that asks for other assignments too
pub record MarkMeans
    (step : ℕ → ℤ → ℤ → ℕ)
    (tree : List ℕ)
    (rows : List (List Span))
    (n m : ℕ)
    (states : ℕ → ℕ → ℤ)
    (v : ℕ)
    (mark : Bool) : Type 0 where
  pub plus : (mark ≡ true) ↔ (0 < branch_length step tree m states v)
