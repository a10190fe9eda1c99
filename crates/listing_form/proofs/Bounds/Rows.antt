-- Rows of at most 128 codes from -999 to 999: the rows of a job are such rows, and medians of such rows are.
use mathlib.Core.Path.{◌≡◌, refl}
use mathlib.Core.Logic.{by_cases}
use mathlib.Core.Bool.{true}
use mathlib.Core.List.{List, [], ◌∷◌, ◌++◌}
use Prim.Native.Nat.{ℕ, zero, suc, ◌-◌, ◌≤◌}
use native.Mathlib.Omega.{arith}
use native.Mathlib.Decide.{dec_le}
use lib.IntN.{ℤ}
use lib.ListN.{length, get_or, get_or-eq_default}
use borrow.Author.Tests.{eqb-true}
use Rattle.lists.specs.Tests.{every}
use Rattle.lists.proofs.Both.{and_both}
use Rattle.lists.proofs.Every.{every-head, every-tail, every_at}
use Rattle.matrix_form.specs.Shape.{in_range, is_weight, weight_of}
use Rattle.matrix_form.specs.NodeRows.{row_of}
use Rattle.matrix_form.specs.Questions.{all_in_range, are_weights}
use Rattle.file_form.specs.Job.{Job, JobWithinLimits, has_codes}
use Rattle.difference_form.specs.Rows.{difference, most_difference, medians, interval_by, node_difference}
use Rattle.difference_form.proofs.Laws.Order.{median-keeps}
use Rattle.difference_form.proofs.Laws.Rows.{difference_limit}
use Rattle.difference_form.proofs.Laws.Weights.{are_weights_at}
use Rattle.tree_form.specs.Ancestors.{ancestor}
use Rattle.tree_form.specs.Placing.{median_row, from_interval}
use Rattle.listing_form.proofs.Totals.{limits}

-- a row has at most 128 codes, each from -999 to 999
pub record Near (r : List ℤ) : Type 0 where
  pub known : all_in_range r ≡ true
  pub narrow : length r ≤ 128

-- no code at all
pub near_none : Near []
unfolding all_in_range every
near_none = record { known = refl; narrow = omega arith }

-- medians of codes in range are in range
medians-known : (xs ys zs : List ℤ) → all_in_range xs ≡ true → all_in_range ys ≡ true → all_in_range zs ≡ true → all_in_range (medians xs ys zs) ≡ true
unfolding medians all_in_range every
medians-known [] ys zs a b c = refl
medians-known (x ∷ xs) [] zs a b c = refl
medians-known (x ∷ xs) (y ∷ ys) [] a b c = refl
medians-known (x ∷ xs) (y ∷ ys) (z ∷ zs) a b c =
    and_both
    (median-keeps (λ code. in_range code ≡ true) x y z (every-head in_range x xs a) (every-head in_range y ys b) (every-head in_range z zs c))
    (medians-known xs ys zs (every-tail in_range x xs a) (every-tail in_range y ys b) (every-tail in_range z zs c))

-- there are no more of them than codes in the first row
medians_narrow : (xs ys zs : List ℤ) → length (medians xs ys zs) ≤ length xs
unfolding medians
medians_narrow [] ys zs = omega arith
medians_narrow (x ∷ xs) [] zs = omega arith
medians_narrow (x ∷ xs) (y ∷ ys) [] = omega arith
medians_narrow (x ∷ xs) (y ∷ ys) (z ∷ zs) = let rest = medians_narrow xs ys zs in omega arith

-- every row of a list is such a row
abbrev pub AllNear : List (List ℤ) → Type 0
AllNear rows = (i : ℕ) → Near (get_or rows i [])

-- one row more
pub near_more : (rows : List (List ℤ)) (r : List ℤ) → AllNear rows → Near r → AllNear (rows ++ (r ∷ []))
near_more [] r all own zero = own
near_more [] r all own (suc i) = near_none
near_more (first ∷ rows) r all own zero = all zero
near_more (first ∷ rows) r all own (suc i) = near_more rows r (λ k. all (suc k)) own i

-- the rows of a job within the limits
pub near_job : (job : Job) → JobWithinLimits job → AllNear job.rows
unfolding has_codes
near_job job within i =
    by_cases (dec_le (suc i) (length job.rows))
    (λ inside.
    let known = limits job.n job.m within.limits in
    let size = eqb-true (length (get_or job.rows i [])) job.m (every_at (has_codes job.m) job.rows within.rows_full i [] inside) in
    record {
      known = every_at all_in_range job.rows within.codes_in_range i [] inside;
      narrow = omega arith;
    })
    (λ outside.
    let past : length job.rows ≤ i = omega arith in
    rw (get_or-eq_default job.rows [] past) near_none)

-- of weights from 1 to 9 so many of the first are
pub first-known : (weights : List ℕ) → every is_weight weights ≡ true → (count : ℕ) → are_weights weights count ≡ true
unfolding are_weights every
first-known [] e zero = refl
first-known [] e (suc count) = refl
first-known (w ∷ weights) e zero = refl
first-known (w ∷ weights) e (suc count) =
    and_both (every-head is_weight w weights e) (first-known weights (every-tail is_weight w weights e) count)

-- and each character's is
pub weight_known : (weights : List ℕ) → every is_weight weights ≡ true → (j : ℕ) → is_weight (weight_of weights j) ≡ true
weight_known weights e j =
    unfold weight_of in are_weights_at weights (suc (j - 1)) (j - 1) (first-known weights e (suc (j - 1))) (omega arith)

module _ (weights : List ℕ) (weighed : every is_weight weights ≡ true) (rows : List (List ℤ)) (all : AllNear rows) where
  -- the row of a node
  pub near_row : (v : ℕ) → Near (row_of rows v)
  unfolding row_of
  near_row v = all (v - 1)

  -- the difference of two nodes
  pub node_apart : (u v : ℕ) → node_difference (difference weights) (row_of rows) u v ≤ most_difference
  unfolding node_difference
  node_apart u v =
      difference_limit weights (row_of rows u) (row_of rows v) (first-known weights weighed (length (row_of rows u))) (near_row u).known (near_row v).known (near_row u).narrow

  -- the interval difference of a node from an interval
  pub interval-apart : (tree : List ℕ) (b c : ℕ) → from_interval (difference weights) (row_of rows) tree b c ≤ most_difference
  unfolding from_interval interval_by node_difference
  interval-apart tree b c = omega (arith, node_apart b c, node_apart b (ancestor tree c))

  -- the medians of three nodes
  pub near_medians : (b c e : ℕ) → Near (median_row (row_of rows) b c e)
  unfolding median_row
  near_medians b c e = record {
    known = medians-known (row_of rows b) (row_of rows c) (row_of rows e) (near_row b).known (near_row c).known (near_row e).known;
    narrow = omega (arith, medians_narrow (row_of rows b) (row_of rows c) (row_of rows e), (near_row b).narrow);
  }
