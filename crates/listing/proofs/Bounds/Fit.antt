-- The fit of a branching to a job's rows: states and ranges are from -999 to 999, no fitted length is above the largest difference of two rows, and
-- the total is not below the floor.
use mathlib.Core.Path.{◌≡◌, refl}
use mathlib.Core.Bool.{true}
use mathlib.Core.List.{List, [], ◌∷◌}
use Prim.Native.Nat.{ℕ, zero, suc, ◌-◌, ◌*◌, ◌≤◌}
use native.Mathlib.Omega.{arith}
use lib.IntN.{ℤ, pos}
use lib.ListN.{get_or}
use Rattle.lists.specs.Numbers.{numbers}
use Rattle.lists.proofs.Every.{every-head, every-tail}
use Rattle.lists.proofs.Numbers.{length-numbers}
use Rattle.lists.proofs.Sums.{sum_most}
use Rattle.matrix_form.specs.Shape.{in_range, weight_of}
use Rattle.matrix_form.specs.Questions.{all_in_range}
use Rattle.file_form.specs.Job.{Job, JobWithinLimits}
use Rattle.difference_form.specs.Rows.{most_part, most_difference, part}
use Rattle.difference_form.proofs.Laws.Weights.{part-in_range}
use Rattle.tree_form.specs.Ancestors.{ancestor}
use Rattle.tree_form.specs.Facts.{Branching, Grown}
use Rattle.tree_form.proofs.Test.{branching_iff}
use Rattle.tree_form.proofs.Whole.{branching_nodes, branching-grown, growing_ancestor_le}
use Rattle.fit_form.specs.Assignments.{character, branch_length}
use Rattle.fit_form.specs.Fit.{chosen_state, range, fitted_length, fitted_total}
use Rattle.matrix_form.specs.NodeRows.{row_of}
use Rattle.matrix_form.specs.Spans.{only}
use Rattle.fit_form.proofs.Matrix.Proper.{character-single, singles_proper}
use Rattle.fit_passes.specs.Steps.{Each}
use Rattle.fit_passes.proofs.Matrix.OnlyCodes.{chosen_state-each, range-each}
use Rattle.consistency_form.specs.Floor.{floor}
use Rattle.consistency_form.proofs.NeverPasses.{floor-fitted}
use Rattle.listing_form.specs.Meant.{measure_meant, states_meant}
use Rattle.listing_form.proofs.Totals.{Limits, limits}
use Rattle.listing_form.proofs.Bounds.Rows.{near_job, first-known, weight_known}

-- a code from -999 to 999
abbrev pub IsNear : ℤ → Type 0
IsNear code = in_range code ≡ true

-- each code of a row in range, and zero behind it, is in range
code_near : (codes : List ℤ) → all_in_range codes ≡ true → (i : ℕ) → IsNear (get_or codes i (pos 0))
unfolding all_in_range in_range
code_near [] e i = refl
code_near (code ∷ codes) e zero = every-head in_range code codes e
code_near (code ∷ codes) e (suc i) = code_near codes (every-tail in_range code codes e) i

module _ (job : Job) (within : JobWithinLimits job) (tree : List ℕ) (whole : Branching job.n tree) (two : 2 ≤ job.n) where
  -- n and m are within their limits
  abbrev known : Limits job.n job.m
  known = limits job.n job.m within.limits

  -- the branching is grown
  grown : Grown job.n job.n tree
  grown = branching-grown job.n tree two whole

  -- the states of the taxa are in range
  states_near : (j u : ℕ) → Each IsNear (character (states_meant job) j u)
  unfolding only row_of
  states_near j u =
      let near = code_near (get_or job.rows (u - 1) []) (near_job job within (u - 1)).known (j - 1) in
      rw (character-single job.rows j u) (record { at_low = near; at_high = near })

  -- so are the chosen states
  pub state_near : (v j : ℕ) → 1 ≤ v → v ≤ 2 * job.n - 2 → IsNear (chosen_state tree (states_meant job) job.n v j)
  state_near v j first last =
      chosen_state-each IsNear job.n tree grown (states_meant job) j (λ u p q. states_near j u) v first last

  -- and the ends of the ranges
  pub range_near : (v j : ℕ) → 1 ≤ v → v ≤ 2 * job.n - 2 → Each IsNear (range tree (states_meant job) job.n v j)
  range_near v j first last = range-each IsNear job.n tree grown (states_meant job) j (λ u p q. states_near j u) v first last

  -- a fitted length
  pub fitted-apart : (v : ℕ) → 2 ≤ v → v ≤ 2 * job.n - 2 → fitted_length (measure_meant job).step tree (states_meant job) job.n job.m v ≤ most_difference
  unfolding fitted_length branch_length
  fitted-apart v first last =
      let some : 1 ≤ ancestor tree v = branching_nodes job.n tree whole v first last in
      let above : ancestor tree v ≤ 2 * job.n - 2 = growing_ancestor_le job.n tree whole v in
      let own = chosen_state tree (states_meant job) job.n in
      let sum = sum_most (λ j. part (weight_of job.weights j) (own v j) (own (ancestor tree v) j)) most_part (numbers 1 job.m) (λ j m.
      part-in_range (weight_of job.weights j) (own v j) (own (ancestor tree v) j) (weight_known job.weights within.weights_known j)
      (state_near v j (omega arith) last) (state_near (ancestor tree v) j some above)) in
      omega (arith, sum, length-numbers 1 job.m, known.characters)

-- the floor of a job is no higher than the fitted total of any branching of its taxa
pub floor-below : (job : Job) → JobWithinLimits job → (tree : List ℕ) → Branching job.n tree
    → floor (measure_meant job).step (states_meant job) job.n job.m ≤ fitted_total (measure_meant job).step tree (states_meant job) job.n job.m
floor-below job within tree whole =
    let inside = limits job.n job.m within.limits in
    floor-fitted job.weights job.n job.m tree (states_meant job) inside.taxon (singles_proper job.rows job.n job.m)
    (first-known job.weights within.weights_known job.m)
    ((branching_iff tree job.n inside.taxon).1 whole)
