-- A taxon with a single code keeps it: the code is its chosen state, and its range is the code alone.
use Rattle.std.proofs.Common.{◌≡◌, ℕ, ◌≤◌, List, ℤ, ap, ◌∙◌, ap₂, refl, arith}
use Rattle.tree_form.specs.Ancestors.{ancestor}
use Rattle.tree_form.specs.Facts.{Grown}
use Rattle.matrix_form.specs.Spans.{span, only}
use Rattle.matrix_form.specs.declared.spans.Span.{Span}
use Rattle.fit_form.specs.Sets.{Nonempty, nearest_member}
use Rattle.fit_form.specs.Assignments.{character}
use Rattle.fit_form.specs.Fit.{chosen_state, range}
use Rattle.fit_form.proofs.Cases.{either}
use Rattle.fit_form.proofs.Clades.Hanging.{clade_of}
use Rattle.fit_form.proofs.Sets.Single.{nearest-only}
use Rattle.fit_sets.specs.Steps.{nearest_members}
use Rattle.fit_passes.specs.Steps.{set_of, outside_of}
use Rattle.fit_passes.proofs.Matrix.ByNode.{set-taxon, state_node, state_row1, range-taxon, range_row1}

-- the member of a single code's set nearest to any other set is that code
only_member : (other : Span) (c : ℤ) → nearest_members other (only c) ≡ only c
unfolding only
only_member other c = ap₂ span (unfold only in nearest-only other.low c) (unfold only in nearest-only other.high c)

module _ (n : ℕ) (tree : List ℕ) (grown : Grown n n tree) (rows : List (List Span)) (j : ℕ)
    (proper : (v : ℕ) → 1 ≤ v → v ≤ n → Nonempty (character rows j v)) (v : ℕ) (first : 1 ≤ v) (l : v ≤ n) (c : ℤ)
    (single : character rows j v ≡ only c) where
  -- its range is the code alone
  pub range-single : range tree rows n v j ≡ only c
  range-single = either 2 v
      (λ second.
      range-taxon n tree grown rows j proper v second l
      ∙ ap (nearest_members (outside_of tree n (character rows j) v)) single
      ∙ only_member (outside_of tree n (character rows j) v) c)
      (λ few.
      let row1 : v ≡ 1 = omega arith in
      let top = (clade_of n tree grown).root in
      ap (λ (u : ℕ). range tree rows n u j) row1
      ∙ range_row1 n tree grown rows j proper
      ∙ ap (nearest_members (set_of tree n (character rows j) top)) (rw row1 at single)
      ∙ only_member (set_of tree n (character rows j) top) c)

  -- and the code is its chosen state
  pub state-single : chosen_state tree rows n v j ≡ c
  state-single = either 2 v
      (λ second.
      state_node n tree grown rows j v second (omega (arith, grown.at_least_two))
      ∙ ap (nearest_member (chosen_state tree rows n (ancestor tree v) j)) (set-taxon n tree grown rows j v first l ∙ single)
      ∙ nearest-only (chosen_state tree rows n (ancestor tree v) j) c)
      (λ few.
      let row1 : v ≡ 1 = omega arith in
      ap (λ (u : ℕ). chosen_state tree rows n u j) row1
      ∙ state_row1 n tree grown rows j
      ∙ ap (λ (a : Span). a.low) (rw row1 at range-single)
      ∙ unfold only in refl)
