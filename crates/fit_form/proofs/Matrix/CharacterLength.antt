-- The length of one ordered character under the chosen states.
use Rattle.std.proofs.Common.{◌≡◌, ℕ, ◌+◌, ◌≤◌, false, List, [], ◌∷◌, ℤ, sym, refl, ap, ◌∙◌, subst, arith}
use mathlib.Core.Path.{fun_ext}
use Rattle.difference_form.specs.Rows.{apart}
use Rattle.clades.specs.Clades.{Clade}
use Rattle.clades.specs.Character.{up, state_of}
use Rattle.clades.specs.Passes.{least_cost}
use Rattle.clades.proofs.Clades.Nodes.{has}
use Rattle.clades.proofs.OneCharacter.Basic.{EachProper}
use Rattle.clades.proofs.OneCharacter.CharacterFit.{length_in}
use Rattle.clades.proofs.OneCharacter.Outside.{least_with}
use Rattle.clades.proofs.OneCharacter.Row1.{state-length, least_length}
use Rattle.fit_form.specs.Sets.{Nonempty, gap, ordered}
use Rattle.matrix_form.specs.declared.spans.Span.{Span}
use Rattle.fit_form.specs.Assignments.{character}
use Rattle.fit_form.specs.Fit.{chosen_state}
use Rattle.fit_form.proofs.Sets.IsKind.{ordered_laws}
use Rattle.fit_form.proofs.Clades.Built.{CladeOf}
use Rattle.fit_form.proofs.Clades.Taxa.{made_off, each_of}

module _ (n : ℕ) (tree : List ℕ) (rows : List (List Span)) (j : ℕ) (proper : (v : ℕ) → 1 ≤ v → v ≤ n → Nonempty (character rows j v))
    (taxa : 1 ≤ n) (clade_of : CladeOf n tree) where
  -- the clade below row 1
  abbrev clade : Clade
  clade = clade_of.clade

  -- the taxa's own sets
  abbrev own : ℕ → Span
  own = character rows j

  -- the chosen states of character j
  abbrev states : ℕ → ℤ
  states v = chosen_state tree rows n v j

  -- each taxon's own set has a member
  each : EachProper ordered own clade
  each = each_of n tree (λ v. ordered.Proper (own v)) clade clade_of.is_made (λ v p q. proper v (omega arith) q)

  -- row 1 is not in the clade
  off : has clade 1 ≡ false
  off = made_off n tree clade taxa clade_of.is_made

  -- the chosen states are those of the clade
  states-one : state_of ordered own (clade ∷ []) ≡ states
  unfolding chosen_state
  states-one = fun_ext (λ v. sym (ap (λ ts. state_of ordered own ts v) clade_of.below))

  -- the length of the chosen states: the least cost of the clade, and how far its set lies from row 1's
  pub states-length : length_in apart clade states ≡ least_cost ordered own clade + gap (up ordered own clade) (character rows j 1)
  states-length =
      subst (λ f. length_in apart clade f ≡ least_cost ordered own clade + gap (up ordered own clade) (character rows j 1)) states-one
      (state-length ordered ordered_laws own clade each (proper 1 (omega arith) taxa) clade_of.is_distinct off
      ∙ unfold least_length least_with in refl)
