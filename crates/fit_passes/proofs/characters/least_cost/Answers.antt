-- `fit_passes::characters::least_cost` meets its contract. Assumes nothing.
use Rattle.std.proofs.Common.{Option, ◌≡◌, ℕ, ◌+◌, ◌-◌, ◌*◌, ◌%◌, ◌^◌, ◌<◌, ◌≤◌, List, sym, refl, ap, ap₂, subst, ◌∙◌, arith}
use Rattle.lists.specs.Numbers.{numbers}
use Rattle.lists.specs.Sums.{sum_over}
use Rattle.tree_form.specs.Nodes.{other_nodes}
use Rattle.fit_form.specs.Sets.{gap}
use Rattle.matrix_form.specs.declared.spans.Span.{Span}
use Rattle.fit_form.specs.Assignments.{character}
use Rattle.tree_walk.specs.Walks.{Belows, below_at}
use Rattle.fit_passes.specs.Steps.{PartsUp, part_at, LeastCost, set_of, cost_of, character_length}
use Rattle.fit_sets.specs.Steps.{GapOf}
use Rattle.tree_walk.specs.declared.walk.Below.{Below}
use Rattle.fit_passes.specs.declared.characters.Part.{Part}
use Rattle.fit_form.proofs.Clades.Hanging.{clade_of}
use Rattle.fit_passes.proofs.Matrix.ByNode.{set-taxon}
use Rattle.fit_passes.proofs.Matrix.LeastCost.{character-cost, cost-most, gap_row1}
use Rattle.fit_passes.proofs.Pass.Standing.{taxa-most, grown_of, last_several, one_kept, root-within}
use native.Mathlib.Nat.{mod-eq_of_lt}
use Rattle.fit_passes.specs.Plans.{TaxaTree}
use Rattle.fit_passes.proofs.characters.least_cost.Goals as goal

-- fewer than two taxa have no branch
few_taxa : (n : ℕ) (tree : List ℕ) (rows : List (List Span)) (j : ℕ) → n < 2 → 0 ≡ character_length tree rows n j
unfolding character_length other_nodes sum_over numbers
few_taxa n tree rows j few = let none : 2 * n - 3 ≡ 0 = omega arith in rw none

-- of two taxa or more it is the least cost of the clade below row 1, and how far row 1's own set lies from its set
several-taxa : (n : ℕ) (tree : List ℕ) (own : List (Option Span)) (below : List Below) (parts : List Part) (far r : ℕ) → 2 ≤ n
    → Belows n tree below → PartsUp n tree own parts
    → GapOf (part_at parts (below_at below 1).first).set (part_at parts 1).set far
    → r ≡ ((part_at parts (below_at below 1).first).cost + far) % 2 ^ 64 → LeastCost n tree own r
several-taxa n tree own below parts far r two belows up gap_is sum = record {
  is = λ rows j own_are branches.
      let grown = grown_of n tree branches two in
      let clade = clade_of n tree grown in
      let top = clade.root in
      let place = root-within n tree grown in
      let sets = character rows j in
      let are = up.are rows j own_are branches in
      let part = ap (part_at parts) (one_kept n tree below belows top clade.of_row1) ∙ are top (omega (arith, place.0)) (omega (arith, place.1, last_several n two)) in
      let row1 = are 1 (omega arith) (omega (arith, last_several n two)) in
      let alone = set-taxon n tree grown rows j 1 (omega arith) own_are.taxon in
      let away : far ≡ gap (set_of tree n sets top) (sets 1) =
      gap_is.is ∙ ap₂ gap (ap (λ (p : Part). p.set) part) (ap (λ (p : Part). p.set) row1 ∙ alone) in
      let most = cost-most n tree grown rows j own_are.known top place.0 place.1 in
      let near = gap_row1 n tree grown rows j own_are.known top place.0 place.1 in
      let few = taxa-most n tree branches in
      let is : r ≡ (cost_of tree n sets top + far) % 2 ^ 64 = rw part at sum in
      is
      ∙ mod-eq_of_lt (omega arith)
      ∙ ap (λ k. cost_of tree n sets top + k) away
      ∙ sym (character-cost n tree grown rows j own_are.proper top clade.of_row1);
}

pub returns-then-plan-lt2 : goal.returns-then-plan-lt2
returns-then-plan-lt2 c =
    subst (λ (r : TaxaTree). LeastCost r.taxa r.tree c.args.own.now 0) c.plan.view_is
    (record { is = λ rows j own_are branches. few_taxa _ _ rows j c.if-plan-lt2.true })

pub returns : goal.returns
returns c =
    let parts = c.parts_up-parts.result in
    let up = subst (λ (r : TaxaTree). PartsUp r.taxa r.tree c.args.own.now parts) (sym c.plan.view_is) c.parts_up-parts.ensures in
    let part = part_at parts (below_at c.plan.inside.below 1).first in
    subst (λ (r : TaxaTree). LeastCost r.taxa r.tree c.args.own.now ((part.cost + c.gap.result) % 2 ^ 64)) c.plan.view_is
    (several-taxa _ _ _ _ _ _ _ (omega (arith, c.if-plan-lt2.false)) c.plan.invariant.below up c.gap.ensures refl)
