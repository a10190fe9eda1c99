-- The floor never passes the total, of any branching and any assignment.
use mathlib.Core.Path.{◌≡◌, subst}
use mathlib.Core.Bool.{true}
use mathlib.Core.Logic.{by_cases}
use mathlib.Core.List.Memᴰ
use mathlib.Core.List.{List, map, Memᴰ}
use Prim.Native.Nat.{ℕ, ◌≤◌}
use native.Mathlib.Nat.{mul-le-mul_left}
use native.Mathlib.Omega.{arith}
use native.Mathlib.Decide.{dec_le}
use lib.IntN.{ℤ}
use lib.ListN.{length, length-map}
use lib.Signed.{◌≤ℤ◌}
use Rattle.lists.specs.Numbers.{numbers}
use Rattle.lists.proofs.Numbers.{numbers-within, length_map_numbers}
use Rattle.lists.proofs.Sums.{sum_le, sum_none}
use Rattle.matrix_form.specs.Shape.{weight_of}
use Rattle.matrix_form.specs.Questions.{are_weights}
use Rattle.difference_form.specs.Rows.{part, lower, weighing}
use Rattle.difference_form.proofs.Laws.Weights.{part_distance}
use Rattle.tree_form.specs.Growing.{branching}
use Rattle.tree_form.proofs.Test.{branching_iff}
use Rattle.tree_form.proofs.Whole.{branching-grown}
use Rattle.difference_form.proofs.Laws.Distance.{Distance}
use Rattle.clades.proofs.OneCharacter.CharacterFit.{Node}
use Rattle.clades.proofs.OneCharacter.Reach.{reach}
use Rattle.fit_form.specs.Assignments.{character, total, IsAssignment, IsLeast}
use Rattle.fit_form.specs.Fit.{chosen_state, fitted_total}
use Rattle.fit_form.proofs.Clades.Built.{CladeOf, clade_of_lem}
use Rattle.fit_form.proofs.Clades.Taxa.{node_of}
use Rattle.matrix_form.specs.declared.spans.Span.{Span}
use Rattle.fit_form.proofs.Matrix.Proper.{RowsProper}
use Rattle.fit_form.proofs.Matrix.Totals.{cost_of, total-cost}
use Rattle.fit_form.proofs.Matrix.ThirdRival.{third_rival}
use Rattle.consistency_form.specs.Floor.{states_of, greatest_low, least_high, character_floor, floor, FloorNeverPasses}
use Rattle.consistency_form.proofs.Ends.{lowest-keeps, highest-keeps, apart_spread}

-- there are as many states as taxa
length-states_of : (rows : List (List Span)) (n j : ℕ) → length (states_of rows n j) ≡ n
unfolding states_of
length-states_of rows n j = length_map_numbers (character rows j) 1 n

-- each of them is that of some taxon
of_taxon : (rows : List (List Span)) (n j : ℕ) (a : Span) → Memᴰ a (states_of rows n j) → Memᴰ a (map (character rows j) (numbers 1 n))
unfolding states_of
of_taxon rows n j a i = i

-- what holds of every two taxa's states in a character, of the low end of the one and the high end of the other, holds of the greatest low
-- and the least high end
pub ends-keep : (P : ℤ → ℤ → Type 0) (rows : List (List Span)) (n j : ℕ) → 1 ≤ n
    → ((u v : ℕ) → 1 ≤ u → u ≤ n → 1 ≤ v → v ≤ n → P (character rows j u).low (character rows j v).high)
    → P (greatest_low (states_of rows n j)) (least_high (states_of rows n j))
ends-keep P rows n j taxon h =
    let spans = states_of rows n j in
    let some : (f : Span → ℤ) → 1 ≤ length (map f spans) = λ f. omega (arith, length-map spans f, length-states_of rows n j) in
    let at : (f : Span → ℤ) (Q : ℤ → Type 0) → ((u : ℕ) → 1 ≤ u → u ≤ n → Q (f (character rows j u)))
    → (code : ℤ) → Memᴰ code (map f spans) → Q code =
    λ f Q g code i.
    let place = Memᴰ.of_map f spans i in
    let taxon = Memᴰ.of_map (character rows j) (numbers 1 n) (of_taxon rows n j place.0 place.1) in
    let within = numbers-within 1 n taxon.0 taxon.1 in
    subst Q place.2 (subst (λ a. Q (f a)) taxon.2 (g taxon.0 within.0 (omega (arith, within.1)))) in
    highest-keeps (λ high. P high (least_high spans)) (map (λ a. a.low) spans) (some (λ a. a.low))
    (at (λ a. a.low) (λ high. P high (least_high spans)) (λ u p q.
    lowest-keeps (λ low. P (character rows j u).low low) (map (λ a. a.high) spans) (some (λ a. a.high))
    (at (λ a. a.high) (λ low. P (character rows j u).low low) (λ v r s. h u v p q r s))))

-- what a step costs: a distance, and of a state from a low end on and one up to a high end no less than of the two ends, where the low end
-- is above
record Stepping (step : ℤ → ℤ → ℕ) : Type 0 where
  distance : Distance step
  spread : (s t low high : ℤ) → low ≤ℤ s → t ≤ℤ high → step low (lower low high) ≤ step s t

-- the cost by a weight is such
part_stepping : (w : ℕ) → Stepping (part w)
unfolding part
part_stepping w = record {
  distance = part_distance w;
  spread = λ s t low high p q. mul-le-mul_left w (apart_spread s t low high p q);
}

module _ (step : ℕ → ℤ → ℤ → ℕ) (stepping : (j : ℕ) → Stepping (step j)) (n m : ℕ) (tree : List ℕ) (rows : List (List Span))
    (states : ℕ → ℕ → ℤ) (assignment : IsAssignment rows n m states) where
  -- the step between the ends of two taxa's states costs no more than that between the states that they are given
  between_taxa : (u v j : ℕ) → 1 ≤ u → u ≤ n → 1 ≤ v → v ≤ n → 1 ≤ j → j ≤ m
      → step j (character rows j u).low (lower (character rows j u).low (character rows j v).high) ≤ step j (states u j) (states v j)
  between_taxa u v j p q r s one last =
      (stepping j).spread (states u j) (states v j) (character rows j u).low (character rows j v).high
      (assignment.keeps u j p q one last).from_low (assignment.keeps v j r s one last).to_high

  module _ (several : 2 ≤ n) (clade_of : CladeOf n tree) where
    -- the cost of character j
    abbrev cost_in : ℕ → ℕ
    cost_in j = cost_of step n tree clade_of states j

    -- a taxon is a node of the clade, or row 1
    taxon_node : (v : ℕ) → 1 ≤ v → v ≤ n → Node clade_of.clade v
    taxon_node v p q = node_of n tree clade_of v p (omega arith)

    -- a character costs at least its floor
    character-least : (j : ℕ) → Memᴰ j (numbers 1 m) → character_floor (step j) (states_of rows n j) ≤ cost_in j
    unfolding character_floor
    character-least j i =
        let within = numbers-within 1 m j i in
        let last : j ≤ m = omega (arith, within.1) in
        ends-keep (λ low high. step j low (lower low high) ≤ cost_in j) rows n j (omega arith) (λ u v p q r s.
        omega (
          arith,
          between_taxa u v j p q r s within.0 last,
          reach (step j) clade_of.clade (λ w. states w j) (stepping j).distance u v (taxon_node u p q) (taxon_node v r s),
        ))

    -- so the total is at least the floor
    several-least : floor step rows n m ≤ total step tree n m states
    unfolding floor
    several-least =
        omega (
          arith,
          total-cost step n m tree clade_of states,
          sum_le (λ j. character_floor (step j) (states_of rows n j)) cost_in (numbers 1 m) character-least,
        )

  -- the floor of row 1 alone is 0
  alone-floor : n ≡ 1 → floor step rows n m ≡ 0
  unfolding floor character_floor
  alone-floor one =
      sum_none (λ j. character_floor (step j) (states_of rows n j)) (numbers 1 m) (λ j i.
      let within = numbers-within 1 m j i in
      let last : j ≤ m = omega (arith, within.1) in
      ends-keep (λ low high. step j low (lower low high) ≡ 0) rows n j (omega arith) (λ u v p q r s.
      let both : u ≡ v = omega arith in
      let same : step j (states u j) (states v j) ≡ 0 = rw both ((stepping j).distance.self (states v j)) in
      omega (arith, same, between_taxa u v j p q r s within.0 last)))

-- the claim, for such steps
floor-least : (step : ℕ → ℤ → ℤ → ℕ) → ((j : ℕ) → Stepping (step j)) → (n m : ℕ) (rows : List (List Span)) → 1 ≤ n
    → FloorNeverPasses step rows n m
floor-least step stepping n m rows taxon = record {
  least = λ tree b states assignment.
      let whole = (branching_iff tree n taxon).0 b in
      by_cases (dec_le 2 n)
      (λ two. several-least step stepping n m tree rows states assignment two (clade_of_lem n tree (branching-grown n tree two whole)))
      (λ one. rw (alone-floor step stepping n m tree rows states assignment (omega arith)) (omega arith));
}

-- by any weights
pub floor_never_passes : (weights : List ℕ) (n m : ℕ) (rows : List (List Span)) → 1 ≤ n → FloorNeverPasses (weighing weights).step rows n m
floor_never_passes weights n m rows taxon =
    floor-least (weighing weights).step (λ j. part_stepping (weight_of weights j)) n m rows taxon

-- so it never passes the fitted total
pub floor-fitted : (weights : List ℕ) (n m : ℕ) (tree : List ℕ) (rows : List (List Span)) → 1 ≤ n → RowsProper rows n m
    → are_weights weights m ≡ true → branching n tree ≡ true → floor (weighing weights).step rows n m ≤ fitted_total (weighing weights).step tree rows n m
unfolding fitted_total
floor-fitted weights n m tree rows taxon each known b =
    (floor_never_passes weights n m rows taxon).least tree b (chosen_state tree rows n)
    (third_rival weights n m tree rows taxon known each ((branching_iff tree n taxon).0 b)).assigns

-- and an assignment whose total is no more than the floor is of least length
pub floor_reached : (step : ℕ → ℤ → ℤ → ℕ) (n m : ℕ) (rows : List (List Span)) → FloorNeverPasses step rows n m → (tree : List ℕ)
    → branching n tree ≡ true → (states : ℕ → ℕ → ℤ) → IsAssignment rows n m states
    → total step tree n m states ≤ floor step rows n m → IsLeast step tree rows n m states
floor_reached step n m rows claim tree b states assigns reached = record {
  assigns = assigns;
  least = λ others h. omega (arith, reached, claim.least tree b others h);
}
