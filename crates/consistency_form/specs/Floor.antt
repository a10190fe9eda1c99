-- The floor of a matrix (document 02, M-102): the sum over characters of the weight times highest less lowest code among the taxa; of
-- taxa that may have several states, the greatest low less the least high end, or 0 if that is negative.
-- No total of any branching passes below it.
use Rattle.std.specs.Prelude.{◌≡◌, true, List, [], ◌∷◌, map, ℕ, ◌≤◌, ℤ, pos}
use Rattle.lists.specs.Numbers.{numbers}
use Rattle.lists.specs.Sums.{sum_over}
use Rattle.difference_form.specs.Rows.{lower, higher}
use Rattle.tree_form.specs.Growing.{branching}
use Rattle.matrix_form.specs.declared.spans.Span.{Span}
use Rattle.fit_form.specs.Assignments.{character, total, IsAssignment}

-- what is left of some codes if of each and what is left of those behind it one is chosen; of none, 0
unfoldable pub left_by : (ℤ → ℤ → ℤ) → List ℤ → ℤ
left_by choose [] = pos 0
left_by choose (code ∷ []) = code
left_by choose (code ∷ next ∷ codes) = choose code (left_by choose (next ∷ codes))

-- the lowest of some codes
unfoldable pub lowest : List ℤ → ℤ
lowest codes = left_by lower codes

-- the highest of some codes
unfoldable pub highest : List ℤ → ℤ
highest codes = left_by higher codes

-- the states of the n taxa in character j, row 1's first
unfoldable pub states_of : List (List Span) → ℕ → ℕ → List Span
states_of rows n j = map (character rows j) (numbers 1 n)

-- the greatest of the low ends
abbrev pub greatest_low : List Span → ℤ
greatest_low spans = highest (map (λ a. a.low) spans)

-- the least of the high ends
abbrev pub least_high : List Span → ℤ
least_high spans = lowest (map (λ a. a.high) spans)

-- the floor of one character, from its taxa's states: what the step from the greatest low end to the least high end costs, or nothing if
-- that is not below; by a weight, the weight times the greatest low less the least high, or 0 if that is negative
unfoldable pub character_floor : (ℤ → ℤ → ℕ) → List Span → ℕ
character_floor step spans = step (greatest_low spans) (lower (greatest_low spans) (least_high spans))

-- `step j a b` is what a change between states a and b costs in character j
module _ (step : ℕ → ℤ → ℤ → ℕ) (rows : List (List Span)) (n m : ℕ) where
  -- the floor of the m characters of n taxa
  unfoldable pub floor : ℕ
  floor = sum_over (λ j. character_floor (step j) (states_of rows n j)) (numbers 1 m)

  -- the claim: the floor never passes the total, of any branching of the taxa and any assignment
  pub record FloorNeverPasses : Type 0 where
    pub least : (tree : List ℕ) → branching n tree ≡ true → (states : ℕ → ℕ → ℤ) → IsAssignment rows n m states
        → floor ≤ total step tree n m states
