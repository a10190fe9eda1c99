-- What the functions on sets of states promise: a state carried through states in order, the members nearest to a set, and how far two sets
-- lie from each other.
use Rattle.std.specs.Prelude.{◌≡◌, ℕ, ◌+◌, ◌^◌, ◌≤◌, List, [], ◌∷◌, ℤ, take}
use Rattle.filled.specs.declared.Filled.{Filled}
use Rattle.difference_form.specs.Rows.{lower, higher}
use Rattle.fit_form.specs.Sets.{gap, nearest_member}
use Rattle.matrix_form.specs.Spans.{span}
use Rattle.matrix_form.specs.declared.spans.Span.{Span}

-- a state carried through a list: each entry keeps the lower, and the higher goes on
unfoldable pub carried : ℤ → List ℤ → List ℤ
carried state [] = state ∷ []
carried state (s ∷ rest) = lower state s ∷ carried (higher state s) rest

-- what is filled afterwards is what was filled before, with a state carried through it
pub record Carried (before : Filled ℤ 6) (state : ℤ) (after : Filled ℤ 6) : Type 0 where
  pub count : after.count ≡ before.count + 1
  pub states : take after.count after.items ≡ carried state (take before.count before.items)

-- the members of a set that are nearest to another one: from the member nearest to its low end to the member nearest to its high end
abbrev pub nearest_members : Span → Span → Span
nearest_members other a = span (nearest_member other.low a) (nearest_member other.high a)

-- r is how far two sets of 32-bit states lie from each other
pub record GapOf (a b : Span) (r : ℕ) : Type 0 where
  pub is : r ≡ gap a b
  pub most : r ≤ 2 ^ 32
