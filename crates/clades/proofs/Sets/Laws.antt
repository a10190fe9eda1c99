-- The laws of a kind of character, all about one node and the sets around it. The rest of this crate rests on them alone.
use mathlib.Core.Path.{◌≡◌}
use mathlib.Core.Logic.{◌↔◌}
use Prim.Native.Nat.{ℕ, ◌+◌, ◌≤◌}
use lib.IntN.{ℤ}
use lib.Signed.{◌≤ℤ◌}
use Rattle.difference_form.proofs.Laws.Distance.{Distance}
use Rattle.clades.specs.Kinds.{Kind, offset}

-- the cost of a change is a distance of states, and 0 only from a state to itself
pub record Metric (step : ℤ → ℤ → ℕ) : Type 0 where
  pub distance : Distance step
  pub same : (x y : ℤ) → step x y ≡ 0 → x ≡ y

-- how far a state lies from three sets together
abbrev pub sum_of : (K : Kind) → K.Set → K.Set → K.Set → ℤ → ℕ
sum_of K a b c s = offset K s a + offset K s b + offset K s c

-- the laws of a kind
pub record Laws (K : Kind) : Type 0 where
  pub metric : Metric K.step
  -- the nearest member is a member, and none is nearer
  pub nearest_in : (s : ℤ) (a : K.Set) → K.Proper a → K.In (K.nearest s a) a
  pub nearest_least : (s : ℤ) (a : K.Set) → K.Proper a → (x : ℤ) → K.In x a → offset K s a ≤ K.step s x
  -- the join of two sets can be the set of a node
  pub join_proper : (a b : K.Set) → K.Proper a → K.Proper b → K.Proper (K.join a b)
  -- to two sets it is at least as far as to their join and from one set to the other
  pub join_apart : (a b : K.Set) → K.Proper a → K.Proper b → (s : ℤ) →
      K.gap a b + offset K s (K.join a b) ≤ offset K s a + offset K s b
  -- from a member of the join it is no farther than from one set to the other
  pub join_in : (a b : K.Set) → K.Proper a → K.Proper b → (s : ℤ) → K.In s (K.join a b) → offset K s a + offset K s b ≤ K.gap a b
  -- the middle of three sets has the states whose distances from the three add up to the least
  pub middle_least : (a b c : K.Set) → K.Proper a → K.Proper b → K.Proper c → (s : ℤ) →
      K.In s (K.middle a b c) ↔ ((x : ℤ) → sum_of K a b c s ≤ sum_of K a b c x)
  pub middle_proper : (a b c : K.Set) → K.Proper a → K.Proper b → K.Proper c → K.Proper (K.middle a b c)
  -- the lowest member is a member, and none is lower
  pub lowest_in : (a : K.Set) → K.Proper a → K.In (K.lowest a) a
  pub lowest_least : (a : K.Set) → K.Proper a → (s : ℤ) → K.In s a → K.lowest a ≤ℤ s
