-- Three sets around a node, in any kind of character: the least sum of a state's distances from them, in whichever order they are joined.
use mathlib.Core.Path.{◌≡◌}
use Prim.Native.Nat.{ℕ, ◌+◌, ◌≤◌}
use native.Mathlib.Nat.{le_antisymm}
use native.Mathlib.Omega.{arith}
use lib.IntN.{ℤ}
use Rattle.clades.specs.Kinds.{Kind}
use Rattle.clades.proofs.Sets.Laws.{Laws, sum_of}
use Rattle.clades.proofs.Sets.Distance.{gap-least, closest, closest_in, gap_closest}

-- the least sum of a state's distances from three sets
unfoldable pub least_sum : (K : Kind) → K.Set → K.Set → K.Set → ℕ
least_sum K a b c = K.gap a b + K.gap (K.join a b) c

module _ (K : Kind) (laws : Laws K) (a b c : K.Set) (p : K.Proper a) (q : K.Proper b) (r : K.Proper c) where
  -- the join of the first two can be the set of a node
  joined : K.Proper (K.join a b)
  joined = laws.join_proper a b p q

  -- no state has a lower sum
  pub least_sum_least : (s : ℤ) → least_sum K a b c ≤ sum_of K a b c s
  unfolding least_sum
  least_sum_least s = omega (arith, laws.join_apart a b p q s, gap-least K laws (K.join a b) c joined r s)

  -- a state that has this sum: the member of the join of two sets that is closest to the third
  pub least_state : ℤ
  least_state = closest K laws (K.join a b) c joined r

  -- its sum is the least
  pub least_sum_attained : sum_of K a b c least_state ≤ least_sum K a b c
  unfolding least_sum least_state
  least_sum_attained =
      omega (
        arith,
        laws.join_in a b p q least_state (closest_in K laws (K.join a b) c joined r),
        gap_closest K laws (K.join a b) c joined r,
      )

-- three sets, in two orders, that lie together as far from every state have the same least sum
pub least_sum_same : (K : Kind) (laws : Laws K) (a b c a' b' c' : K.Set) → K.Proper a → K.Proper b → K.Proper c →
    K.Proper a' → K.Proper b' → K.Proper c' → ((s : ℤ) → sum_of K a b c s ≡ sum_of K a' b' c' s) →
    least_sum K a b c ≡ least_sum K a' b' c'
least_sum_same K laws a b c a' b' c' p q r p' q' r' same = le_antisymm
    (omega (
      arith,
      least_sum_least K laws a b c p q r (least_state K laws a' b' c' p' q' r'),
      same (least_state K laws a' b' c' p' q' r'),
      least_sum_attained K laws a' b' c' p' q' r',
    ))
    (omega (
      arith,
      least_sum_least K laws a' b' c' p' q' r' (least_state K laws a b c p q r),
      same (least_state K laws a b c p q r),
      least_sum_attained K laws a b c p q r,
    ))
