-- The members of a set that are nearest to another one, in any kind of character: the middle of the set, twice, and the other one.
use mathlib.Core.Logic.{◌↔◌}
use Prim.Native.Nat.{◌+◌, ◌≤◌}
use native.Mathlib.Omega.{arith}
use lib.IntN.{ℤ}
use Rattle.clades.specs.Kinds.{Kind, offset, among}
use Rattle.clades.proofs.Sets.Laws.{Laws, sum_of}
use Rattle.clades.proofs.Sets.Distance.{offset_in_lem, in_offset, offset_triangle, offset-nearest}

module _ (K : Kind) (laws : Laws K) (a b : K.Set) (p : K.Proper a) (q : K.Proper b) where
  -- it can be the set of a node
  pub among_proper : K.Proper (among K a b)
  among_proper = laws.middle_proper a a b p p q

  -- a state outside of the first set is farther than the nearest member of it
  nearer_in : (s : ℤ) → sum_of K a a b (K.nearest s a) + offset K s a ≤ sum_of K a a b s
  nearer_in s =
      let n = K.nearest s a in
      omega (arith, offset_in_lem K laws n a p (laws.nearest_in s a p), offset_triangle K laws n s b q, offset-nearest K laws s a)

  -- it has the members of the first set than which no other is nearer to the second
  pub among-nearest : (s : ℤ) → K.In s (among K a b) ↔ (K.In s a × ((x : ℤ) → K.In x a → offset K s b ≤ offset K x b))
  among-nearest s = (
    λ i.
        let least = (laws.middle_least a a b p p q s).0 i in
        let member : K.In s a = in_offset K laws s a p (omega (arith, least (K.nearest s a), nearer_in s)) in
        (member, λ x j. omega (arith, least x, offset_in_lem K laws s a p member, offset_in_lem K laws x a p j)),
    λ m. (laws.middle_least a a b p p q s).1
        (λ x.
        omega (
          arith,
          m.1 (K.nearest x a) (laws.nearest_in x a p),
          offset_in_lem K laws s a p m.0,
          offset_in_lem K laws (K.nearest x a) a p (laws.nearest_in x a p),
          nearer_in x,
        )),
  )
