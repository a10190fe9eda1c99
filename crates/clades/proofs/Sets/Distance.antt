-- How far a state lies from a set and from two sets, in any kind of character.
use mathlib.Core.Path.{◌≡◌, refl, sym, subst}
use mathlib.Core.Logic.{◌↔◌}
use Prim.Native.Nat.{◌+◌, ◌≤◌}
use native.Mathlib.Nat.{le_antisymm}
use native.Mathlib.Omega.{arith}
use lib.IntN.{ℤ, pos}
use Rattle.clades.specs.Kinds.{Kind, offset}
use Rattle.clades.proofs.Sets.Laws.{Laws}

module _ (K : Kind) (laws : Laws K) where
  -- a member of a set is at distance 0 from it
  pub offset_in_lem : (s : ℤ) (a : K.Set) → K.Proper a → K.In s a → offset K s a ≡ 0
  offset_in_lem s a p i = omega (arith, laws.nearest_least s a p s i, laws.metric.distance.self s)

  -- from a state to a set it is at most as far as over another state
  pub offset_triangle : (y s : ℤ) (a : K.Set) → K.Proper a → offset K y a ≤ K.step y s + offset K s a
  offset_triangle y s a p =
      let n = K.nearest s a in
      let d : offset K s a ≡ K.step s n = unfold offset in refl in
      omega (arith, laws.nearest_least y a p n (laws.nearest_in s a p), laws.metric.distance.triangle y s n)

  -- the nearest member is as far as the set
  pub offset-nearest : (s : ℤ) (a : K.Set) → K.step (K.nearest s a) s ≡ offset K s a
  unfolding offset
  offset-nearest s a = laws.metric.distance.turned (K.nearest s a) s

  module _ (a b : K.Set) (p : K.Proper a) (q : K.Proper b) where
    -- two sets are together at least as far from a state as from each other
    pub gap-least : (s : ℤ) → K.gap a b ≤ offset K s a + offset K s b
    gap-least s = omega (arith, laws.join_apart a b p q s)

    -- and no farther from each other than a member of the one from a member of the other
    pub gap_members : (s r : ℤ) → K.In s a → K.In r b → K.gap a b ≤ K.step s r
    gap_members s r i j = omega (arith, gap-least s, offset_in_lem s a p i, laws.nearest_least s b q r j)

    -- a member of the join
    pub joint : ℤ
    joint = K.nearest (pos 0) (K.join a b)

    -- it is together as far from the two sets as these from each other
    pub gap_joint : offset K joint a + offset K joint b ≤ K.gap a b
    unfolding joint
    gap_joint = laws.join_in a b p q joint (laws.nearest_in (pos 0) (K.join a b) (laws.join_proper a b p q))

    -- a member of the first set that is as near to the second as the two sets are
    pub closest : ℤ
    closest = K.nearest joint a

    -- it is a member
    pub closest_in : K.In closest a
    unfolding closest
    closest_in = laws.nearest_in joint a p

    -- it is as near
    pub gap_closest : offset K closest b ≤ K.gap a b
    unfolding closest
    gap_closest = omega (arith, gap_joint, offset_triangle closest joint b q, offset-nearest joint a)

  -- two sets are as far from each other in either order
  pub gap_turned : (a b : K.Set) → K.Proper a → K.Proper b → K.gap a b ≡ K.gap b a
  gap_turned a b p q = le_antisymm
      (omega (arith, gap-least a b p q (joint b a q p), gap_joint b a q p))
      (omega (arith, gap-least b a q p (joint a b p q), gap_joint a b p q))

  -- a state at distance 0 from a set is a member
  pub in_offset : (s : ℤ) (a : K.Set) → K.Proper a → offset K s a ≡ 0 → K.In s a
  unfolding offset
  in_offset s a p e = subst (λ (x : ℤ). K.In x a) (sym (laws.metric.same s (K.nearest s a) e)) (laws.nearest_in s a p)

  -- two sets have a state in common
  pub record Common (a b : K.Set) : Type 0 where
    pub state : ℤ
    pub in_first : K.In state a
    pub in_second : K.In state b

  -- two sets have a state in common exactly if nothing lies between them
  pub common-gap : (a b : K.Set) → K.Proper a → K.Proper b → Common a b ↔ (K.gap a b ≡ 0)
  common-gap a b p q = (
    λ c. omega (
      arith,
      gap-least a b p q c.state,
      offset_in_lem c.state a p c.in_first,
      offset_in_lem c.state b q c.in_second,
    ),
    λ e. record {
      state = closest a b p q;
      in_first = closest_in a b p q;
      in_second = in_offset (closest a b p q) b q (omega (arith, gap_closest a b p q));
    },
  )
