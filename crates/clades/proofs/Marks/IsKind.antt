-- Unordered characters satisfy the laws of a kind, over all whole numbers as states: those outside 0 to 31 have no mark in any set.
use mathlib.Core.Path.{◌≡◌, refl, ◌∙◌, ap}
use mathlib.Core.Logic.{◌↔◌, ◌≢◌, by_cases}
use mathlib.Core.Bool.{Bool, true, false, cond}
use Prim.Native.Nat.{ℕ, ◌+◌, ◌-◌, ◌^◌, ◌≤◌, ◌<◌, min, max}
use native.Mathlib.Omega.{arith}
use native.Mathlib.Decide.{dec_le}
use lib.Dec.{eqb}
use lib.IntN.{ℤ}
use lib.Bits.{bit_and, bit_or, and_le_l, and_le_r, or_lt, or_add_and}
use borrow.Author.Tests.{eqb-true, eqb-false}
use Rattle.clades.specs.Kinds.{offset}
use Rattle.clades.specs.Marks.{mark, ProperMarks, lowest_state, or_else, join_marks, gap_marks, middle_marks, unordered}
use Rattle.clades.proofs.Sets.Laws.{Laws, sum_of}
use Rattle.clades.proofs.Marks.Bits.{mark-most, mark_empty, mark-and, mark_or, lowest_state_in, lowest_state-least}
use Rattle.clades.proofs.Marks.Distance.{change_metric, nearest_state_in, offset-marks, offset_nearest_least}

-- what holds of one set if it is not empty, and of another if it is, holds of the one or else the other
pub or_else_cases : (P : ℕ → Type 0) (a b : ℕ) → (1 ≤ a → P a) → (a ≡ 0 → P b) → P (or_else a b)
unfolding or_else
or_else_cases P a b some none = go (eqb a 0) refl
  where
    go : (t : Bool) → eqb a 0 ≡ t → P (cond t b a)
    go true e = none (eqb-true a 0 e)
    go false e = let h : a ≢ 0 = eqb-false a 0 e in some (omega (arith, h))

-- what holds of 0 if the intersection of two sets is not empty, and of 1 if it is, holds of their gap
gap_cases : (P : ℕ → Type 0) (a b : ℕ) → (1 ≤ bit_and a b → P 0) → (bit_and a b ≡ 0 → P 1) → P (gap_marks a b)
unfolding gap_marks
gap_cases P a b some none = go (eqb (bit_and a b) 0) refl
  where
    go : (t : Bool) → eqb (bit_and a b) 0 ≡ t → P (cond t 1 0)
    go true e = none (eqb-true (bit_and a b) 0 e)
    go false e = let h : bit_and a b ≢ 0 = eqb-false (bit_and a b) 0 e in some (omega (arith, h))

-- in an empty set no state has a mark
no_mark_lem : (s : ℤ) (a : ℕ) → a ≡ 0 → mark s a ≡ 0
no_mark_lem s a e = ap (mark s) e ∙ mark_empty s

-- an intersection that is not empty can be the set of a node
and_proper : (a b : ℕ) → ProperMarks a → 1 ≤ bit_and a b → ProperMarks (bit_and a b)
and_proper a b p h = record { some = h; fits = omega (arith, and_le_l a b, p.fits) }

-- a union can be the set of a node
or_proper : (a b : ℕ) → ProperMarks a → b < 2 ^ 32 → ProperMarks (bit_or a b)
or_proper a b p h = record { some = omega (arith, or_add_and a b, and_le_r a b, p.some); fits = or_lt 32 a b p.fits h }

module _ (a b : ℕ) (p : ProperMarks a) (q : ProperMarks b) where
  -- the join of two sets can be the set of a node
  join_proper : ProperMarks (join_marks a b)
  unfolding join_marks
  join_proper = or_else_cases ProperMarks (bit_and a b) (bit_or a b) (and_proper a b p) (λ e. or_proper a b p q.fits)

  -- what holds of no gap and the intersection if this is not empty, and of gap 1 and the union if it is, holds of the gap and the join
  join_cases : (P : ℕ → ℕ → Type 0) → (1 ≤ bit_and a b → P 0 (bit_and a b)) → (bit_and a b ≡ 0 → P 1 (bit_or a b)) →
      P (gap_marks a b) (join_marks a b)
  unfolding join_marks
  join_cases P some none =
      gap_cases (λ g. P g (or_else (bit_and a b) (bit_or a b))) a b
      (λ h. or_else_cases (P 0) (bit_and a b) (bit_or a b) some (λ e. absurd (omega arith)))
      (λ e. or_else_cases (P 1) (bit_and a b) (bit_or a b) (λ h. absurd (omega arith)) none)

  -- from a state to two sets it is together at least as far as to their join and from one set to the other
  join_apart : (s : ℤ) → gap_marks a b + offset unordered s (join_marks a b) ≤ offset unordered s a + offset unordered s b
  join_apart s =
      rw (offset-marks s (join_marks a b) join_proper, offset-marks s a p, offset-marks s b q)
      (join_cases (λ g j. g + (1 - mark s j) ≤ (1 - mark s a) + (1 - mark s b))
      (λ h. omega (arith, mark-and s a b))
      (λ e. omega (arith, mark-and s a b, mark_or s a b, no_mark_lem s (bit_and a b) e, mark-most s a, mark-most s b)))

  -- from a member of the join to the two sets it is together no farther than from one set to the other
  join_in : (s : ℤ) → mark s (join_marks a b) ≡ 1 → offset unordered s a + offset unordered s b ≤ gap_marks a b
  join_in s =
      rw (offset-marks s a p, offset-marks s b q)
      (join_cases (λ g j. mark s j ≡ 1 → (1 - mark s a) + (1 - mark s b) ≤ g)
      (λ h i. omega (arith, mark-and s a b))
      (λ e i. omega (arith, mark_or s a b)))

module _ (a b c : ℕ) (p : ProperMarks a) (q : ProperMarks b) (r : ProperMarks c) where
  -- the states that are in all three sets
  abbrev in_three : ℕ
  in_three = bit_and (bit_and a b) c

  -- the states that are in two sets at least
  abbrev in_two : ℕ
  in_two = bit_or (bit_or (bit_and a b) (bit_and a c)) (bit_and b c)

  -- the states that are in one set at least
  abbrev in_one : ℕ
  in_one = bit_or (bit_or a b) c

  -- in how many of the three sets a state is
  abbrev count : ℤ → ℕ
  count s = mark s a + mark s b + mark s c

  -- a state is in `in_three` exactly if it is in three of the sets
  three_count : (s : ℤ) → (mark s in_three ≡ 1 → 3 ≤ count s) × (3 ≤ count s → mark s in_three ≡ 1)
  three_count s =
      let e : mark s in_three ≡ min (min (mark s a) (mark s b)) (mark s c) = mark-and s (bit_and a b) c ∙ rw (mark-and s a b) in
      let x = mark-most s a in
      let y = mark-most s b in
      let z = mark-most s c in
      (λ i. omega arith, λ h. omega arith)

  -- a state is in `in_two` exactly if it is in two of the sets or more
  two_count : (s : ℤ) → (mark s in_two ≡ 1 → 2 ≤ count s) × (2 ≤ count s → mark s in_two ≡ 1)
  two_count s =
      let e : mark s in_two ≡ max (max (min (mark s a) (mark s b)) (min (mark s a) (mark s c))) (min (mark s b) (mark s c)) =
      mark_or s (bit_or (bit_and a b) (bit_and a c)) (bit_and b c)
      ∙ rw (mark_or s (bit_and a b) (bit_and a c), mark-and s a b, mark-and s a c, mark-and s b c) in
      let x = mark-most s a in
      let y = mark-most s b in
      let z = mark-most s c in
      (λ i. omega arith, λ h. omega arith)

  -- a state is in `in_one` exactly if it is in one of the sets or more
  one-count : (s : ℤ) → (mark s in_one ≡ 1 → 1 ≤ count s) × (1 ≤ count s → mark s in_one ≡ 1)
  one-count s =
      let e : mark s in_one ≡ max (max (mark s a) (mark s b)) (mark s c) = mark_or s (bit_or a b) c ∙ rw (mark_or s a b) in
      let x = mark-most s a in
      let y = mark-most s b in
      let z = mark-most s c in
      (λ i. omega arith, λ h. omega arith)

  -- the distances from the three sets add up to 3 less the number of sets that the state is in
  sum_count : (s : ℤ) → sum_of unordered a b c s + count s ≡ 3
  sum_count s =
      omega (arith, offset-marks s a p, offset-marks s b q, offset-marks s c r, mark-most s a, mark-most s b, mark-most s c)

  -- if set j is not empty and has just the states that are in k sets or more, and no state is in more than k, then its states are those
  -- whose distances from the three sets add up to the least
  level : (k j : ℕ) → ProperMarks j → ((s : ℤ) → (mark s j ≡ 1 → k ≤ count s) × (k ≤ count s → mark s j ≡ 1)) →
      ((x : ℤ) → count x ≤ k) → (s : ℤ) → (mark s j ≡ 1) ↔ ((x : ℤ) → sum_of unordered a b c s ≤ sum_of unordered a b c x)
  level k j proper exact most s = (
    λ i x. omega (arith, sum_count s, sum_count x, (exact s).0 i, most x),
    λ h.
        let w = lowest_state j in
        (exact s).1 (omega (arith, h w, sum_count s, sum_count w, (exact w).0 (lowest_state_in j proper))),
  )

  -- if there are no states that are in k sets or more, every state is in fewer than k
  below_level : (k j : ℕ) → j ≡ 0 → ((s : ℤ) → (mark s j ≡ 1 → k ≤ count s) × (k ≤ count s → mark s j ≡ 1)) → (x : ℤ) → count x < k
  below_level k j e exact x = by_cases (dec_le k (count x)) (λ h. absurd (omega (arith, (exact x).1 h, no_mark_lem x j e))) (λ h. omega arith)

  -- the middle of three sets has the states whose distances from the three add up to the least
  middle_least : (s : ℤ) → (mark s (middle_marks a b c) ≡ 1) ↔ ((x : ℤ) → sum_of unordered a b c s ≤ sum_of unordered a b c x)
  unfolding middle_marks
  middle_least s = or_else_cases Exact in_three (or_else in_two in_one)
      (λ h. level 3 in_three (fits_level in_three h (and_most (bit_and a b) c (and_most a b p.fits))) three_count
      (λ x. omega (arith, mark-most x a, mark-most x b, mark-most x c)) s)
      (λ none. or_else_cases Exact in_two in_one
      (λ h. level 2 in_two (fits_level in_two h (or_lt 32 (bit_or (bit_and a b) (bit_and a c)) (bit_and b c)
      (or_lt 32 (bit_and a b) (bit_and a c) (and_most a b p.fits) (and_most a c p.fits)) (and_most b c q.fits))) two_count
      (λ x. omega (arith, below_level 3 in_three none three_count x)) s)
      (λ fewer. level 1 in_one (or_proper (bit_or a b) c (or_proper a b p q.fits) r.fits) one-count
      (λ x. omega (arith, below_level 2 in_two fewer two_count x)) s))
    where
      Exact : ℕ → Type 0
      Exact j = (mark s j ≡ 1) ↔ ((x : ℤ) → sum_of unordered a b c s ≤ sum_of unordered a b c x)

      and_most : (x y : ℕ) → x < 2 ^ 32 → bit_and x y < 2 ^ 32
      and_most x y h = omega (arith, and_le_l x y)

      fits_level : (j : ℕ) → 1 ≤ j → j < 2 ^ 32 → ProperMarks j
      fits_level j h k = record { some = h; fits = k }

  -- it can be the set of a node
  middle_proper : ProperMarks (middle_marks a b c)
  unfolding middle_marks
  middle_proper = or_else_cases ProperMarks in_three (or_else in_two in_one)
      (λ h. record { some = h; fits = omega (arith, and_le_l (bit_and a b) c, and_le_l a b, p.fits) })
      (λ none. or_else_cases ProperMarks in_two in_one
      (λ h. record { some = h; fits = two_fits })
      (λ fewer. or_proper (bit_or a b) c (or_proper a b p q.fits) r.fits))
    where
      ab : bit_and a b < 2 ^ 32
      ab = omega (arith, and_le_l a b, p.fits)

      ac : bit_and a c < 2 ^ 32
      ac = omega (arith, and_le_l a c, p.fits)

      bc : bit_and b c < 2 ^ 32
      bc = omega (arith, and_le_l b c, q.fits)

      two_fits : in_two < 2 ^ 32
      two_fits = or_lt 32 (bit_or (bit_and a b) (bit_and a c)) (bit_and b c) (or_lt 32 (bit_and a b) (bit_and a c) ab ac) bc

-- the laws of the kind
pub unordered_laws : Laws unordered
unordered_laws = record {
  metric = change_metric;
  nearest_in = nearest_state_in;
  nearest_least = offset_nearest_least;
  join_proper = join_proper;
  join_apart = join_apart;
  join_in = join_in;
  middle_least = middle_least;
  middle_proper = middle_proper;
  lowest_in = lowest_state_in;
  lowest_least = λ a p s i. lowest_state-least a s i;
}
