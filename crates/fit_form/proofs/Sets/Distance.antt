-- Laws of state sets: how far a state lies from a set, from two sets and from their join.
use Rattle.std.proofs.Common.{◌≡◌, ℕ, ◌+◌, ◌-◌, ◌*◌, ◌≤◌, min, max, [], ◌∷◌, ℤ, sym, subst, arith}
use lib.Signed.{≤ℤ_refl}
use Rattle.difference_form.specs.Rows.{apart}
use Rattle.difference_form.proofs.Laws.Points.{point, apart-point, lower-point, higher-point, le_point, point_le, everywhere}
use Rattle.clades.specs.Kinds.{offset as offset_in}
use Rattle.fit_form.specs.Sets.{Nonempty, In, join, gap, nearest_member, ordered}
use Rattle.matrix_form.specs.Spans.{span, only}
use Rattle.matrix_form.specs.declared.spans.Span.{Span}
use Rattle.fit_form.proofs.Sets.Ends.{either_side, join_apart, in_join}

-- how far a state lies from a set: its difference from the nearest member
abbrev pub offset : ℤ → Span → ℕ
offset s a = offset_in ordered s a

module _ (K : ℕ) where
  -- the set between two points
  abbrev pub points : ℕ → ℕ → Span
  points l h = span (point K l) (point K h)

  -- how far a point lies from such a set
  pub offset-points : (s l h : ℕ) → l ≤ h → offset (point K s) (points l h) ≡ (l - s) + (s - h)
  unfolding offset_in nearest_member
  offset-points s l h p = simp (lower-point, higher-point, apart-point) (omega arith)

  -- how far two such sets lie from each other
  gap-points : (l h l' h' : ℕ) → gap (points l h) (points l' h') ≡ max l l' - min h h'
  unfolding gap
  gap-points l h l' h' = simp (lower-point, higher-point, apart-point) (omega arith)

  -- the join of two such sets
  pub join-points : (l h l' h' : ℕ) → join (points l h) (points l' h') ≡ points (min (max l l') (min h h')) (max (max l l') (min h h'))
  unfolding join
  join-points l h l' h' = simp (lower-point, higher-point)

  -- the member of such a set nearest to a point
  pub nearest_member-points : (s l h : ℕ) → nearest_member (point K s) (points l h) ≡ point K (max l (min s h))
  unfolding nearest_member
  nearest_member-points s l h = simp (lower-point, higher-point)

  -- such a set has a member only if its ends are in order
  pub nonempty_points : (l h : ℕ) → Nonempty (points l h) → l ≤ h
  nonempty_points l h p = point_le K l h p.ordered

  -- a point between the ends of such a set is a member
  pub in_points : {s l h : ℕ} → l ≤ s → s ≤ h → In (point K s) (points l h)
  in_points {s} {l} {h} p q = record { from_low = le_point K l s p; to_high = le_point K s h q }

  -- a point that is a member stands between the ends of such a set
  pub points_in : (s l h : ℕ) → In (point K s) (points l h) → (l ≤ s) × (s ≤ h)
  points_in s l h i = (point_le K l s i.from_low, point_le K s h i.to_high)

-- the join of two sets has a member
pub join_nonempty : (a b : Span) → Nonempty (join a b)
join_nonempty a b = everywhere (λ z. Nonempty (join (span (z 0) (z 1)) (span (z 2) (z 3))))
    (λ K n. subst Nonempty (sym (join-points K (n 0) (n 1) (n 2) (n 3))) (record { ordered = le_point K _ _ (omega arith) }))
    (a.low ∷ a.high ∷ b.low ∷ b.high ∷ [])

-- a taxon's set has a member
pub only_nonempty : (s : ℤ) → Nonempty (only s)
unfolding only
only_nonempty s = record { ordered = ≤ℤ_refl s }

-- the nearest member is a member
pub nearest_member_in : (s : ℤ) (a : Span) → Nonempty a → In (nearest_member s a) a
nearest_member_in s a = everywhere (λ z. Nonempty (span (z 1) (z 2)) → In (nearest_member (z 0) (span (z 1) (z 2))) (span (z 1) (z 2)))
    (λ K n p.
    let q = nonempty_points K (n 1) (n 2) p in
    rw (nearest_member-points K (n 0) (n 1) (n 2)) (in_points K (omega arith) (omega arith)))
    (s ∷ a.low ∷ a.high ∷ [])

-- from the two ends of a set it is twice as far as from the set, and the set's width
pub offset-ends : (s : ℤ) (a : Span) → Nonempty a → apart s a.low + apart s a.high ≡ 2 * offset s a + apart a.low a.high
offset-ends s a = everywhere
    (λ z. Nonempty (span (z 1) (z 2)) → apart (z 0) (z 1) + apart (z 0) (z 2) ≡ 2 * offset (z 0) (span (z 1) (z 2)) + apart (z 1) (z 2))
    (λ K n p.
    let q = nonempty_points K (n 1) (n 2) p in
    rw (apart-point K (n 0) (n 1), apart-point K (n 0) (n 2), apart-point K (n 1) (n 2), offset-points K (n 0) (n 1) (n 2) q)
    (either_side (n 0) (n 1) (n 2) q))
    (s ∷ a.low ∷ a.high ∷ [])

-- to two sets it is at least as far as to their join and from one set to the other
pub offset-join : (s : ℤ) (a b : Span) → Nonempty a → Nonempty b → gap a b + offset s (join a b) ≤ offset s a + offset s b
offset-join s a b = everywhere
    (λ z. Nonempty (span (z 1) (z 2)) → Nonempty (span (z 3) (z 4)) →
    gap (span (z 1) (z 2)) (span (z 3) (z 4)) + offset (z 0) (join (span (z 1) (z 2)) (span (z 3) (z 4)))
    ≤ offset (z 0) (span (z 1) (z 2)) + offset (z 0) (span (z 3) (z 4)))
    (λ K n p q.
    let p' = nonempty_points K (n 1) (n 2) p in
    let q' = nonempty_points K (n 3) (n 4) q in
    rw (
      join-points K (n 1) (n 2) (n 3) (n 4),
      gap-points K (n 1) (n 2) (n 3) (n 4),
      offset-points K (n 0) (n 1) (n 2) p',
      offset-points K (n 0) (n 3) (n 4) q',
      offset-points K (n 0) (min (max (n 1) (n 3)) (min (n 2) (n 4)))
          (max (max (n 1) (n 3)) (min (n 2) (n 4))) (omega arith),
    )
    (join_apart (n 0) (n 1) (n 2) (n 3) (n 4)))
    (s ∷ a.low ∷ a.high ∷ b.low ∷ b.high ∷ [])

-- a member of the join is together as far from two sets as one set is from the other
pub offset_in_join : (s : ℤ) (a b : Span) → Nonempty a → Nonempty b → In s (join a b) → offset s a + offset s b ≡ gap a b
offset_in_join s a b = everywhere
    (λ z. Nonempty (span (z 1) (z 2)) → Nonempty (span (z 3) (z 4)) → In (z 0) (join (span (z 1) (z 2)) (span (z 3) (z 4))) →
    offset (z 0) (span (z 1) (z 2)) + offset (z 0) (span (z 3) (z 4)) ≡ gap (span (z 1) (z 2)) (span (z 3) (z 4)))
    (λ K n p q r.
    let p' = nonempty_points K (n 1) (n 2) p in
    let q' = nonempty_points K (n 3) (n 4) q in
    let r' = rw (join-points K (n 1) (n 2) (n 3) (n 4)) at r in
    let i = points_in K (n 0) _ _ r' in
    rw (gap-points K (n 1) (n 2) (n 3) (n 4), offset-points K (n 0) (n 1) (n 2) p', offset-points K (n 0) (n 3) (n 4) q')
    (in_join (n 0) (n 1) (n 2) (n 3) (n 4) p' q' i.0 i.1))
    (s ∷ a.low ∷ a.high ∷ b.low ∷ b.high ∷ [])
