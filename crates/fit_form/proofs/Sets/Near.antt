-- The members of a set that are nearest to another one: from the member nearest to its low end to the member nearest to its high end.
use Rattle.std.proofs.Common.{◌≡◌, ℕ, ◌+◌, ◌-◌, ◌≤◌, min, max, ◌↔◌, [], ◌∷◌, ℤ, refl, ap₂, arith}
use lib.Signed.{≤ℤ_refl}
use Rattle.difference_form.proofs.Laws.Codes.{≤ℤ-antisym}
use Rattle.difference_form.proofs.Laws.Points.{le_point, everywhere}
use Rattle.clades.specs.Kinds.{among}
use Rattle.clades.proofs.Sets.Among.{among-nearest, among_proper}
use Rattle.clades.proofs.Sets.Distance.{offset_in_lem}
use Rattle.fit_form.specs.Sets.{Nonempty, In, nearest_member, ordered}
use Rattle.matrix_form.specs.Spans.{span}
use Rattle.matrix_form.specs.declared.spans.Span.{Span}
use Rattle.fit_form.proofs.Cases.{either}
use Rattle.fit_form.proofs.Sets.Distance.{offset, offset-points, nearest_member-points, nonempty_points, in_points, points_in}
use Rattle.fit_form.proofs.Sets.Distance.{nearest_member_in}
use Rattle.fit_form.proofs.Sets.IsKind.{ordered_laws}

-- two sets with the same members have the same ends
same_ends : (a b : Span) → Nonempty a → Nonempty b → ((s : ℤ) → In s a ↔ In s b) → a ≡ b
same_ends a b p q same =
    let low = (same a.low).0 (record { from_low = ≤ℤ_refl a.low; to_high = p.ordered }) in
    let high = (same a.high).0 (record { from_low = p.ordered; to_high = ≤ℤ_refl a.high }) in
    let low' = (same b.low).1 (record { from_low = ≤ℤ_refl b.low; to_high = q.ordered }) in
    let high' = (same b.high).1 (record { from_low = q.ordered; to_high = ≤ℤ_refl b.high }) in
    ap₂ span (≤ℤ-antisym low'.from_low low.from_low) (≤ℤ-antisym high.to_high high'.to_high)

-- from the member of l to h nearest to l' to the one nearest to h', no state is farther from l' to h' than another member
near_least : (s x l h l' h' : ℕ) → l ≤ h → l' ≤ h' → max l (min l' h) ≤ s → s ≤ max l (min h' h) → l ≤ x → x ≤ h
    → (l' - s) + (s - h') ≤ (l' - x) + (x - h')
near_least s x l h l' h' p q i j k m = either h' l
    (λ c. let e : s ≡ l = omega arith in omega arith)
    (λ c. either h l' (λ d. let e : s ≡ h = omega arith in omega arith) (λ d.
    let from : l' ≤ s = omega arith in
    let to : s ≤ h' = omega arith in
    omega arith))

-- a member of l to h that is no farther from l' to h' than these two stands between them
near_all : (s l h l' h' y z : ℕ) → l ≤ h → l' ≤ h' → y ≡ max l (min l' h) → z ≡ max l (min h' h) → l ≤ s → s ≤ h
    → (l' - s) + (s - h') ≤ (l' - y) + (y - h') → (l' - s) + (s - h') ≤ (l' - z) + (z - h') → (y ≤ s) × (s ≤ z)
near_all s l h l' h' y z p q e f i j k m = either h' l
    (λ c.
    let first : y ≡ l = omega arith in
    let second : z ≡ l = omega arith in
    (omega arith, omega arith))
    (λ c. either h l'
    (λ d.
    let first : y ≡ h = omega arith in
    let second : z ≡ h = omega arith in
    (omega arith, omega arith))
    (λ d.
    let inside : (l' ≤ y) × (y ≤ h') = (omega arith, omega arith) in
    let from : l' ≤ s = omega (arith, inside.0, inside.1) in
    let to : s ≤ h' = omega (arith, inside.0, inside.1) in
    (omega arith, omega arith)))

-- from the member of a set nearest to the low end of another one to the member nearest to its high end
abbrev near : Span → Span → Span
near a b = span (nearest_member b.low a) (nearest_member b.high a)

-- these two are in order
near_nonempty : (a b : Span) → Nonempty b → Nonempty (near a b)
near_nonempty a b = everywhere (λ z. Nonempty (span (z 2) (z 3)) → Nonempty (near (span (z 0) (z 1)) (span (z 2) (z 3))))
    (λ K n q.
    let q' = nonempty_points K (n 2) (n 3) q in
    rw (nearest_member-points K (n 2) (n 0) (n 1), nearest_member-points K (n 3) (n 0) (n 1))
    (record { ordered = le_point K _ _ (omega arith) }))
    (a.low ∷ a.high ∷ b.low ∷ b.high ∷ [])

-- a state between them is a member of the first set
near_in : (s : ℤ) (a b : Span) → Nonempty a → In s (near a b) → In s a
near_in s a b = everywhere
    (λ z. Nonempty (span (z 1) (z 2)) → In (z 0) (near (span (z 1) (z 2)) (span (z 3) (z 4))) → In (z 0) (span (z 1) (z 2)))
    (λ K n p i.
    let p' = nonempty_points K (n 1) (n 2) p in
    let i' = rw (nearest_member-points K (n 3) (n 1) (n 2), nearest_member-points K (n 4) (n 1) (n 2)) at i in
    let j = points_in K (n 0) _ _ i' in
    in_points K (omega arith) (omega arith))
    (s ∷ a.low ∷ a.high ∷ b.low ∷ b.high ∷ [])

-- and no farther from the other set than any member
near_offset : (s x : ℤ) (a b : Span) → Nonempty a → Nonempty b → In s (near a b) → In x a → offset s b ≤ offset x b
near_offset s x a b = everywhere
    (λ z. Nonempty (span (z 2) (z 3)) → Nonempty (span (z 4) (z 5)) → In (z 0) (near (span (z 2) (z 3)) (span (z 4) (z 5)))
    → In (z 1) (span (z 2) (z 3)) → offset (z 0) (span (z 4) (z 5)) ≤ offset (z 1) (span (z 4) (z 5)))
    (λ K n p q i j.
    let p' = nonempty_points K (n 2) (n 3) p in
    let q' = nonempty_points K (n 4) (n 5) q in
    let i' = rw (nearest_member-points K (n 4) (n 2) (n 3), nearest_member-points K (n 5) (n 2) (n 3)) at i in
    let k = points_in K (n 0) _ _ i' in
    let m = points_in K (n 1) (n 2) (n 3) j in
    rw (offset-points K (n 0) (n 4) (n 5) q', offset-points K (n 1) (n 4) (n 5) q')
    (near_least (n 0) (n 1) (n 2) (n 3) (n 4) (n 5) p' q' k.0 k.1 m.0 m.1))
    (s ∷ x ∷ a.low ∷ a.high ∷ b.low ∷ b.high ∷ [])

-- a member that is no farther from the other set than these two stands between them
offset_near : (s : ℤ) (a b : Span) → Nonempty a → Nonempty b → In s a → offset s b ≤ offset (nearest_member b.low a) b
    → offset s b ≤ offset (nearest_member b.high a) b → In s (near a b)
offset_near s a b = everywhere
    (λ z. Nonempty (span (z 1) (z 2)) → Nonempty (span (z 3) (z 4)) → In (z 0) (span (z 1) (z 2))
    → offset (z 0) (span (z 3) (z 4)) ≤ offset (nearest_member (z 3) (span (z 1) (z 2))) (span (z 3) (z 4))
    → offset (z 0) (span (z 3) (z 4)) ≤ offset (nearest_member (z 4) (span (z 1) (z 2))) (span (z 3) (z 4))
    → In (z 0) (near (span (z 1) (z 2)) (span (z 3) (z 4))))
    (λ K n p q i.
    let p' = nonempty_points K (n 1) (n 2) p in
    let q' = nonempty_points K (n 3) (n 4) q in
    let j = points_in K (n 0) (n 1) (n 2) i in
    let y = max (n 1) (min (n 3) (n 2)) in
    let z = max (n 1) (min (n 4) (n 2)) in
    rw (
      nearest_member-points K (n 3) (n 1) (n 2),
      nearest_member-points K (n 4) (n 1) (n 2),
      offset-points K (n 0) (n 3) (n 4) q',
      offset-points K y (n 3) (n 4) q',
      offset-points K z (n 3) (n 4) q',
    )
    (λ k m.
    let r = near_all (n 0) (n 1) (n 2) (n 3) (n 4) y z p' q' refl refl j.0 j.1 k m in
    in_points K r.0 r.1))
    (s ∷ a.low ∷ a.high ∷ b.low ∷ b.high ∷ [])

-- the members of a set that are nearest to another one are those between them
pub among-near : (a b : Span) → Nonempty a → Nonempty b → among ordered a b ≡ span (nearest_member b.low a) (nearest_member b.high a)
among-near a b p q =
    same_ends (among ordered a b) (near a b) (among_proper ordered ordered_laws a b p q) (near_nonempty a b q) λ s.
    let least = among-nearest ordered ordered_laws a b p q s in (
      λ i.
          let m = least.0 i in
          offset_near s a b p q m.0 (m.1 _ (nearest_member_in b.low a p)) (m.1 _ (nearest_member_in b.high a p)),
      λ i. least.1 (near_in s a b p i, λ x j. near_offset s x a b p q i j),
    )

-- of a set itself they are all its members
pub among_self : (a : Span) → Nonempty a → among ordered a a ≡ a
among_self a p = same_ends (among ordered a a) a (among_proper ordered ordered_laws a a p p) p λ s.
    let least = among-nearest ordered ordered_laws a a p p s in (
      λ i. (least.0 i).0,
      λ i. least.1 (i, λ x j. omega (arith, offset_in_lem ordered ordered_laws s a p i)),
    )
