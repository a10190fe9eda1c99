-- Document 01's words about the join of two sets: it is their intersection, or, if that is empty, the smallest interval that touches both.
use Rattle.std.proofs.Common.{◌≡◌, min, max, ◌↔◌, [], ◌∷◌, ℤ, arith}
use native.Mathlib.Nat.{max_comm, min_comm}
use Rattle.difference_form.proofs.Laws.Points.{point, everywhere}
use Rattle.fit_form.specs.Sets.{Nonempty, In, join, nearest_member}
use Rattle.matrix_form.specs.declared.spans.Span.{Span}
use Rattle.fit_form.proofs.Cases.{either}
use Rattle.matrix_form.specs.Spans.{span}
use Rattle.fit_form.proofs.Sets.Distance.{join-points, nearest_member-points, nonempty_points, in_points, points_in}
use Rattle.fit_form.proofs.Sets.Distance.{nearest_member_in}

-- two sets touch if they have a state in common
pub record Touches (a b : Span) : Type 0 where
  pub state : ℤ
  pub in_first : In state a
  pub in_second : In state b

-- the intersection of two sets is empty
abbrev pub Disjoint : Span → Span → Type 0
Disjoint a b = Touches a b → ⊥

-- two sets that touch join to their intersection: a state is in the join exactly if it is in both
pub join_intersection : (a b : Span) → Touches a b → (s : ℤ) → In s (join a b) ↔ (In s a × In s b)
join_intersection a b t s = everywhere
    (λ z. In (z 1) (span (z 2) (z 3)) → In (z 1) (span (z 4) (z 5)) →
    In (z 0) (join (span (z 2) (z 3)) (span (z 4) (z 5))) ↔ (In (z 0) (span (z 2) (z 3)) × In (z 0) (span (z 4) (z 5))))
    (λ K n p q.
    let p' = points_in K (n 1) (n 2) (n 3) p in
    let q' = points_in K (n 1) (n 4) (n 5) q in
    rw (join-points K (n 2) (n 3) (n 4) (n 5)) (
      λ i.
          let i' = points_in K (n 0) _ _ i in
          (in_points K (omega arith) (omega arith), in_points K (omega arith) (omega arith)),
      λ both.
          let a' = points_in K (n 0) (n 2) (n 3) both.0 in
          let b' = points_in K (n 0) (n 4) (n 5) both.1 in
          in_points K (omega arith) (omega arith),
    ))
    (s ∷ t.state ∷ a.low ∷ a.high ∷ b.low ∷ b.high ∷ []) t.in_first t.in_second

-- two sets join to the same set in either order
pub join_comm : (a b : Span) → join a b ≡ join b a
join_comm a b = everywhere (λ z. join (span (z 0) (z 1)) (span (z 2) (z 3)) ≡ join (span (z 2) (z 3)) (span (z 0) (z 1)))
    (λ K n.
    rw (join-points K (n 0) (n 1) (n 2) (n 3), join-points K (n 2) (n 3) (n 0) (n 1), max_comm (n 0) (n 2), min_comm (n 1) (n 3)))
    (a.low ∷ a.high ∷ b.low ∷ b.high ∷ [])

-- the member of a set nearest to the other set's low end is in their join
nearest_member_in_join : (a b : Span) → Nonempty a → Nonempty b → In (nearest_member b.low a) (join a b)
nearest_member_in_join a b = everywhere
    (λ z. Nonempty (span (z 0) (z 1)) → Nonempty (span (z 2) (z 3)) →
    In (nearest_member (z 2) (span (z 0) (z 1))) (join (span (z 0) (z 1)) (span (z 2) (z 3))))
    (λ K n p q.
    let p' = nonempty_points K (n 0) (n 1) p in
    let q' = nonempty_points K (n 2) (n 3) q in
    rw (nearest_member-points K (n 2) (n 0) (n 1), join-points K (n 0) (n 1) (n 2) (n 3)) (in_points K (omega arith) (omega arith)))
    (a.low ∷ a.high ∷ b.low ∷ b.high ∷ [])

-- the join of two sets touches the first
join_touches_first : (a b : Span) → Nonempty a → Nonempty b → Touches (join a b) a
join_touches_first a b p q =
    record { state = nearest_member b.low a; in_first = nearest_member_in_join a b p q; in_second = nearest_member_in b.low a p }

-- the join of two sets touches both
pub join_touches : (a b : Span) → Nonempty a → Nonempty b → Touches (join a b) a × Touches (join a b) b
join_touches a b p q = (join_touches_first a b p q, rw (join_comm a b) (join_touches_first b a q p))

-- the join of two sets that do not touch is the smallest interval that touches both: every such interval contains it
pub join_smallest : (a b : Span) → Disjoint a b → (c : Span) → Touches c a → Touches c b → (s : ℤ) → In s (join a b) → In s c
join_smallest a b d c t u s = everywhere
    (λ z. Disjoint (span (z 1) (z 2)) (span (z 3) (z 4)) →
    In (z 7) (span (z 5) (z 6)) → In (z 7) (span (z 1) (z 2)) → In (z 8) (span (z 5) (z 6)) → In (z 8) (span (z 3) (z 4)) →
    In (z 0) (join (span (z 1) (z 2)) (span (z 3) (z 4))) → In (z 0) (span (z 5) (z 6)))
    (λ K n disjoint xc xa yc yb i.
    let xc' = points_in K (n 7) (n 5) (n 6) xc in
    let xa' = points_in K (n 7) (n 1) (n 2) xa in
    let yc' = points_in K (n 8) (n 5) (n 6) yc in
    let yb' = points_in K (n 8) (n 3) (n 4) yb in
    let i' = points_in K (n 0) _ _ (rw (join-points K (n 1) (n 2) (n 3) (n 4)) at i) in
    either (max (n 1) (n 3)) (min (n 2) (n 4))
    (λ meet. absurd (disjoint (record {
      state = point K (max (n 1) (n 3));
      in_first = in_points K (omega arith) (omega arith);
      in_second = in_points K (omega arith) (omega arith);
    })))
    (λ none. in_points K (omega arith) (omega arith)))
    (s ∷ a.low ∷ a.high ∷ b.low ∷ b.high ∷ c.low ∷ c.high ∷ t.state ∷ u.state ∷ [])
    d t.in_first t.in_second u.in_first u.in_second
