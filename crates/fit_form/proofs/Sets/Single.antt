-- The nearest member of a set, and the set of a single state.
use Rattle.std.proofs.Common.{◌≡◌, ◌≤◌, min, max, [], ◌∷◌, ℤ, sym, ap, ◌∙◌, subst, ap₂, arith}
use lib.Signed.{≤ℤ_refl}
use Rattle.difference_form.specs.Rows.{apart}
use Rattle.difference_form.proofs.Laws.Codes.{≤ℤ-antisym}
use Rattle.difference_form.proofs.Laws.Points.{point, apart-point, everywhere}
use Rattle.clades.specs.Kinds.{offset as offset_in}
use Rattle.fit_form.specs.Sets.{Nonempty, In, nearest_member}
use Rattle.matrix_form.specs.Spans.{only}
use Rattle.matrix_form.specs.declared.spans.Span.{Span}
use Rattle.matrix_form.specs.Spans.{span}
use Rattle.fit_form.proofs.Sets.Distance.{offset, nearest_member-points, points_in}

-- a member of a set is no nearer than the nearest one
pub nearest_least : (s : ℤ) (a : Span) → Nonempty a → (x : ℤ) → In x a → offset s a ≤ apart s x
unfolding offset_in
nearest_least s a p x i = everywhere
    (λ z. In (z 1) (span (z 2) (z 3)) → apart (z 0) (nearest_member (z 0) (span (z 2) (z 3))) ≤ apart (z 0) (z 1))
    (λ K n i.
    let j = points_in K (n 1) (n 2) (n 3) i in
    rw (nearest_member-points K (n 0) (n 2) (n 3), apart-point K (n 0) (n 1), apart-point K (n 0) (max (n 2) (min (n 0) (n 3))))
    (omega arith))
    (s ∷ x ∷ a.low ∷ a.high ∷ []) i

-- the member of a single state's set nearest to any state is that state
pub nearest-only : (s c : ℤ) → nearest_member s (only c) ≡ c
unfolding only
nearest-only s c = everywhere (λ z. nearest_member (z 0) (span (z 1) (z 1)) ≡ z 1)
    (λ K n. nearest_member-points K (n 0) (n 1) (n 1) ∙ ap (point K) (omega arith))
    (s ∷ c ∷ [])

-- the only state of a code's set is the code
pub only_code : (s c : ℤ) → In s (only c) → s ≡ c
unfolding only
only_code s c i = ≤ℤ-antisym i.to_high i.from_low

-- a code is in its set
pub code-only : (s c : ℤ) → s ≡ c → In s (only c)
unfolding only
code-only s c e = subst (λ (z : ℤ). In z (span c c)) (sym e) (record { from_low = ≤ℤ_refl c; to_high = ≤ℤ_refl c })

-- a set that has a member, and no member but one state, is the set of that state
pub only_one : (c : ℤ) (a : Span) → Nonempty a → ((s : ℤ) → In s a → s ≡ c) → a ≡ only c
unfolding only
only_one c a p h =
    ap₂ span (h a.low (record { from_low = ≤ℤ_refl a.low; to_high = p.ordered }))
    (h a.high (record { from_low = p.ordered; to_high = ≤ℤ_refl a.high }))
