-- Three sets that meet in one node (Swofford and Maddison 1987, theorem 2): the states whose distances from them add up to the least are
-- those from the third to the fourth of the six ends.
use Rattle.std.proofs.Common.{◌≡◌, ℕ, ◌+◌, ◌*◌, ◌≤◌, List, ℤ, ◌∙◌, arith}
use Rattle.difference_form.specs.Rows.{apart}
use Rattle.fit_form.specs.Sets.{Nonempty, In, in_order, six_ends, middle}
use Rattle.matrix_form.specs.declared.spans.Span.{Span}
use Rattle.fit_form.proofs.Sets.Order.{spread, rising_in_order, spread_in_order}
use Rattle.fit_form.proofs.Sets.Order.{length-in_order, third, third_to_fourth, third_to_fourth_of}
use Rattle.fit_form.proofs.Sets.Distance.{offset, offset-ends}

module _ (a b c : Span) (nonempty_a : Nonempty a) (nonempty_b : Nonempty b) (nonempty_c : Nonempty c) where
  -- how far a state lies from the three sets together
  abbrev sum : ℤ → ℕ
  sum s = offset s a + offset s b + offset s c

  -- the six ends in order
  abbrev ends : List ℤ
  ends = in_order (six_ends a b c)

  -- the sum of the distances, counted from the six ends
  spread_six_ends : (s : ℤ) →
      spread s ends ≡ 2 * sum s + (apart a.low a.high + apart b.low b.high + apart c.low c.high)
  spread_six_ends s = spread_in_order s (six_ends a b c) ∙ unfold spread in omega
      (arith, offset-ends s a nonempty_a, offset-ends s b nonempty_b, offset-ends s c nonempty_c)

  -- from a state from the third to the fourth of the six ends it is no farther than from any other
  pub middle_least : (s x : ℤ) → In s (middle a b c) → sum s ≤ sum x
  unfolding middle
  middle_least s x i =
      omega (
        arith,
        third_to_fourth ends (length-in_order (six_ends a b c)) (rising_in_order (six_ends a b c)) s x i.from_low i.to_high,
        spread_six_ends s,
        spread_six_ends x,
      )

  -- a state than which the third of the six ends is no nearer stands from the third to the fourth
  pub least-middle : (s : ℤ) → sum s ≤ sum (third ends) → In s (middle a b c)
  unfolding middle
  least-middle s h =
      let r = third_to_fourth_of ends (length-in_order (six_ends a b c)) (rising_in_order (six_ends a b c)) s
      (omega (arith, spread_six_ends s, spread_six_ends (third ends))) in
      record { from_low = r.0; to_high = r.1 }

  -- the third is at most the fourth
  pub middle_nonempty : Nonempty (middle a b c)
  middle_nonempty = let i = least-middle (third ends) (omega arith) in unfold middle in record { ordered = i.to_high }
