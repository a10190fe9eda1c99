-- Arithmetic of the ends of two sets l to h and l' to h' of natural numbers.
-- Their intersection starts at the higher low end and ends at the lower high end; s lies (l - s) + (s - h) from l to h.
use Rattle.std.proofs.Common.{◌≡◌, ℕ, ◌+◌, ◌-◌, ◌*◌, ◌≤◌, min, max, le_trans, le_of_lt, arith}
use native.Mathlib.Nat.{min-eq_left, min-eq_right, max-eq_left, max-eq_right}
use Rattle.fit_form.proofs.Cases.{either, min_cases, max_cases, between}

-- the differences of s from both ends of a set are twice its distance from the set, and the set's width
pub either_side : (s l h : ℕ) → l ≤ h → ((s - l) + (l - s)) + ((s - h) + (h - s)) ≡ 2 * ((l - s) + (s - h)) + ((l - h) + (h - l))
either_side s l h p = either s l (λ c. omega arith) (λ c. omega arith)

-- to two sets it is at least as far as to start and end of their intersection
ends-apart : (s l h l' h' : ℕ) → (max l l' - s) + (s - min h h') ≤ ((l - s) + (s - h)) + ((l' - s) + (s - h'))
ends-apart s l h l' h' = omega (arith, starts, stops)
  where
    starts : max l l' - s ≤ (l - s) + (l' - s)
    starts = omega arith

    stops : s - min h h' ≤ (s - h) + (s - h')
    stops = omega arith

-- to start and end, in either order, it is as far as to the set between them and, if the end comes first, from one to the other
between-apart : (s start end : ℕ) → (start - end) + ((min start end - s) + (s - max start end)) ≤ (start - s) + (s - end)
between-apart s start end = either start end
    (λ p. rw (min-eq_left p, max-eq_right p) (omega arith))
    (λ p. rw (min-eq_right (le_of_lt p), max-eq_left (le_of_lt p)) (omega arith))

-- to two sets it is at least as far as to their join and from one set to the other
pub join_apart : (s l h l' h' : ℕ) →
    (max l l' - min h h') + ((min (max l l') (min h h') - s) + (s - max (max l l') (min h h')))
    ≤ ((l - s) + (s - h)) + ((l' - s) + (s - h'))
join_apart s l h l' h' = le_trans (between-apart s (max l l') (min h h')) (ends-apart s l h l' h')

-- a member of the join is together as far from two sets as one set is from the other
pub in_join : (s l h l' h' : ℕ) → l ≤ h → l' ≤ h' → min (max l l') (min h h') ≤ s → s ≤ max (max l l') (min h h') →
    ((l - s) + (s - h)) + ((l' - s) + (s - h')) ≡ max l l' - min h h'
in_join s l h l' h' p p' =
    max_cases (λ x. min x (min h h') ≤ s → s ≤ max x (min h h') → ((l - s) + (s - h)) + ((l' - s) + (s - h')) ≡ x - min h h') l l'
    (λ c. min_cases (λ y. min l' y ≤ s → s ≤ max l' y → ((l - s) + (s - h)) + ((l' - s) + (s - h')) ≡ l' - y) h h'
    (λ d. between s l' h (λ e f g. omega arith) (λ e f g. omega arith))
    (λ d. between s l' h' (λ e f g. omega arith) (λ e f g. omega arith)))
    (λ c. min_cases (λ y. min l y ≤ s → s ≤ max l y → ((l - s) + (s - h)) + ((l' - s) + (s - h')) ≡ l - y) h h'
    (λ d. between s l h (λ e f g. omega arith) (λ e f g. omega arith))
    (λ d. between s l h' (λ e f g. omega arith) (λ e f g. omega arith)))
