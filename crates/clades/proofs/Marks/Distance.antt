-- How far a state lies from a set of marks: not at all if its mark is set, else one step.
use mathlib.Core.Path.{◌≡◌, refl, ◌∙◌, ap}
use mathlib.Core.Bool.{Bool, true, false, cond}
use Prim.Native.Nat.{ℕ, ◌-◌, ◌≤◌}
use native.Mathlib.Omega.{arith}
use native.Mathlib.Decide.{dec_le}
use mathlib.Core.Logic.{◌≢◌, by_cases}
use lib.Dec.{eqb}
use lib.IntN.{ℤ}
use borrow.Author.Tests.{eqb-true, eqb-false}
use Rattle.difference_form.proofs.Laws.Codes.{apart_self, apart-sym, apart-zero, apart_triangle}
use Rattle.clades.specs.Kinds.{offset}
use Rattle.clades.specs.Marks.{mark, ProperMarks, change, lowest_state, nearest_state, unordered}
use Rattle.clades.proofs.Sets.Laws.{Metric}
use Rattle.clades.proofs.Marks.Bits.{mark-most, lowest_state_in}

-- one step for any change is a distance of states
pub change_metric : Metric change
unfolding change
change_metric = record {
  distance = record {
    self = λ x. omega (arith, apart_self x);
    turned = λ x y. omega (arith, apart-sym x y);
    triangle = λ x y z. omega (arith, apart_triangle x y z);
  };
  same = λ x y e. apart-zero x y (omega arith);
}

-- a change costs at most one step
pub change-most : (x y : ℤ) → change x y ≤ 1
unfolding change
change-most x y = omega arith

-- a change from a state that is not in a set to one that is costs at least one step
change-marked : (a : ℕ) (s x : ℤ) → mark x a ≡ 1 → 1 - mark s a ≤ change s x
change-marked a s x e = by_cases (dec_le 1 (change s x))
    (λ h. omega arith)
    (λ h.
    let same : s ≡ x = change_metric.same s x (omega arith) in
    let m : mark s a ≡ 1 = ap (λ (y : ℤ). mark y a) same ∙ e in
    omega arith)

-- the state above, if it is in the set, and else the lowest state, is in the set
pub nearest_state_in : (s : ℤ) (a : ℕ) → ProperMarks a → mark (nearest_state s a) a ≡ 1
unfolding nearest_state
nearest_state_in s a p = go (eqb (mark s a) 1) refl
  where
    go : (t : Bool) → eqb (mark s a) 1 ≡ t → mark (cond t s (lowest_state a)) a ≡ 1
    go true e = eqb-true (mark s a) 1 e
    go false e = lowest_state_in a p

-- a state lies one step from a set in which it has no mark, and 0 from one in which it has
pub offset-marks : (s : ℤ) (a : ℕ) → ProperMarks a → offset unordered s a ≡ 1 - mark s a
unfolding offset nearest_state
offset-marks s a p = go (eqb (mark s a) 1) refl
  where
    go : (t : Bool) → eqb (mark s a) 1 ≡ t → change s (cond t s (lowest_state a)) ≡ 1 - mark s a
    go true e = omega (arith, change_metric.distance.self s, eqb-true (mark s a) 1 e)
    go false e =
        let none : mark s a ≢ 1 = eqb-false (mark s a) 1 e in
        omega (arith, none, mark-most s a, change-marked a s (lowest_state a) (lowest_state_in a p), change-most s (lowest_state a))

-- no member of a set is nearer than that
pub offset_nearest_least : (s : ℤ) (a : ℕ) → ProperMarks a → (x : ℤ) → mark x a ≡ 1 → offset unordered s a ≤ change s x
offset_nearest_least s a p x e = omega (arith, offset-marks s a p, change-marked a s x e)
