-- What makes a distance, of things of any kind: codes in one character, rows of the same length, nodes.
use mathlib.Core.Path.{◌≡◌, ap, subst, ◌∙◌}
use Prim.Native.Nat.{ℕ, ◌+◌, ◌*◌, ◌≤◌}
use native.Mathlib.Nat.{mul-add, mul-zero, mul-le-mul_left}

-- d is a distance
pub record Distance {A : Type 0} (d : A → A → ℕ) : Type 0 where
  -- nothing from a thing to itself
  pub self : (x : A) → d x x ≡ 0
  -- the same either way
  pub turned : (x y : A) → d x y ≡ d y x
  -- never less over a third
  pub triangle : (x y z : A) → d x z ≤ d x y + d y z

-- what is d, counted w times
abbrev pub times : {A : Type 0} → ℕ → (A → A → ℕ) → A → A → ℕ
times w d x y = w * d x y

-- a distance counted w times is one, also if w is 0
pub distance_weighed : {A : Type 0} (w : ℕ) (d : A → A → ℕ) → Distance d → Distance (times w d)
distance_weighed w d distance = record {
  self = λ x. ap (λ k. w * k) (distance.self x) ∙ mul-zero w;
  turned = λ x y. ap (λ k. w * k) (distance.turned x y);
  triangle = λ x y z. subst (λ k. w * d x z ≤ k) (mul-add w (d x y) (d y z)) (mul-le-mul_left w (distance.triangle x y z));
}
