-- The two sides of a fork.
use mathlib.Core.Path.{◌≡◌, refl}

-- a side of a fork
pub data Side : Type 0 where
  left : Side
  right : Side

-- what stands on a side, of two things that stand on the left and on the right
abbrev pub on : {A : Type 0} → Side → A → A → A
on left a b = a
on right a b = b

-- the other side
abbrev pub other : Side → Side
other left = right
other right = left

-- what is made of the thing on a side stands on that side of the two made
pub on_map : {A B : Type 0} (f : A → B) (side : Side) (a b : A) → f (on side a b) ≡ on side (f a) (f b)
on_map f left a b = refl
on_map f right a b = refl

-- what holds of both things holds of the one on a side
pub on_each : {A : Type 0} (P : A → Type 0) (side : Side) (a b : A) → P a → P b → P (on side a b)
on_each P left a b p q = p
on_each P right a b p q = q
