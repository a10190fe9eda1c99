-- Looking up the values of nodes.
use mathlib.Core.Path.{◌≡◌, refl, ap}
use mathlib.Core.List.{[], ◌∷◌, ◌++◌}
use mathlib.Core.Bool.{cond}
use Prim.Native.Nat.{ℕ}
use lib.Dec.{eqb}
use Rattle.clades.specs.ByNode.{ByNode, value_at}

-- the value of a node in one list of values and another behind it
pub value_at-append : {A : Type 0} (otherwise : A) (s t : ByNode A) (w : ℕ) →
    value_at otherwise (s ++ t) w ≡ value_at (value_at otherwise t w) s w
unfolding value_at
value_at-append otherwise [] t w = refl
value_at-append otherwise (entry ∷ s) t w = ap (λ x. cond (eqb entry.0 w) entry.1 x) (value_at-append otherwise s t w)
