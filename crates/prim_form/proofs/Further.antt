-- Networks with further nodes besides the taxa: with none they are networks between taxa, and nodes that no link names change nothing.
use mathlib.Core.Path.{◌≡◌}
use mathlib.Core.List.{List, Memᴰ}
use mathlib.Core.Logic.{◌↔◌}
use Prim.Native.Nat.{ℕ, ◌≤◌}
use native.Mathlib.Omega.{arith}
use Rattle.prim_form.specs.Rival.{Reached, IsTaxon, ConnectedWith, Connected}

-- each link is between two taxa
abbrev pub BetweenTaxa : ℕ → List (ℕ × ℕ) → Type 0
BetweenTaxa n links = (x y : ℕ) → Memᴰ (x, y) links → IsTaxon n x × IsTaxon n y

-- every taxon can be reached from row 1
abbrev pub AllReached : ℕ → List (ℕ × ℕ) → Type 0
AllReached n links = (v : ℕ) → IsTaxon n v → Reached (λ x. x ≡ 1) links v

module _ {n : ℕ} {links : List (ℕ × ℕ)} where
  -- without further nodes a connected network is one between taxa
  pub connected_iff : Connected n links ↔ (BetweenTaxa n links × AllReached n links)
  connected_iff = (
    λ c. (λ x y m. let ends = c.between x y m in (omega arith, omega arith), c.reached),
    λ c. record { between = λ x y m. let ends = c.0 x y m in (omega arith, omega arith); reached = c.1 },
  )

  -- more further nodes may be given than links go to
  pub connected-more : {count more : ℕ} → count ≤ more → ConnectedWith n count links → ConnectedWith n more links
  connected-more h c = record { between = λ x y m. let ends = c.between x y m in (omega arith, omega arith); reached = c.reached }
