-- Values found from the top of a clade down: each node takes its value from what is handed to it, and hands something on to either side.
use mathlib.Core.Path.{◌≡◌, refl, ◌∙◌}
use mathlib.Core.List.{[], ◌∷◌, ◌++◌}
use mathlib.Core.Bool.{true, false}
use Prim.Native.Nat.{ℕ}
use borrow.Author.Tests.{eq-eqb}
use Rattle.clades.specs.Clades.{Clade, tip, fork}
use Rattle.clades.specs.ByNode.{ByNode, value_at}
use Rattle.clades.proofs.Clades.Sides.{Side, left, right, on, on_each}
use Rattle.clades.proofs.Clades.Nodes.{top, has, Separate, Distinct, differ, has_top, has_none}
use Rattle.clades.proofs.Clades.Parts.{Part, whole, below, part_has, handed}
use Rattle.clades.proofs.Clades.Lookup.{value_at-append}

module _ {X A : Type 0} (own : X → Clade → A) (to : Side → X → Clade → Clade → X) where
  -- the values found so, from what is handed to the clade
  unfoldable pub downward : X → Clade → ByNode A
  downward x (tip v) = (v, own x (tip v)) ∷ []
  downward x (fork v a b) = (v, own x (fork v a b)) ∷ (downward (to left x a b) a ++ downward (to right x a b) b)

  -- a node outside of the clade has no value
  pub downward_outside : (x : X) (t : Clade) (w : ℕ) (otherwise : A) → has t w ≡ false → value_at otherwise (downward x t) w ≡ otherwise
  unfolding downward value_at
  downward_outside x (tip v) w otherwise p = unfold has in rw p
  downward_outside x (fork v a b) w otherwise p =
      let none = has_none v a b w p in
      rw (none.0, value_at-append otherwise (downward (to left x a b) a) (downward (to right x a b) b) w)
      (downward_outside (to left x a b) a w (value_at otherwise (downward (to right x a b) b) w) (none.1 left)
      ∙ downward_outside (to right x a b) b w otherwise (none.1 right))

  -- the value of the clade's top node
  pub downward_top : (x : X) (t : Clade) (otherwise : A) → value_at otherwise (downward x t) (top t) ≡ own x t
  unfolding downward value_at top
  downward_top x (tip v) otherwise = rw (eq-eqb v v refl)
  downward_top x (fork v a b) otherwise = rw (eq-eqb v v refl)

  -- the value of a node on a side of a fork
  pub downward_on : (side : Side) (x : X) (v : ℕ) (a b : Clade) → Separate v a b → (w : ℕ) (otherwise : A) → has (on side a b) w ≡ true →
      value_at otherwise (downward x (fork v a b)) w ≡ value_at otherwise (downward (to side x a b) (on side a b)) w
  unfolding downward value_at
  downward_on left x v a b parts w otherwise h =
      rw (
        differ a v w (parts.without left) h,
        value_at-append otherwise (downward (to left x a b) a) (downward (to right x a b) b) w,
        downward_outside (to right x a b) b w otherwise (parts.sides left w h),
      )
  downward_on right x v a b parts w otherwise h =
      rw (
        differ b v w (parts.without right) h,
        value_at-append otherwise (downward (to left x a b) a) (downward (to right x a b) b) w,
      )
      (downward_outside (to left x a b) a w (value_at otherwise (downward (to right x a b) b) w) (parts.sides right w h))

  -- the value of a part's top node
  pub downward_part : (s : Clade) (x : X) (t : Clade) (p : Part s t) → Distinct t → (otherwise : A) →
      value_at otherwise (downward x t) (top s) ≡ own (handed to x p) s
  unfolding handed
  downward_part s x t whole d otherwise = downward_top x s otherwise
  downward_part s x t (below side u c e p) d otherwise =
      downward_on side x u c e d.0 (top s) otherwise (part_has s (on side c e) p (top s) (has_top s))
      ∙ downward_part s (to side x c e) (on side c e) p (on_each Distinct side c e d.1 d.2) otherwise
