-- Assignments that agree on the nodes of a clade, and one assignment made of two.
use mathlib.Core.Path.{◌≡◌, refl, sym, ap, subst}
use mathlib.Core.Bool.{true, cond}
use Prim.Native.Nat.{ℕ}
use lib.Dec.{eqb}
use lib.IntN.{ℤ}
use borrow.Author.Tests.{eq-eqb}
use Rattle.clades.specs.Clades.{Clade, tip, fork}
use Rattle.clades.proofs.Clades.Sides.{Side, left, right, on}
use Rattle.clades.proofs.Clades.Nodes.{top, has, Separate, differ, has_top, has_on}
use Rattle.clades.proofs.Clades.Cost.{Keeps, cost, within}

-- two assignments agree on the nodes of a clade
abbrev pub Agree : (ℕ → ℤ) → (ℕ → ℤ) → Clade → Type 0
Agree f g t = (w : ℕ) → has t w ≡ true → f w ≡ g w

-- assignments that agree on a fork agree on either side of it
pub agree_on : (side : Side) (f g : ℕ → ℤ) (v : ℕ) (a b : Clade) → Agree f g (fork v a b) → Agree f g (on side a b)
agree_on side f g v a b h w p = h w (has_on side v a b w p)

-- assignments that agree on a clade agree on its top node
pub agree_top : (f g : ℕ → ℤ) (t : Clade) → Agree f g t → f (top t) ≡ g (top t)
agree_top f g t h = h (top t) (has_top t)

-- assignments that agree on a clade give it the same cost
pub cost_agree : (step : ℤ → ℤ → ℕ) (f g : ℕ → ℤ) (y : ℤ) (t : Clade) → Agree f g t → cost step f y t ≡ cost step g y t
unfolding cost top
cost_agree step f g y (tip v) h = ap (λ s. step s y) (agree_top f g (tip v) h)
cost_agree step f g y (fork v a b) h =
    rw (
      agree_top f g (fork v a b) h,
      cost_agree step f g (g v) a (agree_on left f g v a b h),
      cost_agree step f g (g v) b (agree_on right f g v a b h),
    )

-- and the same cost without the branch above it
pub within_agree : (step : ℤ → ℤ → ℕ) (f g : ℕ → ℤ) (t : Clade) → Agree f g t → within step f t ≡ within step g t
unfolding within top
within_agree step f g (tip v) h = refl
within_agree step f g (fork v a b) h =
    rw (
      agree_top f g (fork v a b) h,
      cost_agree step f g (g v) a (agree_on left f g v a b h),
      cost_agree step f g (g v) b (agree_on right f g v a b h),
    )

-- of assignments that agree on a clade, one gives its taxa states that they may have if the other does
pub keeps_agree : (Own : ℕ → ℤ → Type 0) (f g : ℕ → ℤ) (t : Clade) → Agree f g t → Keeps Own g t → Keeps Own f t
unfolding top
keeps_agree Own f g (tip v) h k = subst (Own v) (sym (agree_top f g (tip v) h)) k
keeps_agree Own f g (fork v a b) h k =
    (keeps_agree Own f g a (agree_on left f g v a b h) k.0, keeps_agree Own f g b (agree_on right f g v a b h) k.1)

-- the assignment that gives v state s, the nodes of a their states under f, and all others theirs under g
unfoldable pub combined : ℕ → ℤ → Clade → (ℕ → ℤ) → (ℕ → ℤ) → ℕ → ℤ
combined v s a f g w = cond (eqb v w) s (cond (has a w) (f w) (g w))

module _ (v : ℕ) (s : ℤ) (a b : Clade) (f g : ℕ → ℤ) where
  -- v has its own state
  pub combined_top : combined v s a f g v ≡ s
  unfolding combined
  combined_top = rw (eq-eqb v v refl)

  -- on the left it agrees with f
  pub combined_left : Separate v a b → Agree (combined v s a f g) f a
  unfolding combined
  combined_left p w h = rw (differ a v w (p.without left) h, h)

  -- on the right it agrees with g
  pub combined_right : Separate v a b → Agree (combined v s a f g) g b
  unfolding combined
  combined_right p w h = rw (differ b v w (p.without right) h, p.sides right w h)
