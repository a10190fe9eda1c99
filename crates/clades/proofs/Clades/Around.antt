-- The cost of a clade around one of its parts, and one assignment made of two, one on the part and one around it.
use mathlib.Core.Path.{◌≡◌, refl, ◌∙◌}
use mathlib.Core.Bool.{Bool, true, false, cond}
use Prim.Native.Nat.{ℕ, ◌+◌}
use native.Mathlib.Omega.{arith}
use lib.IntN.{ℤ}
use Rattle.clades.specs.Clades.{Clade}
use Rattle.clades.proofs.Clades.Sides.{Side, left, right, on, other, on_each}
use Rattle.clades.proofs.Clades.Nodes.{top, has, has_top, has_none, Separate, Distinct, clash}
use Rattle.clades.proofs.Clades.Parts.{Part, whole, below, part_has, node_above}
use Rattle.clades.proofs.Clades.Cost.{Keeps, cost, within, cost_top}
use Rattle.clades.proofs.Clades.Agree.{Agree, cost_agree, within_agree, keeps_agree}

-- the cost of all branches of a clade below node u but those of a part and the one above it
unfoldable pub around : (ℤ → ℤ → ℕ) → (ℕ → ℤ) → {s : Clade} → ℕ → {t : Clade} → Part s t → ℕ
around step f u whole = 0
around step f u (below side v a b p) = step (f v) (f u) + (around step f v p + cost step f (f v) (on (other side) a b))

-- the cost of a clade below node u is that around a part, that of the branch above the part, and that within it
pub cost-part : (step : ℤ → ℤ → ℕ) (f : ℕ → ℤ) (s : Clade) (u : ℕ) (t : Clade) (p : Part s t) →
    cost step f (f u) t ≡ around step f u p + (step (f (top s)) (f (node_above u p)) + within step f s)
unfolding around node_above cost
cost-part step f s u t whole = omega (arith, cost_top step f (f u) t)
cost-part step f s u t (below left v a b p) = omega (arith, cost-part step f s v a p)
cost-part step f s u t (below right v a b p) = omega (arith, cost-part step f s v b p)

-- the assignment that has the states of f on a clade and those of g elsewhere
unfoldable pub exchanged : Clade → (ℕ → ℤ) → (ℕ → ℤ) → ℕ → ℤ
exchanged s f g w = cond (has s w) (f w) (g w)

module _ (f g : ℕ → ℤ) (s : Clade) where
  -- on the clade it agrees with f
  pub exchanged_on : Agree (exchanged s f g) f s
  unfolding exchanged
  exchanged_on w h = rw h

  -- elsewhere it has the states of g
  pub exchanged_off : (w : ℕ) → has s w ≡ false → exchanged s f g w ≡ g w
  unfolding exchanged
  exchanged_off w h = rw h

-- a node that a clade has not is in none of its parts
pub part_without : (s t : Clade) → Part s t → (w : ℕ) → has t w ≡ false → has s w ≡ false
part_without s t p w h = go (has s w) refl
  where
    go : (x : Bool) → has s w ≡ x → x ≡ false
    go true e = clash (part_has s t p w e) h
    go false e = refl

-- a node on the other side of a fork is in no part of a side
beside : (side : Side) (v : ℕ) (a b s : Clade) → Separate v a b → Part s (on side a b) → (w : ℕ) → has (on (other side) a b) w ≡ true →
    has s w ≡ false
beside left v a b s d p w h = part_without s a p w (d.sides right w h)
beside right v a b s d p w h = part_without s b p w (d.sides left w h)

-- the node above a part of a clade of distinct nodes is not in the part
pub above-without : (s : Clade) (u : ℕ) (t : Clade) (p : Part s t) → Distinct t → has t u ≡ false → has s (node_above u p) ≡ false
unfolding node_above
above-without s u t whole d n = n
above-without s u t (below side v a b p) d n =
    above-without s v (on side a b) p (on_each Distinct side a b d.1 d.2) (d.0.without side)

-- assignments that agree off a part, in a clade of distinct nodes below node u, have the same cost around it
pub around_agree : (step : ℤ → ℤ → ℕ) (f g : ℕ → ℤ) (s : Clade) (u : ℕ) (t : Clade) (p : Part s t) → Distinct t → has t u ≡ false →
    ((w : ℕ) → has s w ≡ false → f w ≡ g w) → around step f u p ≡ around step g u p
unfolding around
around_agree step f g s u t whole d n h = refl
around_agree step f g s u t (below side v a b p) d n h =
    let off = part_without s (on side a b) p in
    rw (
      h u (off u ((has_none v a b u n).1 side)),
      h v (off v (d.0.without side)),
      around_agree step f g s v (on side a b) p (on_each Distinct side a b d.1 d.2) (d.0.without side) h,
      cost_agree step f g (g v) (on (other side) a b) (λ w i. h w (beside side v a b s d.0 p w i)),
    )

-- one assignment on a part and another around it gives each taxon a state that it may have
pub keeps_exchanged : (Own : ℕ → ℤ → Type 0) (f g : ℕ → ℤ) (s t : Clade) → Part s t → Distinct t → Keeps Own f s → Keeps Own g t →
    Keeps Own (exchanged s f g) t
keeps_exchanged Own f g s t whole d j k = keeps_agree Own (exchanged s f g) f s (exchanged_on f g s) j
keeps_exchanged Own f g s t (below left v a b p) d j k = (
  keeps_exchanged Own f g s a p d.1 j k.0,
  keeps_agree Own (exchanged s f g) g b (λ w i. exchanged_off f g s w (beside left v a b s d.0 p w i)) k.1,
)
keeps_exchanged Own f g s t (below right v a b p) d j k = (
  keeps_agree Own (exchanged s f g) g a (λ w i. exchanged_off f g s w (beside right v a b s d.0 p w i)) k.0,
  keeps_exchanged Own f g s b p d.2 j k.1,
)

-- the cost of such an assignment: around the part as under g, above it between g and f, within it as under f
pub cost_exchanged : (step : ℤ → ℤ → ℕ) (f g : ℕ → ℤ) (u : ℕ) (s t : Clade) (p : Part s t) → Distinct t → has t u ≡ false →
    cost step (exchanged s f g) (exchanged s f g u) t
    ≡ around step g u p + (step (f (top s)) (g (node_above u p)) + within step f s)
cost_exchanged step f g u s t p d n =
    cost-part step (exchanged s f g) s u t p
    ∙ rw (
      around_agree step (exchanged s f g) g s u t p d n (exchanged_off f g s),
      exchanged_on f g s (top s) (has_top s),
      exchanged_off f g s (node_above u p) (above-without s u t p d n),
      within_agree step (exchanged s f g) f s (exchanged_on f g s),
    )
