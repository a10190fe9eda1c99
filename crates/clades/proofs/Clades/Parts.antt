-- The parts of a clade: the clades of its nodes.
use mathlib.Core.Path.{◌≡◌, refl}
use mathlib.Core.Bool.{Bool, true, false, ◌||◌}
use Prim.Native.Nat.{ℕ}
use lib.Dec.{eqb}
use borrow.Author.Tests.{eqb-true}
use Rattle.clades.specs.Clades.{Clade, tip, fork}
use Rattle.clades.proofs.Clades.Sides.{Side, left, right, on, on_each}
use Rattle.clades.proofs.Clades.Nodes.{top, has, has_on, Distinct}

-- s is a part of a clade: the clade of one of its nodes
pub data Part (s : Clade) : Clade → Type 0 where
  whole : Part s s
  below : (side : Side) (v : ℕ) (a b : Clade) → Part s (on side a b) → Part s (fork v a b)

-- a node of a part is a node of the whole
pub part_has : (s t : Clade) → Part s t → (w : ℕ) → has s w ≡ true → has t w ≡ true
part_has s t whole w h = h
part_has s t (below side v a b p) w h = has_on side v a b w (part_has s (on side a b) p w h)

-- the nodes of a part of a clade whose nodes are distinct are distinct
pub part_distinct : (s t : Clade) → Part s t → Distinct t → Distinct s
part_distinct s t whole d = d
part_distinct s t (below side v a b p) d = part_distinct s (on side a b) p (on_each Distinct side a b d.1 d.2)

-- what stands on a side of a part that is a fork is a part
unfoldable pub part_on : (side : Side) (v : ℕ) (a b t : Clade) → Part (fork v a b) t → Part (on side a b) t
part_on side v a b t whole = below side v a b whole
part_on side v a b t (below turn u c e p) = below turn u c e (part_on side v a b (on turn c e) p)

-- what is handed to a part of a clade, where each fork hands something on to either side
unfoldable pub handed : {X : Type 0} {s : Clade} (to : Side → X → Clade → Clade → X) → X → {t : Clade} → Part s t → X
handed to x whole = x
handed to x (below side v a b p) = handed to (to side x a b) p

-- to what stands on a side of a part is handed what the part hands on
pub handed_on : {X : Type 0} (to : Side → X → Clade → Clade → X) (side : Side) (v : ℕ) (a b : Clade) (x : X) (t : Clade)
    (p : Part (fork v a b) t) → handed to x (part_on side v a b t p) ≡ to side (handed to x p) a b
unfolding handed part_on
handed_on to side v a b x t whole = refl
handed_on to side v a b x t (below turn u c e p) = handed_on to side v a b (to turn x c e) (on turn c e) p

-- the clade of node w within a clade
pub record PartAt (t : Clade) (w : ℕ) : Type 0 where
  pub clade : Clade
  pub part : Part clade t
  pub at_top : top clade ≡ w

-- the clade of a node on a side of a fork is a part of the fork
part_at_on : (side : Side) (v : ℕ) (a b : Clade) (w : ℕ) → PartAt (on side a b) w → PartAt (fork v a b) w
part_at_on side v a b w at = record { clade = at.clade; part = below side v a b at.part; at_top = at.at_top }

-- each node of a clade has its clade
pub part_at : (t : Clade) (w : ℕ) → has t w ≡ true → PartAt t w
unfolding has
part_at (tip v) w h = record { clade = tip v; part = whole; at_top = unfold top in eqb-true v w h }
part_at (fork v a b) w h = go (eqb v w) refl (has a w) (has b w) h (part_at a w) (part_at b w)
  where
    go : (x : Bool) → eqb v w ≡ x → (y z : Bool) → (x || (y || z)) ≡ true → (y ≡ true → PartAt a w) → (z ≡ true → PartAt b w) →
        PartAt (fork v a b) w
    go true e y z q f g = record { clade = fork v a b; part = whole; at_top = unfold top in eqb-true v w e }
    go false e true z q f g = part_at_on left v a b w (f refl)
    go false e false z q f g = part_at_on right v a b w (g q)

-- the node above a part of a clade that hangs from node u
unfoldable pub node_above : {s : Clade} → ℕ → {t : Clade} → Part s t → ℕ
node_above u whole = u
node_above u (below side v a b p) = node_above v p
