-- The nodes of a clade, and clades whose nodes are distinct.
use mathlib.Core.Path.{◌≡◌, refl, sym, ◌∙◌, subst}
use mathlib.Core.Bool.{Bool, true, false, ◌||◌, true≢false}
use Prim.Native.Nat.{ℕ}
use lib.Dec.{eqb}
use borrow.Author.Tests.{eqb-true, eq-eqb}
use Rattle.lists.proofs.Both.{or_left, or_right}
use Rattle.clades.specs.Clades.{Clade, tip, fork}
use Rattle.clades.proofs.Clades.Sides.{Side, left, right, on, other}

-- nothing passes a test and fails it
pub clash : {X : Type 0} {t : Bool} → t ≡ true → t ≡ false → X
clash p q = absurd (true≢false (sym p ∙ q))

-- the top node of a clade
unfoldable pub top : Clade → ℕ
top (tip v) = v
top (fork v a b) = v

-- whether w is a node of a clade
unfoldable pub has : Clade → ℕ → Bool
has (tip v) w = eqb v w
has (fork v a b) w = eqb v w || (has a w || has b w)

-- the top node of a clade is one of its nodes
pub has_top : (t : Clade) → has t (top t) ≡ true
unfolding has top
has_top (tip v) = eq-eqb v v refl
has_top (fork v a b) = or_left (eqb v v) (has a v || has b v) (eq-eqb v v refl)

-- a node on a side of a fork is one of its nodes
pub has_on : (side : Side) (v : ℕ) (a b : Clade) (w : ℕ) → has (on side a b) w ≡ true → has (fork v a b) w ≡ true
unfolding has
has_on left v a b w p = or_right (eqb v w) (has a w || has b w) (or_left (has a w) (has b w) p)
has_on right v a b w p = or_right (eqb v w) (has a w || has b w) (or_right (has a w) (has b w) p)

-- neither of two tests passes if not one of the two does
or_false : (x y : Bool) → (x || y) ≡ false → (x ≡ false) × (y ≡ false)
or_false true y e = clash refl e
or_false false y e = (refl, e)

-- a node that a fork has not is neither its HTU nor on one of its sides
pub has_none : (v : ℕ) (a b : Clade) (w : ℕ) → has (fork v a b) w ≡ false →
    (eqb v w ≡ false) × ((side : Side) → has (on side a b) w ≡ false)
unfolding has
has_none v a b w e =
    let h = or_false (eqb v w) (has a w || has b w) e in
    let k = or_false (has a w) (has b w) h.1 in
    (h.0, each k)
  where
    each : (has a w ≡ false) × (has b w ≡ false) → (side : Side) → has (on side a b) w ≡ false
    each k left = k.0
    each k right = k.1

-- a node outside a clade is none of its nodes
pub differ : (t : Clade) (v w : ℕ) → has t v ≡ false → has t w ≡ true → eqb v w ≡ false
differ t v w p q = go (eqb v w) refl
  where
    go : (x : Bool) → eqb v w ≡ x → x ≡ false
    go true e = clash q (subst (λ u. has t u ≡ false) (eqb-true v w e) p)
    go false e = refl

-- an HTU and the nodes on its two sides are separate: none is met twice
pub record Separate (v : ℕ) (a b : Clade) : Type 0 where
  pub without : (side : Side) → has (on side a b) v ≡ false
  pub sides : (side : Side) (w : ℕ) → has (on side a b) w ≡ true → has (on (other side) a b) w ≡ false

-- the two descendants may change sides
pub separate_swap : (v : ℕ) (a b : Clade) → Separate v a b → Separate v b a
separate_swap v a b p = record { without = without; sides = sides }
  where
    without : (side : Side) → has (on side b a) v ≡ false
    without left = p.without right
    without right = p.without left

    sides : (side : Side) (w : ℕ) → has (on side b a) w ≡ true → has (on (other side) b a) w ≡ false
    sides left = p.sides right
    sides right = p.sides left

-- all nodes of a clade are distinct
abbrev pub Distinct : Clade → Type 0
Distinct (tip v) = Unit {0}
Distinct (fork v a b) = Separate v a b × Distinct a × Distinct b
