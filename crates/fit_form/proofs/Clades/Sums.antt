-- Sums over the nodes of a clade: how often a node stands in it, and how many nodes it has.
use Rattle.std.proofs.Common.{◌≡◌, ℕ, ◌+◌, ◌≤◌, Bool, true, false, ◌||◌, eqb, List, [], ◌∷◌, map, length, sym, refl, true≢false, arith, eq-eqb}
use Rattle.lists.specs.Sums.{sum_over}
use Rattle.lists.proofs.Sums.{pick}
use Rattle.clades.specs.Clades.{Clade, tip, fork}
use Rattle.fit_form.specs.Clades.{above}
use Rattle.fit_form.proofs.Cases.{either}
use Rattle.clades.proofs.Clades.Sides.{Side, left, right, on, other}
use Rattle.clades.proofs.Clades.Nodes.{has, Distinct}

-- the sum of a quantity over the nodes of a clade
unfoldable pub sum_clade : (ℕ → ℕ) → Clade → ℕ
sum_clade q (tip v) = q v
sum_clade q (fork v a b) = q v + (sum_clade q a + sum_clade q b)

-- the sum over a node and the clades of its descendants, of which there are none or two
pub sum_clade_above : (q : ℕ → ℕ) (v : ℕ) (clade : ℕ → Clade) (us : List ℕ) → (length us ≡ 1 → ⊥) → length us ≤ 2 →
    sum_clade q (above v (map clade us)) ≡ q v + sum_over (λ u. sum_clade q (clade u)) us
unfolding above sum_clade sum_over
sum_clade_above q v clade [] h l = omega arith
sum_clade_above q v clade (a ∷ []) h l = absurd (h refl)
sum_clade_above q v clade (a ∷ b ∷ []) h l = omega arith
sum_clade_above q v clade (a ∷ b ∷ c ∷ us) h l = absurd (omega arith)

-- how often node w stands in a clade
unfoldable pub count : ℕ → Clade → ℕ
count w t = sum_clade (λ v. pick (eqb v w) 1) t

-- a node that a clade has is counted
has_count : (t : Clade) (w : ℕ) → has t w ≡ true → 1 ≤ count w t
unfolding has count sum_clade
has_count (tip v) w h = rw h (omega arith)
has_count (fork v a b) w h = go (eqb v w) (has a w) (has b w) h (has_count a w) (has_count b w)
  where
    go : (x y z : Bool) → (x || (y || z)) ≡ true → (y ≡ true → 1 ≤ count w a) → (z ≡ true → 1 ≤ count w b) →
        1 ≤ pick x 1 + (count w a + count w b)
    go true y z e f g = omega arith
    go false true z e f g = omega (arith, f refl)
    go false false z e f g = omega (arith, g e)

-- a node that is counted is in the clade
pub count_has : (t : Clade) (w : ℕ) → 1 ≤ count w t → has t w ≡ true
unfolding has count sum_clade
count_has (tip v) w h = go (eqb v w) h
  where
    go : (x : Bool) → 1 ≤ pick x 1 → x ≡ true
    go true l = refl
    go false l = absurd (omega arith)
count_has (fork v a b) w h = go (eqb v w) (has a w) (has b w) h (count_has a w) (count_has b w)
  where
    go : (x y z : Bool) → 1 ≤ pick x 1 + (count w a + count w b) → (1 ≤ count w a → y ≡ true) → (1 ≤ count w b → z ≡ true) →
        (x || (y || z)) ≡ true
    go true y z l f g = refl
    go false true z l f g = refl
    go false false z l f g = g (either 1 (count w a) (λ p. absurd (true≢false (sym (f p)))) (λ p. omega arith))

-- a node that is not counted is not in the clade
not_has : (t : Clade) (w : ℕ) → count w t ≡ 0 → has t w ≡ false
not_has t w e = go (has t w) refl
  where
    go : (x : Bool) → has t w ≡ x → x ≡ false
    go true h = absurd (omega (arith, has_count t w h))
    go false h = refl

-- a clade in which no node is counted twice has distinct nodes
pub distinct_of : (t : Clade) → ((w : ℕ) → count w t ≤ 1) → Distinct t
distinct_of (tip v) h = tt
distinct_of (fork v a b) h = (
  record { without = without; sides = sides },
  distinct_of a (λ w. omega (arith, once w)),
  distinct_of b (λ w. omega (arith, once w)),
)
  where
    once : (w : ℕ) → pick (eqb v w) 1 + (count w a + count w b) ≤ 1
    once w = unfold count sum_clade in h w

    own : pick (eqb v v) 1 ≡ 1
    own = rw (eq-eqb v v refl)

    without : (side : Side) → has (on side a b) v ≡ false
    without left = not_has a v (omega (arith, once v, own))
    without right = not_has b v (omega (arith, once v, own))

    sides : (side : Side) (w : ℕ) → has (on side a b) w ≡ true → has (on (other side) a b) w ≡ false
    sides left w p = not_has b w (omega (arith, once w, has_count a w p))
    sides right w p = not_has a w (omega (arith, once w, has_count b w p))

-- how many nodes a clade has
unfoldable pub size : Clade → ℕ
size t = sum_clade (λ v. 1) t

-- it has at least one
pub size_positive : (t : Clade) → 1 ≤ size t
unfolding size sum_clade
size_positive (tip v) = omega arith
size_positive (fork v a b) = omega arith

-- a fork has one more than its descendants' clades together
pub size-fork : (v : ℕ) (a b : Clade) → size (fork v a b) ≡ 1 + (size a + size b)
unfolding size sum_clade
size-fork v a b = refl
