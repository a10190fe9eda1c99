-- The descendants of a node: which they are, how many it has, and how many it has to have.
use mathlib.Core.Path.{◌≡◌, refl, ap, ◌∙◌}
use mathlib.Core.Logic.{◌↔◌, ⊎_elim, ◌≢◌}
use mathlib.Core.List.{List, Memᴰ}
use mathlib.Core.Bool.{Bool}
use Prim.Native.Nat.{ℕ, ◌≤◌, ◌<◌}
use native.Mathlib.Omega.{arith}
use lib.Dec.{eqb}
use lib.ListN.{length}
use borrow.Author.Tests.{eqb-true, eq-eqb, ne_eqb, le-leb, lt-leb}
use Rattle.tree_form.specs.Ancestors.{ancestor, descendants}
use Rattle.lists.specs.Filters.{keep}
use Rattle.tree_form.specs.Nodes.{other_nodes}
use Rattle.tree_form.specs.Growing.{descendant_count, descendants_wanted}
use Rattle.tree_form.specs.Facts.{InTree}
use Rattle.lists.specs.Sums.{sum_over}
use Rattle.lists.proofs.Keep.{keep-mem, mem-keep, keep-none, length-mem}
use Rattle.lists.proofs.Sums.{pick, sum_keep}

-- the descendants of node v are those kept by the test that their ancestor is v
pub descendants-keep : (tree : List ℕ) (us : List ℕ) (v : ℕ) → descendants tree us v ≡ keep (λ u. eqb (ancestor tree u) v) us
unfolding descendants
descendants-keep tree us v = refl

-- a node is a descendant of v exactly if it is one of the list and v is its immediate ancestor
pub mem-descendants : (tree us : List ℕ) (v u : ℕ) → Memᴰ u (descendants tree us v) ↔ (Memᴰ u us × (ancestor tree u ≡ v))
mem-descendants tree us v u = rw (descendants-keep tree us v) (
  λ m. let k = keep-mem is_below us u m in (k.0, eqb-true (ancestor tree u) v k.1),
  λ h. mem-keep is_below us u h.0 (eq-eqb (ancestor tree u) v h.1),
)
  where
    is_below : ℕ → Bool
    is_below w = eqb (ancestor tree w) v

-- the sum over the descendants of v is the sum over the list, with 0 for all others
pub sum_descendants : (f : ℕ → ℕ) (tree us : List ℕ) (v : ℕ)
    → sum_over f (descendants tree us v) ≡ sum_over (λ u. pick (eqb (ancestor tree u) v) (f u)) us
sum_descendants f tree us v = ap (sum_over f) (descendants-keep tree us v) ∙ sum_keep f (λ u. eqb (ancestor tree u) v) us

-- a node with a descendant: one of nodes 2 to 2n-2 has it as ancestor
pub has_descendant : (n : ℕ) (tree : List ℕ) (v : ℕ) → 1 ≤ descendant_count n tree v
    → (u : ℕ) × Memᴰ u (other_nodes n) × (ancestor tree u ≡ v)
unfolding descendant_count
has_descendant n tree v h =
    let some = length-mem (descendants tree (other_nodes n) v) h in
    let d = (mem-descendants tree (other_nodes n) v some.0).0 some.1 in
    (some.0, d.0, d.1)

-- a number that is the ancestor of no node has no descendant
pub count_none : (n : ℕ) (tree : List ℕ) (w : ℕ) → ((u : ℕ) → ancestor tree u ≢ w) → descendant_count n tree w ≡ 0
unfolding descendant_count
count_none n tree w none =
    ap length (descendants-keep tree (other_nodes n) w)
    ∙ keep-none (λ u. eqb (ancestor tree u) w) (other_nodes n) (λ u m t. none u (eqb-true (ancestor tree u) w t))

-- so it is with a number that is not in the tree, if all ancestors are in the tree
pub count_out : (n : ℕ) (tree : List ℕ) (w : ℕ) → ((v : ℕ) → 1 ≤ ancestor tree v → InTree tree (ancestor tree v)) → 2 ≤ w
    → ancestor tree w ≡ 0 → descendant_count n tree w ≡ 0
count_out n tree w all l out =
    count_none n tree w λ u e. ⊎_elim (λ p. omega arith) (λ p. omega (arith, ap (ancestor tree) e)) (all u (omega arith))

-- a taxon other than row 1 has to have no descendant
pub wanted_taxon : (n v : ℕ) → 2 ≤ v → v ≤ n → descendants_wanted n v ≡ 0
unfolding descendants_wanted
wanted_taxon n v l h = rw (ne_eqb v 1 (λ e. omega arith), le-leb v n h)

-- an HTU has to have two
pub wanted_htu : (n v : ℕ) → 2 ≤ v → n < v → descendants_wanted n v ≡ 2
unfolding descendants_wanted
wanted_htu n v l h = rw (ne_eqb v 1 (λ e. omega arith), lt-leb v n h)
