-- How wide some states are spread, in any way in which states that share one are spread no wider than by the sum of their numbers: then the
-- states of a clade's nodes are spread no wider than the clade costs.
use mathlib.Core.Path.{◌≡◌, sym, ap}
use mathlib.Core.Logic.{⊎_elim}
use mathlib.Core.Bool.{true, ◌||◌}
use mathlib.Core.List.Memᴰ
use mathlib.Core.List.{List, [], ◌∷◌, ◌++◌, Memᴰ}
use Prim.Native.Nat.{ℕ, ◌+◌}
use lib.Dec.{eqb}
use lib.IntN.{ℤ}
use borrow.Author.Tests.{eqb-true}
use Rattle.lists.proofs.Both.{or_cases}
use Rattle.clades.specs.Clades.{Clade, tip, fork}
use Rattle.clades.proofs.Clades.Nodes.{has}
use Rattle.clades.proofs.Clades.Cost.{cost}

-- each of some states is one of others
abbrev pub EachIn : List ℤ → List ℤ → Type 0
EachIn xs ys = (x : ℤ) → Memᴰ x xs → Memᴰ x ys

-- a spread for the cost of a change, where `NoWider xs k` says that states xs are spread no wider than k
pub record Spread (step : ℤ → ℤ → ℕ) (NoWider : List ℤ → ℕ → Type 0) : Type 0 where
  -- fewer states are spread no wider
  pub fewer : (xs ys : List ℤ) (k : ℕ) → EachIn xs ys → NoWider ys k → NoWider xs k
  -- two states are spread no wider than a change between them costs
  pub two : (x y : ℤ) → NoWider (x ∷ y ∷ []) (step x y)
  -- states that share one are spread no wider than by the sum of their numbers
  pub shared : (x : ℤ) (xs ys : List ℤ) (k l : ℕ) → NoWider (x ∷ xs) k → NoWider (x ∷ ys) l → NoWider (x ∷ (xs ++ ys)) (k + l)

-- the states of a clade's nodes
unfoldable pub node_states : (ℕ → ℤ) → Clade → List ℤ
node_states f (tip v) = f v ∷ []
node_states f (fork v a b) = f v ∷ (node_states f a ++ node_states f b)

-- the state of each node is one of them
pub mem-node_states : (f : ℕ → ℤ) (t : Clade) (v : ℕ) → has t v ≡ true → Memᴰ (f v) (node_states f t)
unfolding has node_states
mem-node_states f (tip u) v h = Memᴰ.head (ap f (sym (eqb-true u v h)))
mem-node_states f (fork u a b) v h =
    or_cases (eqb u v) (has a v || has b v) h
    (λ e. Memᴰ.head (ap f (sym (eqb-true u v e))))
    (λ below. Memᴰ.tail (or_cases (has a v) (has b v) below
    (λ i. Memᴰ.append_left (node_states f b) (mem-node_states f a v i))
    (λ i. Memᴰ.append_right (node_states f a) (mem-node_states f b v i))))

-- the first two of some states may change places
swapped : (x y : ℤ) (zs : List ℤ) → EachIn (x ∷ y ∷ zs) (y ∷ x ∷ zs)
swapped x y zs z i = ⊎_elim
    (λ e. Memᴰ.tail (Memᴰ.head e))
    (λ j. ⊎_elim (λ e. Memᴰ.head e) (λ k. Memᴰ.tail (Memᴰ.tail k)) (Memᴰ.cases_cons j))
    (Memᴰ.cases_cons i)

module _ (step : ℤ → ℤ → ℕ) (NoWider : List ℤ → ℕ → Type 0) (spread : Spread step NoWider) (f : ℕ → ℤ) where
  -- the states of a clade's nodes, with the state of the node above it, are spread no wider than the clade costs
  pub clade_spread : (y : ℤ) (t : Clade) → NoWider (y ∷ node_states f t) (cost step f y t)
  unfolding cost node_states
  clade_spread y (tip v) = spread.fewer (y ∷ f v ∷ []) (f v ∷ y ∷ []) (step (f v) y) (swapped y (f v) []) (spread.two (f v) y)
  clade_spread y (fork v a b) =
      let s = f v in
      let sides = node_states f a ++ node_states f b in
      let k = cost step f s a in
      let l = cost step f s b in
      spread.fewer (y ∷ s ∷ sides) (s ∷ y ∷ sides) (step s y + (k + l)) (swapped y s sides)
      (spread.shared s (y ∷ []) sides (step s y) (k + l) (spread.two s y)
      (spread.shared s (node_states f a) (node_states f b) k l (clade_spread s a) (clade_spread s b)))
