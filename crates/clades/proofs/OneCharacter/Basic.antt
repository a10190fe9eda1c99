-- The Basic Lemma of Swofford and Maddison (1987) for one character of any kind: the least cost of a clade that hangs from a node of
-- state y is the least cost within the clade and the distance of y from the clade's set.
use mathlib.Core.Path.{◌≡◌, ◌∙◌, ap}
use Prim.Native.Nat.{ℕ, ◌+◌, ◌≤◌}
use native.Mathlib.Omega.{arith}
use lib.IntN.{ℤ}
use Rattle.clades.specs.Clades.{Clade, tip, fork}
use Rattle.clades.specs.Kinds.{Kind, offset}
use Rattle.clades.specs.Character.{up}
use Rattle.clades.specs.Passes.{least_cost}
use Rattle.clades.proofs.Clades.Nodes.{top}
use Rattle.clades.proofs.Clades.Cost.{EachTip, Keeps, cost, within, cost_top}
use Rattle.clades.proofs.Sets.Laws.{Laws}
use Rattle.clades.proofs.Sets.Distance.{offset_triangle, offset-nearest}

-- taxon v may have the states of its own set
abbrev pub Own : (K : Kind) → (ℕ → K.Set) → ℕ → ℤ → Type 0
Own K own v s = K.In s (own v)

-- the own set of each taxon of a clade can be the set of a node
abbrev pub EachProper : (K : Kind) → (ℕ → K.Set) → Clade → Type 0
EachProper K own t = EachTip (λ v. K.Proper (own v)) t

module _ (K : Kind) (laws : Laws K) (own : ℕ → K.Set) where
  -- the set of a clade can be the set of a node
  pub up_proper_lem : (t : Clade) → EachProper K own t → K.Proper (up K own t)
  unfolding up
  up_proper_lem (tip v) p = p
  up_proper_lem (fork v a b) p = laws.join_proper (up K own a) (up K own b) (up_proper_lem a p.0) (up_proper_lem b p.1)

  -- every assignment costs at least the least cost within the clade and the distance of the state above from the clade's set
  pub basic_lemma : (f : ℕ → ℤ) (y : ℤ) (t : Clade) → EachProper K own t → Keeps (Own K own) f t →
      least_cost K own t + offset K y (up K own t) ≤ cost K.step f y t
  unfolding cost least_cost up
  basic_lemma f y (tip v) p k = omega (arith, laws.nearest_least y (own v) p (f v) k, laws.metric.distance.turned y (f v))
  basic_lemma f y (fork v a b) p k =
      let s = f v in
      let pa = up_proper_lem a p.0 in
      let pb = up_proper_lem b p.1 in
      omega (
        arith,
        basic_lemma f s a p.0 k.0,
        basic_lemma f s b p.1 k.1,
        laws.metric.distance.turned y s,
        laws.join_apart (up K own a) (up K own b) pa pb s,
        offset_triangle K laws y s (K.join (up K own a) (up K own b)) (laws.join_proper (up K own a) (up K own b) pa pb),
      )

  -- within a clade every assignment costs at least the least cost and the distance of its top node's state from its set
  pub within-least : (f : ℕ → ℤ) (t : Clade) → EachProper K own t → Keeps (Own K own) f t →
      least_cost K own t + offset K (f (top t)) (up K own t) ≤ within K.step f t
  within-least f t p k =
      omega (
        arith,
        basic_lemma f (f (top t)) t p k,
        cost_top K.step f (f (top t)) t,
        laws.metric.distance.self (f (top t)),
      )

  -- an assignment that gives an HTU the member of its set nearest to the state above, and costs the least on both sides, costs no more
  -- than that
  pub basic_step : (y : ℤ) (v : ℕ) (a b : Clade) (f : ℕ → ℤ) → EachProper K own (fork v a b) →
      f v ≡ K.nearest y (K.join (up K own a) (up K own b)) →
      cost K.step f (f v) a ≤ least_cost K own a + offset K (f v) (up K own a) →
      cost K.step f (f v) b ≤ least_cost K own b + offset K (f v) (up K own b) →
      cost K.step f y (fork v a b) ≤ least_cost K own (fork v a b) + offset K y (up K own (fork v a b))
  unfolding cost least_cost up
  basic_step y v a b f p own-state h k =
      let pa = up_proper_lem a p.0 in
      let pb = up_proper_lem b p.1 in
      let j = K.join (up K own a) (up K own b) in
      let i : K.In (f v) j = rw own-state (laws.nearest_in y j (laws.join_proper (up K own a) (up K own b) pa pb)) in
      let e = laws.join_in (up K own a) (up K own b) pa pb (f v) i in
      let d : K.step (f v) y ≡ offset K y j = ap (λ s. K.step s y) own-state ∙ offset-nearest K laws y j in
      omega arith
