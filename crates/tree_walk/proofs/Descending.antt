-- The descendants of each node, found by going through the nodes once.
use mathlib.Core.Path.{◌≡◌, refl, sym, ◌∙◌, ap}
use mathlib.Core.Logic.{◌≢◌, by_cases}
use mathlib.Core.List.{List, [], ◌∷◌, ◌++◌, append-nil, Memᴰ}
use mathlib.Core.Bool.{Bool, true, false, cond}
use Prim.Native.Nat.{ℕ, suc, ◌+◌, ◌*◌, ◌-◌, ◌≤◌, ◌<◌, min}
use native.Mathlib.Omega.{arith}
use native.Mathlib.Decide.{ℕ_discrete, dec_le}
use lib.Dec.{eqb}
use lib.ListN.{length, set, replicate}
use lib.Seq.{get_or-set_same, get_or-set_other}
use borrow.Author.Tests.{eq-eqb, ne_eqb}
use Rattle.lists.specs.Filters.{keep}
use Rattle.lists.specs.Numbers.{numbers}
use Rattle.lists.proofs.Filled.{get_d_replicate}
use Rattle.lists.proofs.Numbers.{numbers-within, numbers-append, numbers-snoc}
use Rattle.matrix_form.specs.Shape.{last_node}
use Rattle.tree_form.specs.Ancestors.{ancestor, descendants}
use Rattle.branching.specs.Index.{TreeIndex}
use Rattle.tree_form.specs.Nodes.{other_nodes}
use Rattle.tree_form.proofs.Nodes.{ancestor-place}
use Rattle.branching.proofs.Entries.{keep_append}
use Rattle.tree_form.proofs.Descendants.{mem-descendants}
use Rattle.tree_walk.specs.Walks.{first_two, below_at}
use Rattle.tree_walk.specs.Steps.{with_descendant, WithinBelow}
use Rattle.tree_walk.specs.declared.walk.Below.{Below}

-- the elements kept of a list with one more behind it
keep_snoc : (test : ℕ → Bool) (us : List ℕ) (u : ℕ) → keep test (us ++ (u ∷ [])) ≡ keep test us ++ cond (test u) (u ∷ []) []
unfolding keep
keep_snoc test us u = keep_append test us (u ∷ [])

module _ (tree us : List ℕ) (u : ℕ) where
  -- a node that has v as its ancestor is one more of v's descendants
  descendants-more : descendants tree (us ++ (u ∷ [])) (ancestor tree u) ≡ descendants tree us (ancestor tree u) ++ (u ∷ [])
  unfolding descendants
  descendants-more = keep_snoc (λ w. eqb (ancestor tree w) (ancestor tree u)) us u
      ∙ ap (λ (t : Bool). keep (λ w. eqb (ancestor tree w) (ancestor tree u)) us ++ cond t (u ∷ []) []) (eq-eqb (ancestor tree u)
      (ancestor tree u) refl)

  -- of any other node it is none
  descendants-same : (v : ℕ) → ancestor tree u ≢ v → descendants tree (us ++ (u ∷ [])) v ≡ descendants tree us v
  unfolding descendants
  descendants-same v ne = keep_snoc (λ w. eqb (ancestor tree w) v) us u
      ∙ ap (λ (t : Bool). keep (λ w. eqb (ancestor tree w) v) us ++ cond t (u ∷ []) []) (ne_eqb (ancestor tree u) v ne)
      ∙ append-nil (keep (λ w. eqb (ancestor tree w) v) us)

-- the descendants among two lists of nodes, one after the other
descendants-append : (tree us vs : List ℕ) (v : ℕ) → descendants tree (us ++ vs) v ≡ descendants tree us v ++ descendants tree vs v
unfolding descendants
descendants-append tree us vs v = keep_append (λ w. eqb (ancestor tree w) v) us vs

-- a list without members is empty
no_members : (us : List ℕ) → ((u : ℕ) → Memᴰ u us → ⊥) → us ≡ []
no_members [] none = refl
no_members (u ∷ us) none = absurd (none u (Memᴰ.head refl))

-- one descendant more behind those of a list, none of which is 0
first_two-more : (us : List ℕ) (u : ℕ) → ((w : ℕ) → Memᴰ w us → 1 ≤ w) → with_descendant (first_two us) u ≡ first_two (us ++ (u ∷ []))
unfolding first_two with_descendant
first_two-more [] u some = refl
first_two-more (a ∷ []) u some =
    let one = some a (Memᴰ.head refl) in
    rw (ne_eqb a 0 (λ e. omega arith))
first_two-more (a ∷ b ∷ rest) u some =
    let one = some a (Memᴰ.head refl) in
    let two = some b (Memᴰ.tail (Memᴰ.head refl)) in
    rw (ne_eqb a 0 (λ e. omega arith), ne_eqb b 0 (λ e. omega arith))

-- two descendants with a place in a tree, and one more that has one
pub within_more : (below : Below) (u : ℕ) → u ≤ 126 → (below.first ≤ 126) × (below.second ≤ 126)
    → ((with_descendant below u).first ≤ 126) × ((with_descendant below u).second ≤ 126)
unfolding with_descendant
within_more below u h w = go (eqb below.first 0) (eqb below.second 0)
  where
    go : (s t : Bool)
        → ((cond s (record { first = u; second = below.second }) (cond t (record { first = below.first; second = u }) below)).first ≤ 126)
        × ((cond s (record { first = u; second = below.second }) (cond t (record { first = below.first; second = u }) below)).second ≤ 126)
    go true t = (h, w.1)
    go false true = (w.0, h)
    go false false = w

-- the descendants kept of each node are the first two among the nodes gone through
abbrev pub BelowTo : List ℕ → ℕ → List Below → Type 0
BelowTo tree u below = (v : ℕ) → 1 ≤ v → v ≤ 126 → below_at below v ≡ first_two (descendants tree (numbers 2 (u - 2)) v)

-- no descendants
module _ (none : Below) (zeros : (none.first ≡ 0) × (none.second ≡ 0)) where
  -- both are 0
  none_is : none ≡ record { first = 0; second = 0 }
  none_is = made none.first none.second zeros.0 zeros.1
    where
      made : (a b : ℕ) → a ≡ 0 → b ≡ 0 → ◌≡◌ {A = Below} (record { first = a; second = b }) (record { first = 0; second = 0 })
      made a b e f = cc

  -- so it stands at every place
  each_is : (v : ℕ) → below_at (replicate 127 none) v ≡ record { first = 0; second = 0 }
  each_is v = ap (λ (b : Below). below_at (replicate 127 b) v) none_is ∙ get_d_replicate (record { first = 0; second = 0 }) 127 v

  -- before the first node none are kept
  pub below-start : (tree : List ℕ) → BelowTo tree 2 (replicate 127 none)
  unfolding numbers descendants keep first_two
  below-start tree v l h = each_is v

  -- and each of these is 0
  pub none_within : WithinBelow (replicate 127 none)
  none_within v = rw (each_is v) (omega arith, omega arith)

-- the descendants kept when node u has been gone through besides
module _ (tree : List ℕ) (below : List Below) (u above : ℕ) (size : length below ≡ 127) (low : 2 ≤ u) (place : TreeIndex
    (ancestor tree u) above) where
  -- those of every node
  pub below_more : BelowTo tree u below → BelowTo tree (u + 1) (set below above (with_descendant (below_at below above) u))
  below_more inv v l h =
      by_cases (ℕ_discrete (ancestor tree u) v)
      (λ e. own e)
      (λ ne. other ne)
    where
      before : List ℕ
      before = numbers 2 (u - 2)

      all : numbers 2 (u + 1 - 2) ≡ before ++ (u ∷ [])
      all =
          let one : u + 1 - 2 ≡ suc (u - 2) = omega arith in
          let last : 2 + (u - 2) ≡ u = omega arith in
          ap (numbers 2) one ∙ numbers-snoc 2 (u - 2) ∙ ap (λ (k : ℕ). before ++ (k ∷ [])) last

      some : (w : ℕ) → Memᴰ w (descendants tree before v) → 1 ≤ w
      some w m = omega (arith, numbers-within 2 (u - 2) w ((mem-descendants tree before v w).0 m).0)

      own : ancestor tree u ≡ v
          → below_at (set below above (with_descendant (below_at below above) u)) v ≡ first_two (descendants tree (numbers 2 (u + 1 - 2)) v)
      own e =
          let here : above ≡ v = place.is (omega arith) ∙ e in
          let room : v < length below = omega arith in
          let more : descendants tree (before ++ (u ∷ [])) v ≡ descendants tree before v ++ (u ∷ []) =
          rw e at (descendants-more tree before u) in
          rw (here, all, more)
          (get_or-set_same below v (with_descendant (below_at below v) u) (record { first = 0; second = 0 }) room
          ∙ ap (λ (b : Below). with_descendant b u) (inv v l h)
          ∙ first_two-more (descendants tree before v) u some)

      other : ancestor tree u ≢ v
          → below_at (set below above (with_descendant (below_at below above) u)) v ≡ first_two (descendants tree (numbers 2 (u + 1 - 2)) v)
      other ne =
          let elsewhere : v ≢ above =
          λ e. by_cases (dec_le (ancestor tree u) 126) (λ i. ne (sym (place.is i) ∙ sym e))
          (λ i. let z : above ≡ 0 = place.beyond (omega arith) in omega arith) in
          rw (all, descendants-same tree before u v ne)
          (get_or-set_other below above v (with_descendant (below_at below above) u) (record { first = 0; second = 0 }) elsewhere ∙ inv v l h)

  -- each with a place in a tree
  pub all-within : above ≤ 126 → u ≤ 126 → WithinBelow below → WithinBelow (set below above (with_descendant (below_at below above) u))
  all-within room high inv v =
      let inside : above < length below = omega arith in
      by_cases (ℕ_discrete v above)
      (λ e. rw (e, get_or-set_same below above (with_descendant (below_at below above) u) (record { first = 0; second = 0 }) inside)
      (within_more (below_at below above) u high (inv above)))
      (λ ne. rw (get_or-set_other below above v (with_descendant (below_at below above) u) (record { first = 0; second = 0 }) ne) (inv v))

-- no node beyond the entries has an ancestor, so that the nodes up to the last that has a place give all descendants
pub descendants-size : (n last : ℕ) (tree : List ℕ) → length tree ≡ 127 → last ≡ min (last_node n) 126 → (v : ℕ) → 1 ≤ v
    → descendants tree (other_nodes n) v ≡ descendants tree (numbers 2 (last - 1)) v
unfolding other_nodes last_node
descendants-size n last tree size is v some =
    by_cases (dec_le (2 * n - 2) 126) (λ h. let all : 2 * n - 3 ≡ last - 1 = omega arith in rw all) beyond
  where
    none : (u : ℕ) → Memᴰ u (descendants tree (numbers (2 + 125) (2 * n - 3 - 125)) v) → ⊥
    none u m =
        let d = (mem-descendants tree (numbers (2 + 125) (2 * n - 3 - 125)) v u).0 m in
        let far = numbers-within (2 + 125) (2 * n - 3 - 125) u d.0 in
        let up = d.1 in
        omega (arith, ancestor-place tree u (omega arith))

    beyond : ¬ (2 * n - 2 ≤ 126) → descendants tree (numbers 2 (2 * n - 3)) v ≡ descendants tree (numbers 2 (last - 1)) v
    beyond h =
        let all : 2 * n - 3 ≡ 125 + (2 * n - 3 - 125) = omega arith in
        let near : last - 1 ≡ 125 = omega arith in
        ap (λ (k : ℕ). descendants tree (numbers 2 k) v) all
        ∙ ap (λ (us : List ℕ). descendants tree us v) (numbers-append 2 125 (2 * n - 3 - 125))
        ∙ descendants-append tree (numbers 2 125) (numbers (2 + 125) (2 * n - 3 - 125)) v
        ∙ ap (λ (us : List ℕ). descendants tree (numbers 2 125) v ++ us)
        (no_members (descendants tree (numbers (2 + 125) (2 * n - 3 - 125)) v) none)
        ∙ append-nil (descendants tree (numbers 2 125) v)
        ∙ ap (λ (k : ℕ). descendants tree (numbers 2 k) v) (sym near)
