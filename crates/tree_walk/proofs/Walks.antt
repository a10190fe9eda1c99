-- The walk over a branching: how it grows by one node, when it has grown to its end, and what follows for the descendants of a node.
use mathlib.Core.Path.{◌≡◌, refl, sym, ap, ◌∙◌}
use mathlib.Core.Logic.{◌≢◌, ◌⊎◌, inl, inr, ⊎_elim, by_cases}
use mathlib.Core.List.{List}
use mathlib.Core.Bool.{Bool, true, false, not, false≢true}
use Prim.Native.Nat.{ℕ, ◌+◌, ◌*◌, ◌-◌, ◌≤◌, ◌<◌}
use native.Mathlib.Omega.{arith}
use native.Mathlib.Decide.{dec_le, dec_lt, ℕ_discrete}
use lib.ListN.{length, set, replicate, get_or, length-set}
use lib.Seq.{get_or-set_same, get_or-set_other}
use borrow.Author.Tests.{not-true}
use Rattle.lists.specs.Filters.{keep}
use Rattle.lists.specs.Numbers.{numbers}
use Rattle.lists.proofs.Keep.{keep-mem, mem-keep, mem-length, length-mem, keep_all}
use Rattle.lists.proofs.Numbers.{numbers-within, numbers-among, length-numbers}
use Rattle.lists.proofs.Sums.{counted, length-keep, sum_changed}
use Rattle.matrix_form.specs.Shape.{last_node}
use Rattle.tree_form.specs.Ancestors.{ancestor}
use Rattle.tree_form.specs.Growing.{branching}
use Rattle.tree_form.specs.Facts.{ReachesRoot, root, up, Branching}
use Rattle.tree_walk.specs.Walks.{node_at, WalkDown, last_entry}
use Rattle.tree_walk.specs.Steps.{NodePut}
use Rattle.tree_form.proofs.Nodes.{same_everywhere}
use Rattle.tree_form.proofs.Test.{branching_iff}
use Rattle.tree_form.proofs.Whole.{branching_nodes, branching_reaches, growing_ancestor_le}

-- node v stands in the walk so far: its place in the list of marks is true
unfoldable pub stands : List Bool → ℕ → Bool
stands placed v = get_or placed v false

-- nodes 2 to `last` have their immediate ancestors among nodes 1 to `last`, and going up from each reaches node 1
pub record Rooted (last : ℕ) (tree : List ℕ) : Type 0 where
  pub above : (v : ℕ) → 2 ≤ v → v ≤ last → (1 ≤ ancestor tree v) × (ancestor tree v ≤ last)
  pub reaches : (v : ℕ) → 2 ≤ v → v ≤ last → ReachesRoot tree v

-- how many of the nodes 2 to `last` do not stand in the walk
abbrev pub outside : ℕ → List Bool → ℕ
outside last placed = length (keep (λ v. not (stands placed v)) (numbers 2 (last - 1)))

-- the walk as far as it has grown: its first `count` nodes, each marked, and only these
pub record Walked (last count : ℕ) (tree nodes : List ℕ) (placed : List Bool) : Type 0 where
  pub some : 1 ≤ count
  pub first : node_at nodes 0 ≡ 1
  pub within : (i : ℕ) → i < count → (1 ≤ node_at nodes i) × (node_at nodes i ≤ last)
  pub marked : (i : ℕ) → i < count → stands placed (node_at nodes i) ≡ true
  pub found : (v : ℕ) → stands placed v ≡ true → (i : ℕ) × (i < count) × (node_at nodes i ≡ v)
  pub once : (i j : ℕ) → i < j → j < count → node_at nodes i ≢ node_at nodes j
  pub behind : (i : ℕ) → 1 ≤ i → i < count → (j : ℕ) × (j < i) × (node_at nodes j ≡ ancestor tree (node_at nodes i))
  pub rest : (i : ℕ) → count ≤ i → node_at nodes i ≡ 0
  pub left : outside last placed + count ≡ last

-- a place of a list of nodes that is set holds the node
pub node_new : (nodes : List ℕ) (i v : ℕ) → i < length nodes → node_at (set nodes i v) i ≡ v
unfolding node_at
node_new nodes i v h = get_or-set_same nodes i v 0 h

-- any other keeps its own
pub node_old : (nodes : List ℕ) (i v j : ℕ) → j ≢ i → node_at (set nodes i v) j ≡ node_at nodes j
unfolding node_at
node_old nodes i v j ne = get_or-set_other nodes i j v 0 ne

-- a node that is marked stands
pub stands_new : (placed : List Bool) (v : ℕ) → v < length placed → stands (set placed v true) v ≡ true
unfolding stands
stands_new placed v h = get_or-set_same placed v true false h

-- for any other nothing changes
pub stands_old : (placed : List Bool) (v u : ℕ) → u ≢ v → stands (set placed v true) u ≡ stands placed u
unfolding stands
stands_old placed v u ne = get_or-set_other placed v u true false ne

-- a mark is true or false
pub mark : (placed : List Bool) (v : ℕ) → (stands placed v ≡ true) ⊎ (stands placed v ≡ false)
mark placed v = go (stands placed v) refl
  where
    go : (b : Bool) → stands placed v ≡ b → (stands placed v ≡ true) ⊎ (stands placed v ≡ false)
    go true e = inl e
    go false e = inr e

module _ (last : ℕ) (tree : List ℕ) (placed : List Bool) where
  -- if each node whose immediate ancestor stands stands too, each from which going up reaches node 1 does
  all_stand : Rooted last tree → stands placed 1 ≡ true
      → ((u : ℕ) → 2 ≤ u → u ≤ last → stands placed (ancestor tree u) ≡ true → stands placed u ≡ true)
      → {v : ℕ} → ReachesRoot tree v → 1 ≤ v → v ≤ last → stands placed v ≡ true
  all_stand rooted one closed root l h = one
  all_stand rooted one closed (up v r) l h =
      by_cases (ℕ_discrete v 1) (λ e. rw e one) λ ne.
      let a = rooted.above v (omega arith) h in
      closed v (omega arith) h (all_stand rooted one closed r a.0 a.1)

  -- if not all nodes stand, one does not
  some-outside : 1 ≤ outside last placed → (v : ℕ) × (2 ≤ v) × (v ≤ last) × (stands placed v ≡ false)
  some-outside h =
      let m = length-mem (keep (λ v. not (stands placed v)) (numbers 2 (last - 1))) h in
      let k = keep-mem (λ v. not (stands placed v)) (numbers 2 (last - 1)) m.0 m.1 in
      let w = numbers-within 2 (last - 1) m.0 k.0 in
      (m.0, w.0, omega arith, not-true (stands placed m.0) k.1)

-- a walk is whole once each node whose immediate ancestor stands stands too
pub walked_whole : (last count : ℕ) (tree nodes : List ℕ) (placed : List Bool) → Rooted last tree → Walked last count tree nodes placed
    → ((u : ℕ) → 2 ≤ u → u ≤ last → stands placed (ancestor tree u) ≡ true → stands placed u ≡ true)
    → count ≡ last
walked_whole last count tree nodes placed rooted w closed =
    let left = w.left in
    by_cases (dec_le 1 (outside last placed)) (λ h. absurd (missing (some-outside last tree placed h))) (λ h. omega arith)
  where
    one : stands placed 1 ≡ true
    one = rw w.first at (w.marked 0 w.some)

    missing : (v : ℕ) × (2 ≤ v) × (v ≤ last) × (stands placed v ≡ false) → ⊥
    missing out =
        let least = out.1 in
        let stand = all_stand last tree placed rooted one closed (rooted.reaches out.0 out.1 out.2) (omega arith) out.2 in
        false≢true (sym out.3 ∙ stand)

-- as long as a node does not stand, the walk is not at its end
pub walked_less : (last count : ℕ) (tree nodes : List ℕ) (placed : List Bool) → Walked last count tree nodes placed
    → (v : ℕ) → 2 ≤ v → v ≤ last → stands placed v ≡ false → count < last
walked_less last count tree nodes placed w v l h free =
    let all = w.left in
    let m = numbers-among 2 (last - 1) v l (omega arith) in
    omega (arith, mem-length (mem-keep (λ u. not (stands placed u)) (numbers 2 (last - 1)) v m (ap not free)))

module _ (last count : ℕ) (tree nodes : List ℕ) (placed : List Bool) (most : last ≤ 126)
    (sized : length nodes ≡ 127) (marks : length placed ≡ 127)
    (w : Walked last count tree nodes placed) (more : count < last)
    (v : ℕ) (low : 2 ≤ v) (high : v ≤ last) (free : stands placed v ≡ false) where
  -- what stood in the walk stands in it still
  pub still : (u : ℕ) → stands placed u ≡ true → stands (set placed v true) u ≡ true
  still u t =
      by_cases (ℕ_discrete u v) (λ e. rw e (stands_new placed v (omega arith))) (λ ne. stands_old placed v u ne ∙ t)

  -- one node less is outside
  one_less : outside last (set placed v true) + 1 ≡ outside last placed
  one_less =
      let before = length-keep (λ u. not (stands placed u)) (numbers 2 (last - 1)) in
      let after = length-keep (λ u. not (stands (set placed v true) u)) (numbers 2 (last - 1)) in
      let gone : counted (not (stands (set placed v true) v)) ≡ 0 =
      ap (λ (b : Bool). counted (not b)) (stands_new placed v (omega arith)) in
      let there : counted (not (stands placed v)) ≡ 1 = ap (λ (b : Bool). counted (not b)) free in
      let change =
      sum_changed
      (λ u. counted (not (stands (set placed v true) u)))
      (λ u. counted (not (stands placed u)))
      v
      2
      (last - 1)
      low
      (omega arith)
      (λ u m ne. ap (λ (b : Bool). counted (not b)) (stands_old placed v u ne)) in
      omega arith

  -- the nodes before it keep their indices
  kept : (i : ℕ) → i < count → node_at (set nodes count v) i ≡ node_at nodes i
  kept i h = node_old nodes count v i (λ e. omega arith)

  -- it stands behind them
  here : node_at (set nodes count v) count ≡ v
  here = node_new nodes count v (omega arith)

  -- a place up to it is an earlier one or its own
  upto : {P : ℕ → Type 0} → ((i : ℕ) → i < count → P i) → P count → (i : ℕ) → i < count + 1 → P i
  upto {P} earlier own i h =
      by_cases (dec_lt i count) (earlier i) (λ ne. let same : i ≡ count = omega arith in rw same own)

  -- with a node behind the others whose immediate ancestor stands, the walk has grown by one
  pub grows : stands placed (ancestor tree v) ≡ true → Walked last (count + 1) tree (set nodes count v) (set placed v true)
  grows above = record {
    some = omega arith;
    first = kept 0 w.some ∙ w.first;
    within = upto (λ i h. rw (kept i h) (w.within i h)) (rw here (omega arith, high));
    marked = upto (λ i h. rw (kept i h) (still (node_at nodes i) (w.marked i h))) (rw here (stands_new placed v (omega arith)));
    found = found;
    once = once;
    behind = λ i l h. upto earlier own i h l;
    rest = λ i h. node_old nodes count v i (λ e. omega arith) ∙ w.rest i (omega arith);
    left = let before = w.left in let less = one_less in omega arith;
  }
    where
      found : (u : ℕ) → stands (set placed v true) u ≡ true → (i : ℕ) × (i < count + 1) × (node_at (set nodes count v) i ≡ u)
      found u t =
          by_cases
          (ℕ_discrete u v)
          (λ e. (count, omega arith, here ∙ sym e))
          (λ ne.
          let old = w.found u (sym (stands_old placed v u ne) ∙ t) in
          (old.0, omega arith, kept old.0 old.1 ∙ old.2))

      once : (i j : ℕ) → i < j → j < count + 1 → node_at (set nodes count v) i ≢ node_at (set nodes count v) j
      once i j less h e =
          by_cases
          (dec_lt j count)
          (λ l. w.once i j less l (sym (kept i (omega arith)) ∙ e ∙ kept j l))
          (λ l.
          let same : j ≡ count = omega arith in
          let is : node_at nodes i ≡ v = sym (kept i (omega arith)) ∙ e ∙ ap (node_at (set nodes count v)) same ∙ here in
          false≢true (sym free ∙ (rw is at (w.marked i (omega arith)))))

      earlier : (i : ℕ) → i < count → 1 ≤ i
          → (j : ℕ) × (j < i) × (node_at (set nodes count v) j ≡ ancestor tree (node_at (set nodes count v) i))
      earlier i h l =
          let old = w.behind i l h in
          (old.0, old.1, kept old.0 (omega arith) ∙ old.2 ∙ ap (ancestor tree) (sym (kept i h)))

      own : 1 ≤ count
          → (j : ℕ) × (j < count) × (node_at (set nodes count v) j ≡ ancestor tree (node_at (set nodes count v) count))
      own l =
          let at = w.found (ancestor tree v) above in
          (at.0, at.1, kept at.0 at.1 ∙ at.2 ∙ ap (ancestor tree) (sym here))

-- a walk that has grown to its last node has every node
pub all_found : (last : ℕ) (tree nodes : List ℕ) (placed : List Bool) → Walked last last tree nodes placed
    → (v : ℕ) → 1 ≤ v → v ≤ last → (i : ℕ) × (i < last) × (node_at nodes i ≡ v)
all_found last tree nodes placed w v l h =
    by_cases
    (ℕ_discrete v 1)
    (λ e. (0, w.some, w.first ∙ sym e))
    (λ ne. w.found v (⊎_elim (λ t. t) (λ f. absurd (missing ne f)) (mark placed v)))
  where
    missing : v ≢ 1 → stands placed v ≡ false → ⊥
    missing ne f = omega (arith, walked_less last last tree nodes placed w v (omega arith) h f)

-- as far as it has grown, it is a walk down the tree
pub walked_down : (last count : ℕ) (tree nodes : List ℕ) (placed : List Bool) → Walked last count tree nodes placed
    → WalkDown last count tree nodes
walked_down last count tree nodes placed w = record {
  first = w.first;
  within = w.within;
  once = λ i j hi hj e.
      by_cases (dec_lt i j) (λ l. absurd (w.once i j l hj e)) λ l.
      by_cases (dec_lt j i) (λ l'. absurd (w.once j i l' hi (sym e))) (λ l'. omega arith);
  behind = w.behind;
  rest = w.rest;
}

-- at the start of a walk nothing stands in it
unmarked : (v : ℕ) → stands (replicate 127 false) v ≡ false
unfolding stands
unmarked v = same_everywhere 127 v false

-- and no place of its list holds a node
empty : (i : ℕ) → node_at (replicate 127 0) i ≡ 0
unfolding node_at
empty i = same_everywhere 127 i 0

-- the walk with node 1 alone
pub walked_start : (last : ℕ) (tree : List ℕ) → 1 ≤ last
    → Walked last 1 tree (set (replicate 127 0) 0 1) (set (replicate 127 false) 1 true)
walked_start last tree least = record {
  some = omega arith;
  first = first;
  within = λ i h. let same : i ≡ 0 = omega arith in rw (same, first) (omega arith, least);
  marked = λ i h. let same : i ≡ 0 = omega arith in rw (same, first) (stands_new (replicate 127 false) 1 (omega arith));
  found = λ v t.
      by_cases
      (ℕ_discrete v 1)
      (λ e. (0, omega arith, first ∙ sym e))
      (λ ne. absurd (false≢true (sym (other v ne) ∙ t)));
  once = λ i j l h. absurd (omega arith);
  behind = λ i l h. absurd (omega arith);
  rest = λ i h. node_old (replicate 127 0) 0 1 i (λ e. omega arith) ∙ empty i;
  left = left;
}
  where
    first : node_at (set (replicate 127 0) 0 1) 0 ≡ 1
    first = node_new (replicate 127 0) 0 1 (omega arith)

    other : (v : ℕ) → v ≢ 1 → stands (set (replicate 127 false) 1 true) v ≡ false
    other v ne = stands_old (replicate 127 false) 1 v ne ∙ unmarked v

    left : outside last (set (replicate 127 false) 1 true) + 1 ≡ last
    left =
        let all =
        keep_all (λ v. not (stands (set (replicate 127 false) 1 true) v)) (numbers 2 (last - 1)) λ v m.
        ap not (other v (λ e. omega (arith, numbers-within 2 (last - 1) v m))) in
        omega (arith, ap length all, length-numbers 2 (last - 1))

-- in a branching going up from each node reaches node 1
pub branching-rooted : (n : ℕ) (tree : List ℕ) → branching n tree ≡ true → Rooted (last_node n) tree
unfolding last_node
branching-rooted n tree e = record { above = above; reaches = reaches }
  where
    several : (v : ℕ) → 2 ≤ v → v ≤ last_node n → (2 ≤ n) × (v ≤ 2 * n - 2)
    several v l h = omega arith

    is : 2 ≤ n → Branching n tree
    is two = (branching_iff tree n (omega arith)).0 e

    above : (v : ℕ) → 2 ≤ v → v ≤ last_node n → (1 ≤ ancestor tree v) × (ancestor tree v ≤ last_node n)
    above v l h =
        let b = several v l h in
        let most = growing_ancestor_le n tree (is b.0) v in
        (branching_nodes n tree (is b.0) v l b.1, omega arith)

    reaches : (v : ℕ) → 2 ≤ v → v ≤ last_node n → ReachesRoot tree v
    reaches v l h = let b = several v l h in branching_reaches n tree b.0 (is b.0) v l b.1

-- a walk over a branching of n taxa: a walk of its nodes down it, in which each of them stands
pub record WalkOf (n : ℕ) (tree nodes : List ℕ) : Type 0 where
  pub down : WalkDown (last_node n) (last_node n) tree nodes
  pub each : (v : ℕ) → 1 ≤ v → v ≤ last_node n → (i : ℕ) × (i < last_node n) × (node_at nodes i ≡ v)

-- each place of a walk holds a node that has an entry in a tree, or 0
pub node_most : (n count : ℕ) (tree nodes : List ℕ) → WalkDown (last_entry n) count tree nodes → (i : ℕ) → node_at nodes i ≤ 126
node_most n count tree nodes w i =
    by_cases (dec_lt i count) (λ l. omega (arith, w.within i l)) (λ h. omega (arith, w.rest i (omega arith)))

-- in a walk, over a branching or not, each descendant of a node stands behind it
pub walk_later : (last count : ℕ) (tree nodes : List ℕ) → WalkDown last count tree nodes → (i j : ℕ) → i < count → j < count
    → node_at nodes j ≢ 1 → ancestor tree (node_at nodes j) ≡ node_at nodes i → i < j
walk_later last count tree nodes w i j hi hj other e =
    by_cases
    (dec_le 1 j)
    (λ l.
    let b = w.behind j l hj in
    let same = w.once b.0 i (omega arith) hi (b.2 ∙ e) in
    omega arith)
    (λ l. let same : j ≡ 0 = omega arith in absurd (other (ap (node_at nodes) same ∙ w.first)))

-- a list of nodes that have a place in a tree stays one with one more of them
pub within-set : (nodes : List ℕ) (k v : ℕ) → k < length nodes → v ≤ 126 → ((i : ℕ) → node_at nodes i ≤ 126)
    → (i : ℕ) → node_at (set nodes k v) i ≤ 126
within-set nodes k v h most all i =
    by_cases (ℕ_discrete i k) (λ e. rw (e, node_new nodes k v h) most) (λ ne. rw (node_old nodes k v i ne) (all i))

-- the list with node 1 alone is one
pub entries-start : (i : ℕ) → node_at (set (replicate 127 0) 0 1) i ≤ 126
entries-start = within-set (replicate 127 0) 0 1 (omega arith) (omega arith) (λ i. rw (empty i) (omega arith))

-- a walk behind which a node is put
pub put_some : (last count : ℕ) (nodes : List ℕ) (v r : ℕ) (after : List ℕ) → last ≤ 126 → length nodes ≡ 127 → 1 ≤ v → count < last
    → r ≡ count + 1 → after ≡ set nodes count v → NodePut last count nodes v r after
put_some last count nodes v r after room size low less is put = record {
  most = λ h. omega arith;
  least = omega arith;
  none = λ z. absurd (omega arith);
  some = λ l h. (is, put);
  size = rw put (length-set nodes count v);
  kept = λ k h. rw put (node_old nodes count v k (λ e. omega arith));
  within = λ most all k. rw put (within-set nodes count v (omega arith) most all k);
}
