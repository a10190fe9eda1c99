-- The walk from node 1 down takes the descendants of its nodes, one node after the other: of a branching it so takes every node, and each
-- once.
use mathlib.Core.Path.{◌≡◌, refl, sym, ap, ◌∙◌}
use mathlib.Core.Logic.{◌≢◌, ◌⊎◌, inl, inr, ⊎_elim, by_cases}
use mathlib.Core.List.{List, [], ◌∷◌, Memᴰ}
use mathlib.Core.Bool.{Bool, true, false, cond, false≢true}
use Prim.Native.Nat.{ℕ, zero, suc, ◌+◌, ◌*◌, ◌-◌, ◌≤◌, ◌<◌}
use native.Mathlib.Omega.{arith}
use native.Mathlib.Decide.{dec_le, dec_lt, ℕ_discrete}
use lib.Dec.{leb, eqb}
use lib.ListN.{length, set, replicate, length-set}
use borrow.Author.Tests.{leb-true}
use Rattle.lists.specs.Filters.{keep}
use Rattle.lists.specs.Numbers.{numbers}
use Rattle.lists.proofs.Both.{and_left, and_right}
use Rattle.lists.proofs.Keep.{keep-mem}
use Rattle.lists.proofs.Numbers.{numbers-within, numbers-among}
use Rattle.matrix_form.specs.Shape.{last_node}
use Rattle.tree_walk.specs.declared.walk.Below.{Below}
use Rattle.tree_form.specs.Ancestors.{ancestor, descendants}
use Rattle.tree_form.specs.Nodes.{other_nodes}
use Rattle.tree_form.specs.Growing.{branching, descendant_count}
use Rattle.tree_form.specs.Facts.{Branching}
use Rattle.tree_form.specs.Within.{branching_within}
use Rattle.tree_walk.specs.Walks.{Walk, node_at, Walking, last_entry, first_two, below_at, Belows}
use Rattle.tree_walk.specs.Steps.{NodePut}
use Rattle.tree_form.proofs.Descendants.{mem-descendants}
use Rattle.tree_form.proofs.Test.{branching_iff}
use Rattle.tree_form.proofs.Whole.{branching-root, branching-taxon, branching-htu}
use Rattle.tree_walk.proofs.Walks.{
  stands,
  mark,
  Rooted,
  Walked,
  WalkOf,
  stands_new,
  stands_old,
  still,
  grows,
  walked_start,
  walked_whole,
  walked_less,
  walked_down,
  all_found,
  branching-rooted,
}

-- w is none, 0, or one of the nodes 2 to `last` with v as its immediate ancestor
abbrev pub From : ℕ → List ℕ → ℕ → ℕ → Type 0
From last tree v w = 1 ≤ w → (2 ≤ w) × (w ≤ last) × (ancestor tree w ≡ v)

-- the descendants kept of nodes 1 to `last` are two different nodes, one or none
pub record Pairs (last : ℕ) (tree : List ℕ) (below : List Below) : Type 0 where
  pub first : (v : ℕ) → 1 ≤ v → v ≤ last → From last tree v (below_at below v).first
  pub second : (v : ℕ) → 1 ≤ v → v ≤ last → From last tree v (below_at below v).second
  pub apart : (v : ℕ) → 1 ≤ v → v ≤ last → 1 ≤ (below_at below v).second → (below_at below v).first ≢ (below_at below v).second

-- each of the nodes 2 to `last` is among those kept of its immediate ancestor
abbrev pub AllKept : ℕ → List ℕ → List Below → Type 0
AllKept last tree below = (u : ℕ) → 2 ≤ u → u ≤ last
    → (u ≡ (below_at below (ancestor tree u)).first) ⊎ (u ≡ (below_at below (ancestor tree u)).second)

-- the walk as far as it has grown, with the descendants kept of its first i nodes, and no others
pub record Along (last i count : ℕ) (tree : List ℕ) (below : List Below) (nodes : List ℕ) : Type 0 where
  pub placed : List Bool
  pub marks : length placed ≡ 127
  pub walked : Walked last count tree nodes placed
  pub all : AllKept last tree below → (k u : ℕ) → k < i → 2 ≤ u → u ≤ last → ancestor tree u ≡ node_at nodes k → stands placed u ≡ true
  pub only : (u : ℕ) → 2 ≤ u → stands placed u ≡ true → (k : ℕ) × (k < i) × (node_at nodes k ≡ ancestor tree u)

-- the walk with w taken behind its nodes, as far as w is a node: it then has r nodes
record Taken (last r : ℕ) (tree after : List ℕ) (placed : List Bool) (w : ℕ) : Type 0 where
  now : List Bool
  marks : length now ≡ 127
  walked : Walked last r tree after now
  held : 1 ≤ w → stands now w ≡ true
  before : (u : ℕ) → stands placed u ≡ true → stands now u ≡ true
  back : (u : ℕ) → stands now u ≡ true → (stands placed u ≡ true) ⊎ ((1 ≤ w) × (u ≡ w))

module _ (last count : ℕ) (tree nodes : List ℕ) (placed : List Bool) (most : last ≤ 126) (sized : length nodes ≡ 127)
    (marks : length placed ≡ 127) (w : Walked last count tree nodes placed) where
  -- with none taken the walk stays as it is
  none_taken : Taken last count tree nodes placed 0
  none_taken = record {
    now = placed;
    marks = marks;
    walked = w;
    held = λ h. absurd (omega arith);
    before = λ u t. t;
    back = λ u t. inl t;
  }

  -- with a node taken whose immediate ancestor stands it has grown by one
  some_taken : (v u : ℕ) → 2 ≤ u → u ≤ last → ancestor tree u ≡ v → stands placed v ≡ true → stands placed u ≡ false
      → Taken last (count + 1) tree (set nodes count u) placed u
  some_taken v u low high up above free =
      let more = walked_less last count tree nodes placed w u low high free in
      record {
        now = set placed u true;
        marks = simp length-set marks;
        walked = grows last count tree nodes placed most sized marks w more u low high free (rw up above);
        held = λ h. stands_new placed u (omega arith);
        before = still last count tree nodes placed most sized marks w more u low high free;
        back = λ x t.
            by_cases (ℕ_discrete x u) (λ e. inr (omega arith, e)) (λ ne. inl (sym (stands_old placed u x ne) ∙ t));
      }

  -- one of the two
  taken : (v u r : ℕ) (after : List ℕ) → From last tree v u → stands placed v ≡ true → (1 ≤ u → stands placed u ≡ false)
      → NodePut last count nodes u r after → Taken last r tree after placed u
  taken v u r after from above free put =
      by_cases
      (dec_le 1 u)
      (λ h.
      let f = from h in
      let more = walked_less last count tree nodes placed w u f.0 f.1 (free h) in
      let one = put.some h more in
      rw (one.0, one.1) (some_taken v u f.0 f.1 f.2 above (free h)))
      (λ h.
      let z : u ≡ 0 = omega arith in
      let same = put.none z in
      rw (same.0, same.1, z) none_taken)

-- with the descendants of node i taken, all descendants of one node more stand in the walk
module _ (last i count : ℕ) (tree nodes : List ℕ) (below : List Below) (most : last ≤ 126) (sized : length nodes ≡ 127)
    (inside : i < count) (high : count ≤ last) (pairs : Pairs last tree below) (along : Along last i count tree below nodes) where
  -- node i stands
  here : stands along.placed (node_at nodes i) ≡ true
  here = along.walked.marked i inside

  -- it is one of the nodes 1 to `last`
  node : (1 ≤ node_at nodes i) × (node_at nodes i ≤ last)
  node = along.walked.within i inside

  -- none of its descendants stands yet
  fresh : (u : ℕ) → From last tree (node_at nodes i) u → 1 ≤ u → stands along.placed u ≡ false
  fresh u from h = ⊎_elim (λ t. absurd (earlier t)) (λ f. f) (mark along.placed u)
    where
      earlier : stands along.placed u ≡ true → ⊥
      earlier t =
          let f = from h in
          let o = along.only u f.0 t in
          along.walked.once o.0 i o.1 inside (o.2 ∙ f.2)

  module _ (a b r s : ℕ) (first second : List ℕ) (size : length first ≡ 127)
      (is_first : a ≡ (below_at below (node_at nodes i)).first)
      (is_second : b ≡ (below_at below (node_at nodes i)).second) (one : NodePut last count nodes a r first)
      (two : NodePut last r first b s second) where
    -- where the first comes from
    from_first : From last tree (node_at nodes i) a
    from_first = rw is_first (pairs.first (node_at nodes i) node.0 node.1)

    -- and the second
    from_second : From last tree (node_at nodes i) b
    from_second = rw is_second (pairs.second (node_at nodes i) node.0 node.1)

    -- the first is taken
    take_first : Taken last r tree first along.placed a
    take_first =
        taken last count tree nodes along.placed most sized along.marks along.walked (node_at nodes i) a r first from_first here
        (fresh a from_first) one

    -- after it the second does not stand yet
    fresh_second : 1 ≤ b → stands take_first.now b ≡ false
    fresh_second h = ⊎_elim (λ t. absurd (⊎_elim early same (take_first.back b t))) (λ f. f) (mark take_first.now b)
      where
        early : stands along.placed b ≡ true → ⊥
        early t = false≢true (sym (fresh b from_second h) ∙ t)

        same : (1 ≤ a) × (b ≡ a) → ⊥
        same e = pairs.apart (node_at nodes i) node.0 node.1 (rw is_second at h) (sym is_first ∙ sym e.1 ∙ is_second)

    -- the second is taken
    take_second : Taken last s tree second take_first.now b
    take_second =
        taken last r tree first take_first.now most size take_first.marks take_first.walked (node_at nodes i) b s second from_second
        (take_first.before (node_at nodes i) here) fresh_second two

    -- the nodes up to node i keep their indices
    kept : (k : ℕ) → k < count → node_at second k ≡ node_at nodes k
    kept k h = let least = one.least in two.kept k (omega arith) ∙ one.kept k h

    -- and all descendants of the first i + 1 nodes stand, and no others
    pub along_next : Along last (i + 1) s tree below second
    along_next = record {
      placed = take_second.now;
      marks = take_second.marks;
      walked = take_second.walked;
      all = all;
      only = only;
    }
      where
        own : AllKept last tree below → (u : ℕ) → 2 ≤ u → u ≤ last → ancestor tree u ≡ node_at nodes i → stands take_second.now u ≡ true
        own every u l h e =
            ⊎_elim
            (λ p.
            let is : u ≡ a = p ∙ ap (λ (v : ℕ). (below_at below v).first) e ∙ sym is_first in
            rw is (take_second.before a (take_first.held (omega arith))))
            (λ p.
            let is : u ≡ b = p ∙ ap (λ (v : ℕ). (below_at below v).second) e ∙ sym is_second in
            rw is (take_second.held (omega arith)))
            (every u l h)

        all : AllKept last tree below → (k u : ℕ) → k < i + 1 → 2 ≤ u → u ≤ last → ancestor tree u ≡ node_at second k
            → stands take_second.now u ≡ true
        all every k u less l h e =
            let up = e ∙ kept k (omega arith) in
            by_cases
            (dec_lt k i)
            (λ earlier. take_second.before u (take_first.before u (along.all every k u earlier l h up)))
            (λ late. let same : k ≡ i = omega arith in own every u l h (up ∙ ap (node_at nodes) same))

        from_node : (u : ℕ) → ancestor tree u ≡ node_at nodes i
            → (k : ℕ) × (k < i + 1) × (node_at second k ≡ ancestor tree u)
        from_node u e = (i, omega arith, kept i inside ∙ sym e)

        only : (u : ℕ) → 2 ≤ u → stands take_second.now u ≡ true
            → (k : ℕ) × (k < i + 1) × (node_at second k ≡ ancestor tree u)
        only u l t =
            ⊎_elim
            (λ t'.
            ⊎_elim
            (λ t''. let o = along.only u l t'' in let less = o.1 in (o.0, omega arith, kept o.0 (omega arith) ∙ o.2))
            (λ p. from_node u (ap (ancestor tree) p.1 ∙ (from_first p.0).2))
            (take_first.back u t'))
            (λ p. from_node u (ap (ancestor tree) p.1 ∙ (from_second p.0).2))
            (take_second.back u t)

-- the walk with node 1 alone, before the descendants of any node are taken
pub along_start : (last : ℕ) (tree : List ℕ) (below : List Below) → 1 ≤ last → Along last 0 1 tree below (set (replicate 127 0) 0 1)
along_start last tree below least = record {
  placed = set (replicate 127 false) 1 true;
  marks = refl;
  walked = walked_start last tree least;
  all = λ every k u h. absurd (omega arith);
  only = λ u l t.
      let at = (walked_start last tree least).found u t in
      let less = at.1 in
      let same : at.0 ≡ 0 = omega arith in
      let is = sym (ap (node_at (set (replicate 127 0) 0 1)) same) ∙ at.2 in
      let one = (walked_start last tree least).first in
      absurd (omega arith);
}

-- of a rooted tree the walk is at its end once the descendants of all its nodes stand in it
pub along_whole : (last count : ℕ) (tree : List ℕ) (below : List Below) (nodes : List ℕ) → Rooted last tree → AllKept last tree below
    → (along : Along last count count tree below nodes) → (count ≡ last) × Walked last last tree nodes along.placed
along_whole last count tree below nodes rooted every along =
    let is = walked_whole last count tree nodes along.placed rooted along.walked closed in
    (is, rw is at along.walked)
  where
    closed : (u : ℕ) → 2 ≤ u → u ≤ last → stands along.placed (ancestor tree u) ≡ true → stands along.placed u ≡ true
    closed u l h t =
        let at = along.walked.found (ancestor tree u) t in
        along.all every at.0 u at.1 l h (sym at.2)

-- what a test keeps of consecutive numbers rises
kept_rising : (test : ℕ → Bool) (first count x y : ℕ) (rest : List ℕ) → keep test (numbers first count) ≡ x ∷ y ∷ rest → x < y
unfolding keep numbers
kept_rising test first zero x y rest e = let z : ◌≡◌ {A = ℕ} 0 1 = cc in absurd (omega arith)
kept_rising test first (suc count) x y rest e = go (test first) e (kept_rising test (suc first) count x y rest)
  where
    go : (t : Bool) → cond t (first ∷ keep test (numbers (suc first) count)) (keep test (numbers (suc first) count)) ≡ x ∷ y ∷ rest
        → (keep test (numbers (suc first) count) ≡ x ∷ y ∷ rest → x < y) → x < y
    go true e f =
        let head : first ≡ x = cc in
        let tail : keep test (numbers (suc first) count) ≡ y ∷ rest = cc in
        let m : Memᴰ y (keep test (numbers (suc first) count)) = rw tail (mathlib.Core.List.Memᴰ.head refl) in
        omega (arith, numbers-within (suc first) count y (keep-mem test (numbers (suc first) count) y m).0)
    go false e f = f e

-- the first of two descendants is one of them
first-among : (us : List ℕ) → 1 ≤ (first_two us).first → Memᴰ (first_two us).first us
unfolding first_two
first-among [] h = absurd (omega arith)
first-among (a ∷ []) h = mathlib.Core.List.Memᴰ.head refl
first-among (a ∷ b ∷ rest) h = mathlib.Core.List.Memᴰ.head refl

-- so is the second
second_among : (us : List ℕ) → 1 ≤ (first_two us).second → Memᴰ (first_two us).second us
unfolding first_two
second_among [] h = absurd (omega arith)
second_among (a ∷ []) h = absurd (omega arith)
second_among (a ∷ b ∷ rest) h = mathlib.Core.List.Memᴰ.tail (mathlib.Core.List.Memᴰ.head refl)

-- of rising descendants it is another than the first
two_apart : (us : List ℕ) → ((x y : ℕ) (rest : List ℕ) → us ≡ x ∷ y ∷ rest → x < y) → 1 ≤ (first_two us).second
    → (first_two us).first ≢ (first_two us).second
unfolding first_two
two_apart [] rising h e = omega arith
two_apart (a ∷ []) rising h e = omega arith
two_apart (a ∷ b ∷ rest) rising h e = omega (arith, rising a b rest refl)

-- of at most two descendants each is the first or the second
one_of_two : (us : List ℕ) → length us ≤ 2 → (u : ℕ) → Memᴰ u us → (u ≡ (first_two us).first) ⊎ (u ≡ (first_two us).second)
unfolding first_two
one_of_two [] few u m = absurd (mathlib.Core.List.Memᴰ.not-nil m)
one_of_two (a ∷ []) few u m = ⊎_elim inl (λ r. absurd (mathlib.Core.List.Memᴰ.not-nil r)) (mathlib.Core.List.Memᴰ.cases_cons m)
one_of_two (a ∷ b ∷ []) few u m =
    ⊎_elim inl (λ r. inr (⊎_elim (λ e. e) (λ z. absurd (mathlib.Core.List.Memᴰ.not-nil z)) (mathlib.Core.List.Memᴰ.cases_cons r))) (mathlib.Core.List.Memᴰ.cases_cons m)
one_of_two (a ∷ b ∷ c ∷ rest) few u m = absurd (omega arith)

module _ (n : ℕ) (tree : List ℕ) (within : branching_within n tree ≡ true) where
  -- it has at most 64 taxa, and is a branching
  parts : (n ≤ 64) × (branching n tree ≡ true)
  unfolding branching_within
  parts = (leb-true n 64 (and_left (leb n 64) (branching n tree) within), and_right (leb n 64) (branching n tree) within)

  -- in a branching each node has at most two descendants
  few : (v : ℕ) → 1 ≤ v → v ≤ last_node n → length (descendants tree (other_nodes n) v) ≤ 2
  unfolding last_node descendant_count other_nodes
  few v l h = by_cases (dec_le 2 n) several (λ one. let z : 2 * n - 3 ≡ 0 = omega arith in rw z (nobody v))
    where
      nobody : (v : ℕ) → length (descendants tree (numbers 2 0) v) ≤ 2
      nobody v = unfold numbers descendants keep in omega arith

      several : 2 ≤ n → length (descendants tree (numbers 2 (2 * n - 3)) v) ≤ 2
      several two =
          let b : Branching n tree = (branching_iff tree n (omega arith)).0 parts.1 in
          by_cases (ℕ_discrete v 1) (λ e. rw e (omega (arith, branching-root n tree two b))) λ ne.
          by_cases
          (dec_le v n)
          (λ taxon. omega (arith, branching-taxon n tree two b v (omega arith) taxon))
          (λ htu. omega (arith, branching-htu n tree two b v (omega arith) (omega arith)))

  -- so that each node is among those kept of its immediate ancestor
  all_kept : (below : List Below) → Belows n tree below → AllKept (last_node n) tree below
  unfolding last_node
  all_kept below belows u l h =
      let a = (branching-rooted n tree parts.1).above u l h in
      let most = parts.0 in
      let is : below_at below (ancestor tree u) ≡ first_two (descendants tree (other_nodes n) (ancestor tree u)) =
      belows.are (ancestor tree u) a.0 (omega (arith, a.1)) in
      let m : Memᴰ u (descendants tree (other_nodes n) (ancestor tree u)) =
      unfold other_nodes in
      (mem-descendants tree (numbers 2 (2 * n - 3)) (ancestor tree u) u).1 (numbers-among 2 (2 * n - 3) u l (omega arith), refl) in
      rw is (one_of_two (descendants tree (other_nodes n) (ancestor tree u)) (few (ancestor tree u) a.0 a.1) u m)

-- the descendants kept of a tree, branching or not, are two different nodes, one or none
pairs_of : (n : ℕ) (tree : List ℕ) (below : List Below) → Belows n tree below → Pairs (last_entry n) tree below
unfolding last_node
pairs_of n tree below belows = record {
  first = λ v l h some. from v (below_at below v).first (belows.within v).0 ((among v l h).0 some);
  second = λ v l h some. from v (below_at below v).second (belows.within v).1 ((among v l h).1 some);
  apart = λ v l h some. rw (is v l h) (two_apart (descendants tree (other_nodes n) v) (rising v) (rw (is v l h) at some));
}
  where
    is : (v : ℕ) → 1 ≤ v → v ≤ last_entry n → below_at below v ≡ first_two (descendants tree (other_nodes n) v)
    is v l h = belows.are v l (omega arith)

    among : (v : ℕ) → 1 ≤ v → v ≤ last_entry n
        → (1 ≤ (below_at below v).first → Memᴰ (below_at below v).first (descendants tree (other_nodes n) v))
        × (1 ≤ (below_at below v).second → Memᴰ (below_at below v).second (descendants tree (other_nodes n) v))
    among v l h = rw (is v l h) (first-among (descendants tree (other_nodes n) v), second_among (descendants tree (other_nodes n) v))

    from : (v w : ℕ) → w ≤ 126 → Memᴰ w (descendants tree (other_nodes n) v) → (2 ≤ w) × (w ≤ last_entry n) × (ancestor tree w ≡ v)
    from v w most m = unfold other_nodes in
        let d = (mem-descendants tree (numbers 2 (2 * n - 3)) v w).0 m in
        let r = numbers-within 2 (2 * n - 3) w d.0 in
        (r.0, omega arith, d.1)

    rising : (v x y : ℕ) (rest : List ℕ) → descendants tree (other_nodes n) v ≡ x ∷ y ∷ rest → x < y
    rising v x y rest e = unfold descendants other_nodes in kept_rising (λ u. eqb (ancestor tree u) v) 2 (2 * n - 3) x y rest e

-- what is handed back of every tree, from what is known where the walk ends
pub walking : (n last : ℕ) (tree : List ℕ) (below : List Below) (walk : Walk) → last ≡ last_entry n → walk.count ≤ last
    → Belows n tree below → (Pairs last tree below → Along last walk.count walk.count tree below walk.items) → Walking n tree walk
unfolding last_node
walking n last tree below walk is most belows along = record {
  most = rw is at most;
  down = walked_down (last_entry n) walk.count tree walk.items end.placed end.walked;
  count = λ e. (whole e).0;
  each = λ e. all_found (last_node n) tree walk.items _ (whole e).1;
}
  where
    end : Along (last_entry n) walk.count walk.count tree below walk.items
    end = (rw is at along) (pairs_of n tree below belows)

    plain : branching_within n tree ≡ true → last_entry n ≡ last_node n
    plain e = let h = (parts n tree e).0 in omega arith

    own : branching_within n tree ≡ true → Along (last_node n) walk.count walk.count tree below walk.items
    own e = rw (plain e) at end

    whole : (e : branching_within n tree ≡ true)
        → (walk.count ≡ last_node n) × Walked (last_node n) (last_node n) tree walk.items (own e).placed
    whole e =
        along_whole (last_node n) walk.count tree below walk.items (branching-rooted n tree (parts n tree e).1)
        (all_kept n tree e below belows) (own e)

-- what is handed back of a branching is a walk over it
pub walk_of : (n : ℕ) (tree : List ℕ) (walk : Walk) → Walking n tree walk → branching_within n tree ≡ true → WalkOf n tree walk.items
unfolding last_node
walk_of n tree walk walking branches =
    let few = (parts n tree branches).0 in
    let last : last_entry n ≡ last_node n = omega arith in
    record { down = rw (last, walking.count branches) at walking.down; each = walking.each branches }
