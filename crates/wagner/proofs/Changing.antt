-- What a placement changes of the intervals that the taxa not yet placed may be hung on.
use mathlib.Core.Path.{◌≡◌, sym, ap, ap₂, ◌∙◌}
use mathlib.Core.Logic.{◌≢◌, ◌⊎◌, inl, inr, ⊎_elim, by_cases}
use mathlib.Core.List.{List, Memᴰ}
use Prim.Native.Nat.{ℕ, ◌+◌, ◌*◌, ◌-◌, ◌≤◌, ◌<◌}
use native.Mathlib.Omega.{arith}
use native.Mathlib.Decide.{ℕ_discrete}
use lib.IntN.{ℤ}
use lib.ListN.{length}
use Rattle.matrix_form.specs.Shape.{row, MatrixLists}
use Rattle.difference_form.specs.Rows.{difference, node_difference}
use Rattle.tree_form.specs.Ancestors.{ancestor}
use Rattle.tree_form.specs.Nodes.{Unplaced, last_row}
use Rattle.tree_form.specs.Facts.{Grown, GrowingTree, alone, several}
use Rattle.tree_form.specs.Hanging.{next_htu, linked, hung}
use Rattle.tree_form.specs.Placing.{AfterPlacing, nearest_interval, link_first, hang, from_interval}
use Rattle.branching.specs.Calls.{place_in, matrix_placed}
use Rattle.tree_form.proofs.InMatrix.{ends_within}
use Rattle.tree_form.proofs.Nodes.{nodes_in_node, node_nodes_in}
use Rattle.tree_form.proofs.BranchSums.{Joint, hung-taxon, hung-lower, hung-other}
use Rattle.tree_form.proofs.Hanging.{hung_joint, htu_out}
use Rattle.tree_form.proofs.Linking.{linked-taxon, linked-other}
use Rattle.tree_form.proofs.Placing.{place-first, place-later, nearest_in, nearest_node}
use Rattle.branching.proofs.Standing.{Standing, last_is, placed-other}
use Rattle.wagner.specs.Closeness.{intervals, AllChanged}

-- taxon b placed on a growing tree that stands in a matrix
module _ (lists : MatrixLists) (n m k : ℕ) (tree : List ℕ) (s : Standing lists n m k tree) (b : ℕ)
    (u : Unplaced n tree b) where
  -- what comes out of it, and the matrix then
  abbrev ours : AfterPlacing
  ours = place_in lists n m tree b

  abbrev now : List ℤ
  now = matrix_placed lists n m tree b

  -- there is a place for every node
  room : 2 * n - 2 < length tree
  room = omega (arith, s.sized, s.matrix.taxa)

  -- the row of a node that had one is as before
  row_stays : (v : ℕ) → 1 ≤ v → v ≤ last_row n tree → row now m v ≡ row lists.codes m v
  row_stays = placed-other lists n m k tree s b u

  -- and so is the advancement of a taxon
  advancement_stays : (v : ℕ) → 1 ≤ v → v ≤ n → node_difference (difference lists.weights) (row now m) v 1
      ≡ node_difference (difference lists.weights) (row lists.codes m) v 1
  unfolding node_difference
  advancement_stays v low high =
      ap₂ (difference lists.weights) (row_stays v low (omega (arith, last_is lists n m k tree s)))
      (row_stays 1 (omega arith) (omega (arith, last_is lists n m k tree s)))

  -- the first link
  module _ (none : (v : ℕ) → ancestor tree v ≡ 0) where
    -- b is linked to row 1
    is-linked : ours ≡ link_first (difference lists.weights) (row lists.codes m) tree b
    unfolding place_in
    is-linked = place-first (difference lists.weights) n tree (row lists.codes m) b none

    -- b is the lower end of one now
    one-interval : Memᴰ b (intervals n (linked tree b))
    one-interval =
        nodes_in_node (linked tree b) n b u.other (omega (arith, u.other, u.taxon))
        (inr (omega (arith, linked-taxon n tree none room b u)))

    -- and of no other
    only-interval : (e : ℕ) → Memᴰ e (intervals n (linked tree b)) → e ≡ b
    only-interval e mem =
        by_cases (ℕ_discrete e b) (λ is. is)
        (λ ne. absurd (omega (arith, (node_nodes_in (linked tree b) n e mem).2, linked-other n tree none room b u e ne)))

    -- what the first link changes
    changed_first : AllChanged lists now n m tree ours.tree ours.placement
    unfolding link_first
    changed_first v free = record {
      unplaced = free;
      before = record { other = free.other; taxon = free.taxon; free = none v };
      advancement = advancement_stays v (omega (arith, free.other)) free.taxon;
      some_interval = rw is-linked one-interval;
      each = λ e mem. inl (inl (rw is-linked (only-interval e (rw is-linked at mem))));
    }

  -- a hanging
  module _ (g : Grown n k tree) where
    -- the lower end of its interval, and the new HTU
    abbrev c : ℕ
    c = nearest_interval (difference lists.weights) (row lists.codes m) n tree b

    abbrev y : ℕ
    y = n + k - 1

    -- the tree with b hung through it
    abbrev new : List ℕ
    new = hung tree b c y

    -- c is in the tree
    inside : 1 ≤ ancestor tree c
    inside = (nearest_node (difference lists.weights) n tree (row lists.codes m) b k g).1

    -- b, c and y are three of its entries
    joint : Joint n tree b c y
    joint = hung_joint n k tree g room b c u inside

    -- b is hung so
    is-hung : ours ≡ hang (difference lists.weights) (row lists.codes m) n tree b c
    unfolding place_in
    is-hung = place-later (difference lists.weights) n tree (row lists.codes m) b k g

    -- a node with an immediate ancestor in the new tree
    interval_new : (e : ℕ) → 2 ≤ e → e ≤ 2 * n - 2 → 1 ≤ ancestor new e → Memᴰ e (intervals n new)
    interval_new e low high a = nodes_in_node new n e low high (inr a)

    -- an interval now is that of b, that of y, or an earlier one
    interval-only : (e : ℕ) → Memᴰ e (intervals n new) → (e ≡ b) ⊎ ((e ≡ y) ⊎ Memᴰ e (intervals n tree))
    interval-only e mem =
        let w = node_nodes_in new n e mem in
        by_cases (ℕ_discrete e b) inl (λ nb. inr
        (by_cases (ℕ_discrete e y) inl (λ ny. inr
        (by_cases (ℕ_discrete e c)
        (λ is. rw is (nearest_in (difference lists.weights) n tree (row lists.codes m) b k g))
        (λ nc. nodes_in_node tree n e w.0 w.1 (inr (rw (hung-other n tree b c y joint e nb nc ny) at w.2)))))))

    -- the immediate ancestor of a node of the tree has a row
    upper-row : (e : ℕ) → 1 ≤ ancestor tree e → ancestor tree e ≤ last_row n tree
    upper-row e a = (ends_within n k tree g e a).2

    -- from an earlier interval, other than that of c, a taxon is as far as before
    interval-same : (v : ℕ) → 1 ≤ v → v ≤ n → (e : ℕ) → Memᴰ e (intervals n tree) → e ≢ c
        → from_interval (difference lists.weights) (row now m) new v e
        ≡ from_interval (difference lists.weights) (row lists.codes m) tree v e
    unfolding from_interval
    interval-same v low high e mem nc =
        let w = node_nodes_in tree n e mem in
        let within = g.nodes_only e w.2 in
        let above : ancestor new e ≡ ancestor tree e =
        hung-other n tree b c y joint e (λ is. omega (arith, ap (ancestor tree) is, u.free, w.2)) nc
        (λ is. omega (arith, ap (ancestor tree) is, htu_out n k tree g room b c u inside, w.2)) in
        let own = row_stays v low (omega (arith, last_is lists n m k tree s)) in
        let lower = row_stays e (omega (arith, w.0)) (omega (arith, within.1, last_is lists n m k tree s, g.at_least_two)) in
        let upper = row_stays (ancestor tree e) w.2 (upper-row e w.2) in
        rw (above, own, lower, upper)

    -- the new HTU
    is-htu : next_htu n tree ≡ y
    unfolding next_htu
    is-htu = ap (λ (placed : ℕ). n + placed - 1) g.placed

    -- a taxon that is not placed now was not placed before
    free-before : (v : ℕ) → Unplaced n new v → Unplaced n tree v
    free-before v free = record {
      other = free.other;
      taxon = free.taxon;
      free =
          sym (hung-other n tree b c y joint v
          (λ is. omega (arith, ap (ancestor new) is, hung-taxon n tree b c y joint, free.free, g.at_least_two))
          (λ is. omega (arith, ap (ancestor new) is, hung-lower n tree b c y joint, free.free, g.at_least_two))
          (λ is. omega (arith, free.taxon, g.at_least_two)))
          ∙ free.free;
    }

    -- b is the lower end of an interval now
    taxon-interval : Memᴰ b (intervals n new)
    taxon-interval = interval_new b joint.taxon.1 joint.taxon.2 (omega (arith, hung-taxon n tree b c y joint, g.at_least_two))

    -- an interval belongs to the placement, or is an earlier one from which a taxon is as far as before
    interval-each : (v : ℕ) → 1 ≤ v → v ≤ n → (e : ℕ) → Memᴰ e (intervals n new)
        → ((e ≡ b) ⊎ ((e ≡ y) ⊎ (e ≡ c))) ⊎ (Memᴰ e (intervals n tree)
        × (from_interval (difference lists.weights) (row now m) new v e
        ≡ from_interval (difference lists.weights) (row lists.codes m) tree v e))
    interval-each v low high e mem =
        ⊎_elim (λ is. inl (inl is))
        (λ rest. ⊎_elim (λ is. inl (inr (inl is)))
        (λ was. by_cases (ℕ_discrete e c) (λ is. inl (inr (inr is))) (λ nc. inr (was, interval-same v low high e was nc)))
        rest)
        (interval-only e mem)

    -- what a hanging changes
    changed_later : AllChanged lists now n m tree ours.tree ours.placement
    unfolding hang
    changed_later v free =
        let grown : ours.tree ≡ new = ap (λ (after : AfterPlacing). after.tree) is-hung ∙ ap (hung tree b c) is-htu in
        let here : Unplaced n new v = rw grown at free in
        let low : 1 ≤ v = omega (arith, free.other) in
        let lower : ours.placement.lower ≡ c = ap (λ (after : AfterPlacing). after.placement.lower) is-hung in
        let taxon : ours.placement.taxon ≡ b = ap (λ (after : AfterPlacing). after.placement.taxon) is-hung in
        let htu : ours.placement.htu ≡ y = ap (λ (after : AfterPlacing). after.placement.htu) is-hung ∙ is-htu in
        record {
          unplaced = free;
          before = free-before v here;
          advancement = advancement_stays v low free.taxon;
          some_interval = rw (grown, taxon) taxon-interval;
          each = rw (grown, taxon, lower, htu) (interval-each v low free.taxon);
        }

  -- every placement
  pub placed_changed : AllChanged lists now n m tree ours.tree ours.placement
  placed_changed = go s.growing changed_first changed_later
    where
      go : {j : ℕ} {A : Type 0} → GrowingTree n tree j → (((v : ℕ) → ancestor tree v ≡ 0) → A) → (Grown n j tree → A) → A
      go (alone none) one more = one none
      go (several g) one more = more g
