-- By advancement the Wagner tree's placements are in the order of rising advancement, the lower row first among equals.
use mathlib.Core.Path.{◌≡◌, refl, sym, ap, ap₂, ◌∙◌}
use mathlib.Core.Logic.{◌≢◌, by_cases}
use mathlib.Core.Bool.{Bool, true, false, not, cond, ◌&&◌, ◌||◌}
use mathlib.Core.List.Memᴰ
use mathlib.Core.List.{List, [], ◌∷◌, ◌++◌, map, Memᴰ}
use Prim.Native.Nat.{ℕ, zero, suc, ◌+◌, ◌-◌, ◌≤◌, ◌<◌}
use native.Mathlib.Nat.{le_trans, zero-add}
use native.Mathlib.Decide.{ℕ_discrete}
use native.Mathlib.Omega.{arith}
use borrow.Author.Tests.{eq-eqb, ne_eqb}
use lib.Dec.{eqb}
use lib.IntN.{ℤ}
use lib.ListN.{length}
use Rattle.lists.specs.Filters.{keep, without}
use Rattle.lists.specs.Least.{least_of}
use Rattle.lists.specs.Numbers.{numbers}
use Rattle.lists.specs.Tests.{among}
use Rattle.lists.proofs.Keep.{keep-mem, keep-split, keep_all, keep_twice}
use Rattle.lists.proofs.Least.{least_of-mem, least_of_le, least_of_congr}
use Rattle.lists.proofs.Numbers.{length-numbers, numbers-within}
use Rattle.matrix_form.specs.NodeRows.{row_of}
use Rattle.difference_form.specs.Rows.{difference, node_difference}
use Rattle.tree_form.specs.declared.placement.Placement.{Placement}
use Rattle.tree_form.specs.Nodes.{in_tree, nodes_in, nodes_out, taxa_placed, Unplaced}
use Rattle.tree_form.specs.Facts.{alone}
use Rattle.tree_form.specs.Hanging.{only_row_one}
use Rattle.tree_form.specs.Placing.{AfterPlacing, place}
use Rattle.tree_form.proofs.Nodes.{only_row_one-none, only_row_one-size, false-in_tree}
use Rattle.tree_form.proofs.Counts.{some-unplaced}
use Rattle.tree_form.proofs.Test.{growing-placed}
use Rattle.tree_form.proofs.Placing.{place-only, place_in, place-taxon}
use Rattle.tree_form.proofs.RowLengths.{OfLength, Growth}
use Rattle.tree_form.proofs.Rival.{difference_laws}
use Rattle.tree_form.specs.declared.order.Order.TheVariants.{Advance}
use Rattle.wagner_form.specs.Next.{advancement, by_advancement, next_by}
use Rattle.wagner_form.specs.Build.{build_on, build, wagner}
use Rattle.wagner_form.specs.Rising.{InOrder, all_placed, placed_next, Rising, none, one, more}
use Rattle.wagner_form.proofs.Whole.{order_chooses}
use Rattle.wagner_form.proofs.BuildLength.{place_growth, place-rows}

-- taxa in order have rising keys
pub order_rises : (key : ℕ → ℕ) {us vs : List ℕ} → InOrder key us vs → Rising key vs
unfolding without
order_rises key all_placed = none
order_rises key (placed_next {us = us} v mem least rest) = behind rest refl (order_rises key rest)
  where
    behind : {ws vs : List ℕ} → InOrder key ws vs → ws ≡ without (v ∷ []) us → Rising key vs → Rising key (v ∷ vs)
    behind all_placed e r = one v
    behind (placed_next w later first further) e r =
        let kept = (keep-mem (λ u. not (among u (v ∷ []))) us w (rw e at later)).0 in
        more v w (rw (ap key least) (least_of_le key us w kept)) r

-- keys that fall do not rise
never_falls : Rising (λ v. v) (2 ∷ 1 ∷ []) → ⊥
never_falls (more u v le rest) = omega (arith, le)

module _ {key : ℕ → ℕ} where
  -- of rising keys, none behind the first is less
  first_rises : {v : ℕ} {vs : List ℕ} → Rising key (v ∷ vs) → (w : ℕ) → Memᴰ w vs → key v ≤ key w
  first_rises (one v) w mem = absurd (Memᴰ.not-nil mem)
  first_rises (more u v le rest) w (Memᴰ.head e) = rw e le
  first_rises (more u v le rest) w (Memᴰ.tail mem) = le_trans le (first_rises rest w mem)

  -- keys that rise along a list rise behind its first element
  behind_rises : {v : ℕ} {vs : List ℕ} → Rising key (v ∷ vs) → Rising key vs
  behind_rises (one v) = none
  behind_rises (more u v le rest) = rest

  -- so none behind any element is less
  pub later_rises : (before : List ℕ) {v : ℕ} {after : List ℕ} → Rising key (before ++ v ∷ after) → (w : ℕ) → Memᴰ w after → key v ≤ key w
  later_rises [] r = first_rises r
  later_rises (u ∷ before) r = later_rises before (behind_rises r)

-- the taxa of placements
abbrev pub taxa_of : List Placement → List ℕ
taxa_of placements = map (λ (p : Placement). p.taxon) placements

-- if all taxa are placed, none is left
none_left : (n : ℕ) (tree : List ℕ) → taxa_placed n tree ≡ n → nodes_out tree (numbers 1 n) ≡ []
unfolding taxa_placed nodes_in nodes_out
none_left n tree all =
    go (keep (λ v. not (in_tree tree v)) (numbers 1 n)) (omega (arith, keep-split (in_tree tree) (numbers 1 n), length-numbers 1 n))
  where
    go : (us : List ℕ) → length us ≡ 0 → us ≡ []
    go [] e = refl
    go (u ∷ us) e = absurd (omega arith)

-- one placed, the others are left
one_less : (n : ℕ) (tree new : List ℕ) (b : ℕ) → in_tree new b ≡ true → ((v : ℕ) → v ≤ n → v ≢ b → in_tree new v ≡ in_tree tree v)
    → without (b ∷ []) (nodes_out tree (numbers 1 n)) ≡ nodes_out new (numbers 1 n)
unfolding without nodes_out among
one_less n tree new b inside same =
    keep_twice (λ v. not (eqb v b || false)) (λ v. not (in_tree tree v)) (λ v. not (in_tree new v)) (numbers 1 n) λ v mem.
    by_cases
    (ℕ_discrete v b)
    (λ e. rw (e, inside, eq-eqb b b refl) (both_false (not (in_tree tree b))))
    (λ ne. rw (same v (omega (arith, numbers-within 1 n v mem)) ne, ne_eqb v b ne) (and-true (not (in_tree tree v))))
  where
    both_false : (t : Bool) → false ≡ (t && false)
    both_false true = refl
    both_false false = refl

    and-true : (t : Bool) → t ≡ (t && true)
    and-true true = refl
    and-true false = refl

module _ (weights : List ℕ) (n m : ℕ) (taxa : 1 ≤ n) (key : ℕ → ℕ) where
  -- so many placements in turn, from a growing tree whose rows give the keys
  order_on : (count k : ℕ) (tree : List ℕ) (rows : List (List ℤ)) → Growth n m k tree rows → count + k ≡ n
      → ((v : ℕ) → 1 ≤ v → v ≤ n → advancement (difference weights) rows v ≡ key v)
      → InOrder key (nodes_out tree (numbers 1 n))
      (taxa_of (build_on (difference weights) (by_advancement (difference weights)) n count tree rows).placements)
  unfolding build_on
  order_on zero k tree rows g all keys =
      rw (none_left n tree (growing-placed tree n taxa g.growing ∙ sym (zero-add k) ∙ all)) all_placed
  order_on (suc count) k tree rows g all keys =
      let b : ℕ = by_advancement (difference weights) n tree rows in
      let less : taxa_placed n tree < n = omega (arith, growing-placed tree n taxa g.growing) in
      let u : Unplaced n tree b = unfold next_by in order_chooses (difference weights) Advance n tree rows less in
      let placed : AfterPlacing = place (difference weights) (row_of rows) n tree b in
      let after = place_growth (difference weights) n m k tree rows g (difference_laws weights m) b u in
      let kept = place-rows (difference weights) n m k tree rows g (difference_laws weights m) b u in
      let some = some-unplaced n tree less in
      let next : b ≡ least_of key (nodes_out tree (numbers 1 n)) = chosen tree rows keys in
      let mem : Memᴰ b (nodes_out tree (numbers 1 n)) =
      unfold by_advancement in least_of-mem (advancement (difference weights) rows) (nodes_out tree (numbers 1 n)) some.0 some.1 in
      let rest =
      order_on count (suc k) placed.tree (rows ++ placed.made) after (omega arith) (keys_kept rows (rows ++ placed.made) g.full kept keys) in
      let left = one_less n tree placed.tree b (place_in (difference weights) n tree (row_of rows) b g.room u g.growing)
      (place-only (difference weights) n tree (row_of rows) b g.room u g.growing) in
      let behind : InOrder key (without (b ∷ []) (nodes_out tree (numbers 1 n)))
      (taxa_of (build_on (difference weights) (by_advancement (difference weights)) n count placed.tree (rows ++ placed.made)).placements) =
      rw left rest in
      rw (place-taxon (difference weights) n tree (row_of rows) b) (placed_next b mem next behind)
    where
      chosen : (tree : List ℕ) (rows : List (List ℤ)) → ((v : ℕ) → 1 ≤ v → v ≤ n → advancement (difference weights) rows v ≡ key v)
          → by_advancement (difference weights) n tree rows ≡ least_of key (nodes_out tree (numbers 1 n))
      chosen tree rows keys =
          unfold by_advancement in
          least_of_congr (advancement (difference weights) rows) key (nodes_out tree (numbers 1 n)) λ v mem.
          let w = numbers-within 1 n v (left_mem tree v mem) in
          keys v w.0 (omega arith)
        where
          left_mem : (tree : List ℕ) (v : ℕ) → Memᴰ v (nodes_out tree (numbers 1 n)) → Memᴰ v (numbers 1 n)
          left_mem tree v mem = unfold nodes_out in (keep-mem (λ u. not (in_tree tree u)) (numbers 1 n) v mem).0

      keys_kept : (rows later : List (List ℤ)) → length rows ≡ n + (k - 2)
          → ((v : ℕ) → 1 ≤ v → v ≤ length rows → row_of later v ≡ row_of rows v)
          → ((v : ℕ) → 1 ≤ v → v ≤ n → advancement (difference weights) rows v ≡ key v)
          → (v : ℕ) → 1 ≤ v → v ≤ n → advancement (difference weights) later v ≡ key v
      keys_kept rows later full kept keys v low high =
          unfold advancement node_difference in
          (ap₂ (difference weights) (kept v low (omega arith)) (kept 1 (omega arith) (omega arith)) ∙ keys v low high)

-- at the start all taxa but row 1 are left
all_left : (n : ℕ) → 1 ≤ n → nodes_out only_row_one (numbers 1 n) ≡ numbers 2 (n - 1)
unfolding nodes_out numbers keep
all_left zero h = absurd (omega arith)
all_left (suc k) h =
    let first : in_tree only_row_one 1 ≡ true = unfold in_tree in refl in
    let count : suc k - 1 ≡ k = omega arith in
    ap (λ (t : Bool). cond (not t) (1 ∷ keep (λ v. not (in_tree only_row_one v)) (numbers 2 k))
    (keep (λ v. not (in_tree only_row_one v)) (numbers 2 k))) first
    ∙ keep_all (λ v. not (in_tree only_row_one v)) (numbers 2 k)
    (λ v mem. ap not (false-in_tree only_row_one v (numbers-within 2 k v mem).0 (only_row_one-none v)))
    ∙ ap (numbers 2) (sym count)

-- n rows of m codes, n from 1 to 64
module _ (weights : List ℕ) (n m : ℕ) (taxa : 1 ≤ n) (most : n ≤ 64) (rows : List (List ℤ)) (all : length rows ≡ n)
    (each : OfLength m rows) where
  -- of the taxa 2 to n each placed taxon is, of those not yet placed, by rising row, the first of least advancement
  pub wagner-order : InOrder (advancement (difference weights) rows) (numbers 2 (n - 1))
      (taxa_of (wagner (difference weights) Advance n rows).placements)
  unfolding wagner build next_by
  wagner-order =
      let start : Growth n m 1 only_row_one rows =
      record { growing = alone only_row_one-none; room = rw only_row_one-size (omega arith); full = omega arith; each = each } in
      rw (all_left n taxa) at
      (order_on weights n m taxa (advancement (difference weights) rows) (n - 1) 1 only_row_one rows start (omega arith) (λ v low high. refl))

  -- so the advancements rise along the placements
  pub wagner_rises : Rising (advancement (difference weights) rows) (taxa_of (wagner (difference weights) Advance n rows).placements)
  wagner_rises = order_rises (advancement (difference weights) rows) wagner-order

  -- so a taxon is no more advanced than any that is placed after it
  pub later_advanced : (before : List ℕ) (v : ℕ) (after : List ℕ)
      → taxa_of (wagner (difference weights) Advance n rows).placements ≡ before ++ v ∷ after
      → (w : ℕ) → Memᴰ w after → advancement (difference weights) rows v ≤ advancement (difference weights) rows w
  later_advanced before v after e = later_rises before (rw e at wagner_rises)
