-- A build by the difference of rows: the nodes that its placements name are at most 2n, and each length added is at most the largest
-- difference of two rows.
use mathlib.Core.Path.{◌≡◌}
use mathlib.Core.Logic.{⊎_elim}
use mathlib.Core.Bool.{true}
use mathlib.Core.List.Memᴰ
use mathlib.Core.List.{List, [], ◌∷◌, ◌++◌, append-nil, Memᴰ}
use Prim.Native.Nat.{ℕ, zero, suc, ◌-◌, ◌*◌, ◌≤◌}
use native.Mathlib.Omega.{arith}
use lib.IntN.{ℤ}
use lib.ListN.{set}
use Rattle.matrix_form.specs.NodeRows.{row_of}
use Rattle.lists.specs.Tests.{every}
use Rattle.lists.specs.Least.{least_of}
use Rattle.lists.specs.Numbers.{numbers}
use Rattle.lists.proofs.Keep.{keep-mem, length_keep_le}
use Rattle.lists.proofs.Least.{first_least-mem}
use Rattle.lists.proofs.Numbers.{numbers-within, length-numbers}
use Rattle.lists.proofs.Filled.{get_d_replicate}
use Rattle.matrix_form.specs.Shape.{is_weight}
use Rattle.difference_form.specs.Rows.{difference, most_difference}
use Rattle.tree_form.specs.declared.placement.Placement.{Placement}
use Rattle.tree_form.specs.Ancestors.{ancestor, tree_size}
use Rattle.tree_form.specs.Nodes.{in_tree, nodes_in, nodes_out, other_nodes, taxa_placed}
use Rattle.tree_form.specs.Hanging.{only_row_one, linked, hung, next_htu}
use Rattle.tree_form.specs.Placing.{AfterPlacing, from_interval, nearest_interval, median_row, link_first, hang, place_on, place}
use Rattle.tree_form.specs.declared.order.Order.{Order}
use Rattle.tree_form.specs.declared.order.Order.TheVariants.{Advance, Closest}
use Rattle.wagner_form.specs.Next.{advancement, by_advancement, next_by}
use Rattle.wagner_form.specs.Build.{Built, build_on, build, wagner}
use Rattle.wagner_form.proofs.Closest.{adds, closeness_least}
use Rattle.listing_form.proofs.Bounds.Rows.{AllNear, near_more, near_medians, node_apart, interval-apart}

-- the first of the least of numbers within a bound is within it
least-within : (key : ℕ → ℕ) (most : ℕ) (vs : List ℕ) → ((v : ℕ) → Memᴰ v vs → v ≤ most) → least_of key vs ≤ most
unfolding least_of
least-within key most [] h = omega arith
least-within key most (v ∷ vs) h = h _ (first_least-mem key v vs)

-- the immediate ancestors of a tree are within a bound
abbrev pub AncestorsWithin : ℕ → List ℕ → Type 0
AncestorsWithin most tree = (v : ℕ) → ancestor tree v ≤ most

-- an entry set within the bound
set-within : (most : ℕ) (tree : List ℕ) (i x : ℕ) → AncestorsWithin most tree → x ≤ most → AncestorsWithin most (set tree i x)
unfolding ancestor
set-within most [] i x all h v = all v
set-within most (a ∷ tree) zero x all h zero = h
set-within most (a ∷ tree) zero x all h (suc v) = all (suc v)
set-within most (a ∷ tree) (suc i) x all h zero = all zero
set-within most (a ∷ tree) (suc i) x all h (suc v) = set-within most tree i x (λ u. all (suc u)) h v

-- a placement names nodes up to 2n, and adds at most the largest difference
pub record Small (n : ℕ) (p : Placement) : Type 0 where
  pub taxon : p.taxon ≤ 2 * n
  pub lower : p.lower ≤ 2 * n
  pub upper : p.upper ≤ 2 * n
  pub htu : p.htu ≤ 2 * n
  pub added : p.added ≤ most_difference

-- what comes out of a placement is within these bounds
pub record SmallAfter (n : ℕ) (rows : List (List ℤ)) (placed : AfterPlacing) : Type 0 where
  pub ancestors : AncestorsWithin (2 * n) placed.tree
  pub near : AllNear (rows ++ placed.made)
  pub placement : Small n placed.placement

module _ (weights : List ℕ) (weighed : every is_weight weights ≡ true) (n : ℕ) (taxa : 1 ≤ n) where
  -- the next HTU is at most 2n
  next-within : (tree : List ℕ) → next_htu n tree ≤ 2 * n
  unfolding next_htu taxa_placed nodes_in
  next-within tree = omega (arith, length_keep_le (in_tree tree) (numbers 1 n), length-numbers 1 n)

  -- the lower end of an interval is
  nearest_within : (d : List ℤ → List ℤ → ℕ) (tree : List ℕ) (rows : List (List ℤ)) (b : ℕ) → nearest_interval d (row_of rows) n tree b ≤ 2 * n
  unfolding nearest_interval nodes_in other_nodes
  nearest_within d tree rows b =
      least-within (from_interval d (row_of rows) tree b) (2 * n) (nodes_in tree (other_nodes n)) λ v m.
      let inside = numbers-within 2 (2 * n - 3) v (keep-mem (in_tree tree) (numbers 2 (2 * n - 3)) v m).0 in
      omega arith

  -- the taxon of least key is
  key-within : (key : ℕ → ℕ) (tree : List ℕ) → least_of key (nodes_out tree (numbers 1 n)) ≤ 2 * n
  unfolding nodes_out
  key-within key tree =
      least-within key (2 * n) (nodes_out tree (numbers 1 n)) λ v m.
      let inside = numbers-within 1 n v (keep-mem _ (numbers 1 n) v m).0 in
      omega arith

  -- so the next taxon in an order of placing is
  taxon-within : (d : List ℤ → List ℤ → ℕ) (order : Order) (tree : List ℕ) (rows : List (List ℤ)) → next_by d order n tree rows ≤ 2 * n
  unfolding next_by by_advancement
  taxon-within d Advance tree rows = key-within (advancement d rows) tree
  taxon-within d Closest tree rows = rw (closeness_least d n tree rows) (key-within (adds d n tree rows) tree)

  module _ (tree : List ℕ) (rows : List (List ℤ)) (inside : AncestorsWithin (2 * n) tree) (near : AllNear rows) (b : ℕ) (taxon : b ≤ 2 * n) where
    -- a taxon placed on any interval
    placed-small : (c : ℕ) → c ≤ 2 * n → SmallAfter n rows (place_on (difference weights) (row_of rows) n tree b c)
    unfolding place_on link_first hang linked hung
    placed-small zero h = record {
      ancestors = set-within (2 * n) tree b 1 inside (omega arith);
      near = rw (append-nil rows) near;
      placement = record { taxon = taxon; lower = omega arith; upper = omega arith; htu = omega arith; added = node_apart weights weighed rows near b 1 };
    }
    placed-small (suc c) h =
        let y = next_htu n tree in
        let new = next-within tree in
        let above = set-within (2 * n) tree y (ancestor tree (suc c)) inside (inside (suc c)) in
        let below = set-within (2 * n) (set tree y (ancestor tree (suc c))) (suc c) y above new in
        record {
          ancestors = set-within (2 * n) (set (set tree y (ancestor tree (suc c))) (suc c) y) b y below new;
          near = near_more rows (median_row (row_of rows) b (suc c) (ancestor tree (suc c))) near (near_medians weights weighed rows near b (suc c) (ancestor tree (suc c)));
          placement = record { taxon = taxon; lower = h; upper = inside (suc c); htu = new; added = interval-apart weights weighed rows near tree b (suc c) };
        }

    -- a taxon placed on its interval
    place-small : SmallAfter n rows (place (difference weights) (row_of rows) n tree b)
    unfolding place
    place-small = placed-small (nearest_interval (difference weights) (row_of rows) n tree b) (nearest_within (difference weights) tree rows b)

  -- what comes out of a build is within these bounds
  pub record SmallBuilt (built : Built) : Type 0 where
    pub placements : (p : Placement) → Memᴰ p built.placements → Small n p

  -- so many placements in turn
  build-small : (order : Order) (count : ℕ) (tree : List ℕ) (rows : List (List ℤ)) → AncestorsWithin (2 * n) tree → AllNear rows
      → SmallBuilt (build_on (difference weights) (next_by (difference weights) order) n count tree rows)
  unfolding build_on
  build-small order zero tree rows inside near = record { placements = λ p m. absurd (Memᴰ.not-nil m) }
  build-small order (suc count) tree rows inside near =
      let b = next_by (difference weights) order n tree rows in
      let now = place-small tree rows inside near b (taxon-within (difference weights) order tree rows) in
      let rest = build-small order count (place (difference weights) (row_of rows) n tree b).tree (rows ++ (place (difference weights) (row_of rows) n tree b).made)
      now.ancestors now.near in
      record {
        placements = λ p m. ⊎_elim (λ e. rw e now.placement) (rest.placements p) (Memᴰ.cases_cons m);
      }

  -- the Wagner tree
  pub wagner-small : (order : Order) (rows : List (List ℤ)) → AllNear rows → SmallBuilt (wagner (difference weights) order n rows)
  unfolding wagner build only_row_one ancestor
  wagner-small order rows near =
      build-small order (n - 1) only_row_one rows (λ v. rw (get_d_replicate {A = ℕ} 0 tree_size v) (omega arith)) near
