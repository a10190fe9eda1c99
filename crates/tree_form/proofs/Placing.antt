-- A placement on a growing tree gives a growing tree with one taxon more, on the interval of least interval difference.
use mathlib.Core.Path.{◌≡◌, refl, sym, ap, ◌∙◌}
use mathlib.Core.Logic.{◌≢◌, ◌⊎◌, inl, inr}
use mathlib.Core.Bool.{true}
use mathlib.Core.List.{List, [], ◌∷◌, Memᴰ}
use Prim.Native.Nat.{ℕ, zero, suc, ◌+◌, ◌*◌, ◌-◌, ◌≤◌, ◌<◌}
use native.Mathlib.Omega.{arith}
use lib.IntN.{ℤ}
use lib.ListN.{length, length-set}
use Rattle.tree_form.specs.Ancestors.{ancestor}
use Rattle.tree_form.specs.Nodes.{in_tree, nodes_in, other_nodes, taxa_placed, Unplaced}
use Rattle.tree_form.specs.Growing.{growing_tree}
use Rattle.tree_form.specs.Facts.{Grown, GrowingTree, alone, several}
use Rattle.tree_form.specs.Hanging.{next_htu, linked, hung}
use Rattle.tree_form.proofs.Nodes.{node_nodes_in, in_tree_iff, in_tree-same}
use Rattle.tree_form.proofs.Counts.{grown_node, grown_nodes}
use Rattle.tree_form.proofs.Test.{growing-fact, growing-placed, growing_test}
use Rattle.tree_form.proofs.Hanging.{hung-grown, only-taxon, at_taxon}
use Rattle.tree_form.proofs.Linking.{linked-grown, linked-other, linked-taxon}
use Rattle.tree_form.specs.Placing.{AfterPlacing, median_row, from_interval, nearest_interval, link_first, hang, place_on, place}
use Rattle.difference_form.specs.Rows.{node_difference}
use Rattle.lists.specs.Least.{least_of}
use Rattle.lists.proofs.Least.{least_of-mem, least_of_le, least_of-none, least_of_congr}

module _ (d : List ℤ → List ℤ → ℕ) (n : ℕ) (tree : List ℕ) (row_at : ℕ → List ℤ) (b : ℕ) where
  -- on row 1 alone there is no interval
  pub nearest_none : ((v : ℕ) → ancestor tree v ≡ 0) → nearest_interval d row_at n tree b ≡ 0
  unfolding nearest_interval
  nearest_none none =
      least_of-none (from_interval d row_at tree b) (nodes_in tree (other_nodes n)) (λ u m. omega (arith, node_nodes_in tree n u m, none u))

  -- and the taxon is linked to row 1
  pub place-first : ((v : ℕ) → ancestor tree v ≡ 0) → place d row_at n tree b ≡ link_first d row_at tree b
  unfolding place place_on
  place-first none = ap (place_on d row_at n tree b) (nearest_none none)

  -- so no row is made
  pub made-first : ((v : ℕ) → ancestor tree v ≡ 0) → (place d row_at n tree b).made ≡ []
  unfolding link_first
  made-first none = ap (λ (after : AfterPlacing). after.made) (place-first none)

  -- on an interval it is hung
  pub hung_on : (c : ℕ) → 1 ≤ c → place_on d row_at n tree b c ≡ hang d row_at n tree b c
  unfolding place_on
  hung_on zero h = absurd (omega arith)
  hung_on (suc c) h = refl

  -- and the length added is the interval difference
  pub added_on : (c : ℕ) → 1 ≤ c → (place_on d row_at n tree b c).placement.added ≡ from_interval d row_at tree b c
  unfolding hang
  added_on c some = ap (λ (after : AfterPlacing). after.placement.added) (hung_on c some)

  module _ (k : ℕ) (g : Grown n k tree) where
    -- the nearest interval is one of the tree
    pub nearest_in : Memᴰ (nearest_interval d row_at n tree b) (nodes_in tree (other_nodes n))
    unfolding nearest_interval
    nearest_in = let u = grown_node n k tree g in least_of-mem (from_interval d row_at tree b) (nodes_in tree (other_nodes n)) u.0 u.1

    -- it is a node other than node 1 and has an immediate ancestor
    pub nearest_node : (2 ≤ nearest_interval d row_at n tree b) × (1 ≤ ancestor tree (nearest_interval d row_at n tree b))
    nearest_node = let h = node_nodes_in tree n (nearest_interval d row_at n tree b) nearest_in in (h.0, h.2)

    -- no interval of the tree has a lesser interval difference
    pub nearest_least : (c : ℕ) → 1 ≤ ancestor tree c
        → from_interval d row_at tree b (nearest_interval d row_at n tree b) ≤ from_interval d row_at tree b c
    unfolding nearest_interval
    nearest_least c inside = least_of_le (from_interval d row_at tree b) (nodes_in tree (other_nodes n)) c (grown_nodes n k tree g c inside)

    -- the taxon is hung on it
    pub place-later : place d row_at n tree b ≡ hang d row_at n tree b (nearest_interval d row_at n tree b)
    unfolding place
    place-later = hung_on (nearest_interval d row_at n tree b) (omega (arith, nearest_node.0))

    -- and the row made is the median row
    pub made-later : (place d row_at n tree b).made
        ≡ median_row row_at b (nearest_interval d row_at n tree b) (ancestor tree (nearest_interval d row_at n tree b)) ∷ []
    unfolding hang
    made-later = ap (λ (after : AfterPlacing). after.made) place-later

  -- a placement of a taxon that is not in the tree gives a growing tree with one taxon more
  pub place_grows : {k : ℕ} → GrowingTree n tree k → 2 * n - 2 < length tree → Unplaced n tree b
      → GrowingTree n (place d row_at n tree b).tree (suc k)
  unfolding link_first hang next_htu
  place_grows (alone none) room u = rw (place-first none) (several (linked-grown n tree none room b u))
  place_grows (several {k = k} g) room u =
      rw
      (place-later k g, g.placed)
      (several (hung-grown n k tree g room b (nearest_interval d row_at n tree b) u (nearest_node k g).1))

  -- the same by the test: what passes it passes it after the placement, with one taxon more placed
  pub place_test : growing_tree n tree ≡ true → 2 * n - 2 < length tree → Unplaced n tree b
      → (growing_tree n (place d row_at n tree b).tree ≡ true) × (taxa_placed n (place d row_at n tree b).tree ≡ suc (taxa_placed n tree))
  place_test passes room u =
      let grows = place_grows (growing-fact tree n (omega arith) passes) room u in
      let new : List ℕ = (place d row_at n tree b).tree in
      (growing_test new n (omega arith) grows, growing-placed new n (omega arith) grows)

-- a placement of a taxon that is not in the tree
module _ (d : List ℤ → List ℤ → ℕ) (n : ℕ) (tree : List ℕ) (row_at : ℕ → List ℤ) (b : ℕ) (room : 2 * n - 2 < length tree)
    (u : Unplaced n tree b) where
  -- of the taxa just b comes in
  pub place-only : {k : ℕ} → GrowingTree n tree k → (v : ℕ) → v ≤ n → v ≢ b → in_tree (place d row_at n tree b).tree v ≡ in_tree tree v
  unfolding link_first hang next_htu
  place-only (alone none) v high ne =
      rw (place-first d n tree row_at b none)
      (in_tree-same tree (linked tree b) v (linked-other n tree none room b u v ne ∙ sym (none v)))
  place-only (several {k = k} g) v high ne =
      rw
      (place-later d n tree row_at b k g, g.placed)
      (only-taxon n k tree g room b (nearest_interval d row_at n tree b) u (nearest_node d n tree row_at b k g).1 v ne
      (λ e. omega (arith, g.at_least_two)))

  -- and it is in the tree
  pub place_in : {k : ℕ} → GrowingTree n tree k → in_tree (place d row_at n tree b).tree b ≡ true
  unfolding link_first hang next_htu
  place_in (alone none) =
      rw (place-first d n tree row_at b none)
      ((in_tree_iff (linked tree b) b).1 (inr (omega (arith, linked-taxon n tree none room b u))))
  place_in (several {k = k} g) =
      let c : ℕ = nearest_interval d row_at n tree b in
      rw
      (place-later d n tree row_at b k g, g.placed)
      ((in_tree_iff (hung tree b c (n + k - 1)) b).1
      (inr (omega (arith, at_taxon n k tree g room b c u (nearest_node d n tree row_at b k g).1, g.at_least_two))))

-- what is done is the placement of the taxon
pub place-taxon : (d : List ℤ → List ℤ → ℕ) (n : ℕ) (tree : List ℕ) (row_at : ℕ → List ℤ) (b : ℕ)
    → (place d row_at n tree b).placement.taxon ≡ b
unfolding place place_on link_first hang
place-taxon d n tree row_at b = on (nearest_interval d row_at n tree b)
  where
    on : (c : ℕ) → (place_on d row_at n tree b c).placement.taxon ≡ b
    on zero = refl
    on (suc c) = refl

-- a placement keeps the number of entries of the tree
pub place-size : (d : List ℤ → List ℤ → ℕ) (n : ℕ) (tree : List ℕ) (row_at : ℕ → List ℤ) (b : ℕ)
    → length (place d row_at n tree b).tree ≡ length tree
unfolding place place_on link_first hang linked hung
place-size d n tree row_at b = on (nearest_interval d row_at n tree b)
  where
    on : (c : ℕ) → length (place_on d row_at n tree b c).tree ≡ length tree
    on zero = simp length-set
    on (suc c) = simp length-set

-- what is least of a list is one of it, or the list is empty and it is 0
least_in : (key : ℕ → ℕ) (nodes : List ℕ) → (least_of key nodes ≡ 0) ⊎ Memᴰ (least_of key nodes) nodes
unfolding least_of
least_in key [] = inl refl
least_in key (v ∷ nodes) = inr (least_of-mem key (v ∷ nodes) v (Memᴰ.head refl))

-- two differences with the rows that they are put to, which agree on taxon b and row 1, and on b and each interval of the tree
module _ (d d' : List ℤ → List ℤ → ℕ) (row_at row_at' : ℕ → List ℤ) (n : ℕ) (tree : List ℕ) (b : ℕ)
    (first : node_difference d row_at b 1 ≡ node_difference d' row_at' b 1)
    (each : (c : ℕ) → 2 ≤ c → 1 ≤ ancestor tree c → (from_interval d row_at tree b c ≡ from_interval d' row_at' tree b c)
    × (median_row row_at b c (ancestor tree c) ≡ median_row row_at' b c (ancestor tree c))) where
  -- the nearest interval is the same
  pub nearest_same : nearest_interval d row_at n tree b ≡ nearest_interval d' row_at' n tree b
  unfolding nearest_interval
  nearest_same =
      least_of_congr (from_interval d row_at tree b) (from_interval d' row_at' tree b) (nodes_in tree (other_nodes n))
      (λ c mem. let node = node_nodes_in tree n c mem in (each c node.0 node.2).0)

  -- and so is the placement
  pub place_same : place d row_at n tree b ≡ place d' row_at' n tree b
  unfolding place place_on link_first hang
  place_same =
      ap (place_on d row_at n tree b) nearest_same
      ∙ on (nearest_interval d' row_at' n tree b) (unfold nearest_interval in least_in (from_interval d' row_at' tree b) (nodes_in tree (other_nodes n)))
    where
      on : (c : ℕ) → (c ≡ 0) ⊎ Memᴰ c (nodes_in tree (other_nodes n)) → place_on d row_at n tree b c ≡ place_on d' row_at' n tree b c
      on zero mem = rw first
      on (suc c) (inl none) = absurd (omega arith)
      on (suc c) (inr mem) =
          let node = node_nodes_in tree n (suc c) mem in
          let same = each (suc c) node.0 node.2 in
          rw (same.0, same.1)
