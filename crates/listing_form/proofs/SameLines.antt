-- Lines print numbers and names and nothing else: where these agree, so do the lines.
use mathlib.Core.Path.{◌≡◌, refl, ap, ap₂}
use mathlib.Core.List.{List, [], ◌∷◌, ◌++◌, map, Memᴰ}
use Prim.Native.Nat.{ℕ, ◌+◌, ◌-◌, ◌*◌, ◌≤◌, ◌<◌}
use native.Mathlib.Omega.{arith}
use Rattle.lists.specs.Numbers.{numbers}
use Rattle.lists.proofs.Numbers.{numbers-within}
use Rattle.prim_form.specs.Network.{Link}
use Rattle.tree_form.specs.declared.placement.Placement.{Placement}
use Rattle.tree_form.specs.Ancestors.{ancestor}
use Rattle.tree_form.specs.Nodes.{other_nodes, htus}
use Rattle.listing_form.specs.Lines.{node_name}
use Rattle.listing_form.specs.Kinds.{total_line, index_line, prim_line, wagner_line, branch_line, state_line}
use Rattle.listing_form.specs.Blocks.{PrintedTree, network_lines, build_lines, fitted_line, fitted_lines, state_line_of, node_lines, state_lines, lines_of_tree}
use Rattle.listing_form.proofs.Joined.{flat_map-same}

-- items with the same line each have the same lines
map_same : {A : Type 0} (f g : A → List ℕ) (xs : List A) → ((x : A) → Memᴰ x xs → f x ≡ g x) → map f xs ≡ map g xs
map_same f g [] h = refl
map_same f g (x ∷ xs) h = ap₂ ◌∷◌ (h x (Memᴰ.head refl)) (map_same f g xs (λ y m. h y (Memᴰ.tail m)))

-- the numbers that lines print of two trees of n taxa and m characters agree, wherever a line prints them
pub record SamePrint (n m : ℕ) (x y : PrintedTree) : Type 0 where
  pub ancestors : (v : ℕ) → 2 ≤ v → v ≤ 2 * n - 2 → ancestor x.tree v ≡ ancestor y.tree v
  pub lengths : (v : ℕ) → 2 ≤ v → v ≤ 2 * n - 2 → x.lengths v ≡ y.lengths v
  pub marks : (v : ℕ) → 2 ≤ v → v ≤ 2 * n - 2 → x.marks v ≡ y.marks v
  pub t : x.t ≡ y.t
  pub c : x.c ≡ y.c
  pub low : (v j : ℕ) → n < v → v ≤ 2 * n - 2 → 1 ≤ j → j ≤ m → x.low v j ≡ y.low v j
  pub high : (v j : ℕ) → n < v → v ≤ 2 * n - 2 → 1 ≤ j → j ≤ m → x.high v j ≡ y.high v j
  pub chosen : (v j : ℕ) → n < v → v ≤ 2 * n - 2 → 1 ≤ j → j ≤ m → x.chosen v j ≡ y.chosen v j

-- names that print every node the same
module _ (n : ℕ) (names others : List (List ℕ)) (named : (v : ℕ) → node_name n names v ≡ node_name n others v) where
  -- the lines of a network
  pub network_same : (links : List Link) (p : ℕ) → network_lines n names links p ≡ network_lines n others links p
  unfolding network_lines prim_line
  network_same links p =
      ap (λ lines. lines ++ (total_line "p" p ∷ []))
      (map_same (prim_line n names) (prim_line n others) links (λ link i. rw (named link.taxon, named link.joined)))

  -- those of a build
  pub build_same : (placements : List Placement) (w : ℕ) → build_lines n names placements w ≡ build_lines n others placements w
  unfolding build_lines wagner_line
  build_same placements w =
      ap (λ lines. lines ++ (total_line "w" w ∷ []))
      (map_same (wagner_line n names) (wagner_line n others) placements
      (λ p i. rw (named p.taxon, named p.lower, named p.upper, named p.htu)))

  module _ (m : ℕ) (x y : PrintedTree) (same : SamePrint n m x y) where
    -- the `T` lines and `t`
    branches_same : fitted_lines n names x.tree x.lengths x.marks x.t ≡ fitted_lines n others y.tree y.lengths y.marks y.t
    unfolding fitted_lines fitted_line branch_line other_nodes
    branches_same =
        ap₂ (λ lines t. lines ++ (total_line "t" t ∷ []))
        (map_same _ _ (numbers 2 (2 * n - 3)) (λ v i.
        let at = numbers-within 2 (2 * n - 3) v i in
        let last : v ≤ 2 * n - 2 = omega (arith, at.0, at.1) in
        rw (
          same.ancestors v at.0 last,
          same.lengths v at.0 last,
          same.marks v at.0 last,
          named v,
          named (ancestor y.tree v),
        )))
        same.t

    -- the `H` lines of an HTU
    htu_same : (v : ℕ) → n < v → v ≤ 2 * n - 2 → node_lines n names x.low x.high x.chosen m v ≡ node_lines n others y.low y.high y.chosen m v
    unfolding node_lines state_line_of state_line
    htu_same v first last =
        map_same _ _ (numbers 1 m) (λ j i.
        let at = numbers-within 1 m j i in
        let end : j ≤ m = omega (arith, at.1) in
        rw (same.low v j first last at.0 end, same.high v j first last at.0 end, same.chosen v j first last at.0 end, named v))

    -- the `H` lines
    states_same : state_lines n names x.low x.high x.chosen m ≡ state_lines n others y.low y.high y.chosen m
    unfolding state_lines
    states_same =
        flat_map-same _ _ (htus n) (λ v i.
        let at = numbers-within (n + 1) (n - 2) v i in
        htu_same v (omega (arith, at.0)) (omega (arith, at.0, at.1)))

    -- all lines of the tree
    pub tree_same : lines_of_tree n names m x ≡ lines_of_tree n others m y
    unfolding lines_of_tree
    tree_same = ap₂ ◌++◌ branches_same (ap₂ ◌∷◌ (ap index_line same.c) states_same)
