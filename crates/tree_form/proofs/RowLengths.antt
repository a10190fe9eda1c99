-- What a placement adds to the length of the tree: its interval difference, and no hanging adds less.
use mathlib.Core.Path.{◌≡◌, sym, ap, ap₂, ◌∙◌}
use mathlib.Core.Logic.{⊎_elim}
use mathlib.Core.List.{List, [], ◌∷◌, ◌++◌, append-nil}
use Prim.Native.Nat.{ℕ, ◌+◌, ◌*◌, ◌-◌, ◌≤◌, ◌<◌}
use native.Mathlib.Omega.{arith}
use lib.IntN.{ℤ}
use lib.ListN.{length, get_or-append}
use lib.Seq.{get_or_at}
use Rattle.matrix_form.specs.NodeRows.{row_of}
use Rattle.difference_form.specs.Rows.{interval_by, medians, node_difference}
use Rattle.tree_form.specs.Ancestors.{ancestor}
use Rattle.tree_form.specs.Facts.{Grown, GrowingTree, alone, several}
use Rattle.tree_form.specs.Nodes.{Unplaced}
use Rattle.tree_form.specs.Hanging.{hung, next_htu}
use Rattle.tree_form.proofs.Hanging.{hung_joint, htu_out}
use Rattle.tree_form.proofs.Lengths.{tree_length-same, alone-length, linked-length, hung-length}
use Rattle.tree_form.specs.RowLengths.{length_under}
use Rattle.tree_form.specs.Placing.{AfterPlacing, median_row, from_interval, nearest_interval, link_first, hang, place}
use Rattle.tree_form.proofs.Placing.{made-first, place-first, place-later, nearest_node, nearest_least}

-- the row of a node is not changed by a row behind the others
pub row_of_old : (rows : List (List ℤ)) (r : List ℤ) (v : ℕ) → 1 ≤ v → v ≤ length rows → row_of (rows ++ (r ∷ [])) v ≡ row_of rows v
unfolding row_of
row_of_old rows r v l h = get_or-append rows (r ∷ []) [] (v - 1) (omega arith)

-- the row behind the others is that of the next node
pub row_of_new : (rows : List (List ℤ)) (r : List ℤ) (y : ℕ) → length rows ≡ y - 1 → row_of (rows ++ (r ∷ [])) y ≡ r
unfolding row_of
row_of_new rows r y full = get_or_at rows r [] [] (y - 1) full

-- what the length of the tree rests on: laws of a difference d and of the medians of rows of m codes
pub record MedianLaws (d : List ℤ → List ℤ → ℕ) (m : ℕ) : Type 0 where
  -- the difference is the same either way round
  pub symmetric : (x y : List ℤ) → d x y ≡ d y x
  -- the medians are as long as the rows
  pub sized : (b c e : List ℤ) → length b ≡ m → length c ≡ m → length e ≡ m → length (medians b c e) ≡ m
  -- the differences of any row from b, c and e make at least the interval difference and d(c,e)
  pub least : (b c e y : List ℤ) → length b ≡ m → length c ≡ m → length e ≡ m → length y ≡ m
      → interval_by d b c e + d c e ≤ d y c + d y e + d y b
  -- those of the medians make just as much
  pub equal : (b c e : List ℤ) → length b ≡ m → length c ≡ m → length e ≡ m
      → interval_by d b c e + d c e ≡ d (medians b c e) c + d (medians b c e) e + d (medians b c e) b

-- all rows are of length m: they have m codes each
abbrev pub OfLength : ℕ → List (List ℤ) → Type 0
OfLength m rows = (v : ℕ) → 1 ≤ v → v ≤ length rows → length (row_of rows v) ≡ m

-- a growing tree with k of the n taxa placed, a place for every node, and the rows of the taxa and of the HTUs made, of m codes each
pub record Growth (n m k : ℕ) (tree : List ℕ) (rows : List (List ℤ)) : Type 0 where
  pub growing : GrowingTree n tree k
  pub room : 2 * n - 2 < length tree
  pub full : length rows ≡ n + (k - 2)
  pub each : OfLength m rows

-- a growing tree of k taxa, its rows, a taxon b that is not in it and a node c of it other than row 1
module _ (d : List ℤ → List ℤ → ℕ) (n k : ℕ) (tree : List ℕ) (rows : List (List ℤ)) (g : Grown n k tree) (room : 2 * n - 2 < length tree)
    (full : length rows ≡ n + k - 2) (b : ℕ) (u : Unplaced n tree b) where
  -- a node of the tree has a row
  node_row : (c : ℕ) → 1 ≤ ancestor tree c → (1 ≤ c) × (c ≤ length rows)
  node_row c inside = let w = g.nodes_only c inside in omega arith

  -- so has its immediate ancestor
  ancestor-row : (c : ℕ) → 1 ≤ ancestor tree c → (1 ≤ ancestor tree c) × (ancestor tree c ≤ length rows)
  ancestor-row c inside =
      ⊎_elim
      (λ e. let two = g.at_least_two in (inside, omega arith))
      (λ a. let w = g.nodes_only (ancestor tree c) a in (inside, omega arith))
      (g.ancestors_in c inside)

  -- hanging b through an HTU with any row r: the branch of c goes, and three come
  pub hang-length : (c : ℕ) → 1 ≤ ancestor tree c → (r : List ℤ)
      → length_under d n (hung tree b c (n + k - 1)) (rows ++ (r ∷ [])) + node_difference d (row_of rows) c (ancestor tree c)
      ≡ length_under d n tree rows
      + (d (row_of rows b) r + d (row_of rows c) r + d r (row_of rows (ancestor tree c)))
  unfolding node_difference length_under
  hang-length c inside r =
      let more : List (List ℤ) = rows ++ (r ∷ []) in
      let a : ℕ = ancestor tree c in
      let y : ℕ = n + k - 1 in
      let two = g.at_least_two in
      let nc = node_row c inside in
      let na = ancestor-row c inside in
      let row-b : row_of more b ≡ row_of rows b = row_of_old rows r b (omega arith) (omega arith) in
      let row-c : row_of more c ≡ row_of rows c = row_of_old rows r c nc.0 nc.1 in
      let row-a : row_of more a ≡ row_of rows a = row_of_old rows r a na.0 na.1 in
      let row-y : row_of more y ≡ r = row_of_new rows r y (omega arith) in
      let same : length_under d n tree more ≡ length_under d n tree rows =
      tree_length-same (node_difference d (row_of more)) (node_difference d (row_of rows)) n tree λ v l i.
      let nv = node_row v i in
      let nu = ancestor-row v i in
      ap₂ d (row_of_old rows r v nv.0 nv.1) (row_of_old rows r (ancestor tree v) nu.0 nu.1) in
      let c-a : node_difference d (row_of more) c a ≡ node_difference d (row_of rows) c a = ap₂ d row-c row-a in
      let b-y : node_difference d (row_of more) b y ≡ d (row_of rows b) r = ap₂ d row-b row-y in
      let c_y : node_difference d (row_of more) c y ≡ d (row_of rows c) r = ap₂ d row-c row-y in
      let y-a : node_difference d (row_of more) y a ≡ d r (row_of rows a) = ap₂ d row-y row-a in
      let joint = hung_joint n k tree g room b c u inside in
      let y-out = htu_out n k tree g room b c u inside in
      let change = hung-length (node_difference d (row_of more)) n tree b c y joint u.free inside y-out in
      omega arith

  -- under the laws of the medians
  module _ (m : ℕ) (laws : MedianLaws d m) (each : OfLength m rows) where
    -- the row of b has m codes
    long_taxon : length (row_of rows b) ≡ m
    long_taxon = each b (omega arith) (omega (arith, g.at_least_two))

    -- so has that of c
    long_lower : (c : ℕ) → 1 ≤ ancestor tree c → length (row_of rows c) ≡ m
    long_lower c inside = let h = node_row c inside in each c h.0 h.1

    -- and that of c's immediate ancestor
    long_upper : (c : ℕ) → 1 ≤ ancestor tree c → length (row_of rows (ancestor tree c)) ≡ m
    long_upper c inside = let h = ancestor-row c inside in each (ancestor tree c) h.0 h.1

    -- the median row has m codes
    pub median_row_sized : (c : ℕ) → 1 ≤ ancestor tree c → length (median_row (row_of rows) b c (ancestor tree c)) ≡ m
    unfolding median_row
    median_row_sized c inside =
        laws.sized (row_of rows b) (row_of rows c) (row_of rows (ancestor tree c)) long_taxon (long_lower c inside) (long_upper c inside)

    -- an HTU with the median codes adds the interval difference
    pub hang-medians : (c : ℕ) → 1 ≤ ancestor tree c
        → length_under d n (hung tree b c (n + k - 1)) (rows ++ (median_row (row_of rows) b c (ancestor tree c) ∷ []))
        ≡ length_under d n tree rows + from_interval d (row_of rows) tree b c
    unfolding median_row from_interval node_difference
    hang-medians c inside =
        let rb : List ℤ = row_of rows b in
        let rc : List ℤ = row_of rows c in
        let ra : List ℤ = row_of rows (ancestor tree c) in
        let r : List ℤ = medians rb rc ra in
        let equal = laws.equal rb rc ra long_taxon (long_lower c inside) (long_upper c inside) in
        omega (arith, hang-length c inside r, equal, laws.symmetric rb r, laws.symmetric rc r)

    -- an HTU with other codes adds no less
    pub hang-others : (c : ℕ) → 1 ≤ ancestor tree c → (r : List ℤ) → length r ≡ m
        → length_under d n tree rows + from_interval d (row_of rows) tree b c
        ≤ length_under d n (hung tree b c (n + k - 1)) (rows ++ (r ∷ []))
    unfolding from_interval node_difference
    hang-others c inside r long =
        let rb : List ℤ = row_of rows b in
        let rc : List ℤ = row_of rows c in
        let ra : List ℤ = row_of rows (ancestor tree c) in
        let least = laws.least rb rc ra r long_taxon (long_lower c inside) (long_upper c inside) long in
        omega (arith, hang-length c inside r, least, laws.symmetric rb r, laws.symmetric rc r)

    -- so the placement adds the interval difference from the nearest interval
    pub place_later_length : length_under d n (place d (row_of rows) n tree b).tree (rows ++ (place d (row_of rows) n tree b).made)
        ≡ length_under d n tree rows + from_interval d (row_of rows) tree b (nearest_interval d (row_of rows) n tree b)
    unfolding hang next_htu
    place_later_length =
        let inside = (nearest_node d n tree (row_of rows) b k g).1 in
        rw (place-later d n tree (row_of rows) b k g, g.placed) (hang-medians (nearest_interval d (row_of rows) n tree b) inside)

    -- no hanging of the taxon on any interval, through an HTU with any codes, gives a shorter tree
    pub place-least : (c : ℕ) → 1 ≤ ancestor tree c → (r : List ℤ) → length r ≡ m
        → length_under d n (place d (row_of rows) n tree b).tree (rows ++ (place d (row_of rows) n tree b).made)
        ≤ length_under d n (hung tree b c (n + k - 1)) (rows ++ (r ∷ []))
    place-least c inside r long =
        omega (arith, place_later_length, nearest_least d n tree (row_of rows) b k g c inside, hang-others c inside r long)

-- the length of the tree after a placement is the length before and the length added
pub place-added : (d : List ℤ → List ℤ → ℕ) (n m k : ℕ) (tree : List ℕ) (rows : List (List ℤ)) → Growth n m k tree rows
    → MedianLaws d m → (b : ℕ) → Unplaced n tree b
    → length_under d n (place d (row_of rows) n tree b).tree (rows ++ (place d (row_of rows) n tree b).made)
    ≡ length_under d n tree rows + (place d (row_of rows) n tree b).placement.added
unfolding link_first hang length_under
place-added d n m k tree rows s laws b u = go s.growing s.full
  where
    go : {j : ℕ} → GrowingTree n tree j → length rows ≡ n + (j - 2)
        → length_under d n (place d (row_of rows) n tree b).tree (rows ++ (place d (row_of rows) n tree b).made)
        ≡ length_under d n tree rows + (place d (row_of rows) n tree b).placement.added
    go (alone none) full =
        let none_yet = alone-length (node_difference d (row_of rows)) n tree none in
        let one = linked-length (node_difference d (row_of rows)) n tree none s.room b u in
        rw (made-first d n tree (row_of rows) b none, append-nil rows, place-first d n tree (row_of rows) b none) (omega arith)
    go (several {k = j} g) full =
        place_later_length d n j tree rows g s.room (omega (arith, g.at_least_two)) b u m laws s.each
        ∙ ap (λ (p : AfterPlacing). length_under d n tree rows + p.placement.added) (sym (place-later d n tree (row_of rows) b j g))
