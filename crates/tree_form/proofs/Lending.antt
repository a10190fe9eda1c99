-- Branch records written and read one by one: what the loops over them know, and what is written when they end.
use mathlib.Core.Path.{◌≡◌, refl, sym, ap, ap₂, ◌∙◌}
use mathlib.Core.Logic.{by_cases, ◌≢◌}
use mathlib.Core.List.{List, [], ◌∷◌, ◌++◌, map}
use mathlib.Core.Bool.{Bool, true, false, ◌&&◌}
use Prim.Native.Nat.{ℕ, zero, suc, ◌+◌, ◌*◌, ◌-◌, ◌≤◌, ◌<◌, min}
use native.Mathlib.Numerals.{add-one}
use native.Mathlib.Nat.{min-eq_left, min-eq_right}
use native.Mathlib.Omega.{arith}
use native.Mathlib.Decide.{dec_le}
use lib.Dec.{eqb}
use lib.ListN.{length, get_or, set, take, drop, length-map, length-take, get_or-map}
use lib.Seq.{take-suc, take_all, ext_get_or}
use Rattle.std.specs.List.{list_all, enumerate_from}
use Rattle.lists.specs.Numbers.{numbers}
use Rattle.lists.specs.Tests.{same_numbers}
use Rattle.lists.proofs.Every.{same_numbers_iff}
use Rattle.lists.proofs.Maps.{map-take}
use Rattle.lists.proofs.Numbers.{length-numbers, length_map_numbers, map-numbers}
use Rattle.lists.specs.Over.{over}
use Rattle.lists.proofs.Over.{length_over, over_item, over-more, over-part}
use Rattle.lists.proofs.Filled.{filled-snoc, length-filled}
use Rattle.tree_form.specs.declared.branch.Branch.{Branch}
use Rattle.tree_form.specs.Nodes.{other_nodes}
use Rattle.tree_form.specs.Ancestors.{ancestor, tree_with}
use Rattle.tree_form.specs.Growing.{branching}
use Rattle.tree_form.specs.Facts.{Branching}
use Rattle.tree_form.specs.Within.{branching_within}
use Rattle.tree_form.specs.Branches.{branch_of, branch_records, with_records, branches_read}
use Rattle.tree_form.specs.Branches.{ancestors_of, named_in_order, lent_branching}
use Rattle.tree_form.proofs.Within.{branching-plain}
use Rattle.tree_form.proofs.Records.{records-lent, records-same}

-- a record of zeros
abbrev pub no_branch : Branch
no_branch = record { node = 0; ancestor = 0; length = 0 }

-- the first of 125 records, as far as 2n-3 of them go: how many are taken
pub taken : (records : List Branch) (n count : ℕ) → length records ≡ 125 → count ≡ min (2 * n - 3) 125
    → length (take count records) ≡ min (2 * n - 3) 125
taken records n count size is = omega (arith, length-take count records)

-- the records of a tree that are written over a list of 125
module _ (d : ℕ → ℕ → ℕ) (n : ℕ) (tree : List ℕ) (old : List Branch) where
  -- there are 2n-3 of them
  records-count : length (branch_records d n tree) ≡ 2 * n - 3
  unfolding branch_records other_nodes
  records-count = length_map_numbers (branch_of d tree) 2 (2 * n - 3)

  -- one more is written
  pub written_next : (now : List Branch) (i : ℕ) → now ≡ over 0 (take i (branch_records d n tree)) old → i < 2 * n - 3
      → set now i (branch_of d tree (i + 2)) ≡ over 0 (take (i + 1) (branch_records d n tree)) old
  unfolding branch_records other_nodes
  written_next now i inv h =
      let records = branch_records d n tree in
      let here : branch_of d tree (i + 2) ≡ get_or records i no_branch =
      ap (branch_of d tree) (omega arith) ∙ sym (map-numbers (branch_of d tree) no_branch 2 (2 * n - 3) i h) in
      let place : i ≡ 0 + i = omega arith in
      ap₂ (λ (list : List Branch) (x : Branch). set list i x) inv here
      ∙ ap (λ (k : ℕ). set (over 0 (take i records) old) k (get_or records i no_branch)) place
      ∙ over-more no_branch 0 records old i (omega (arith, records-count))

  -- all are written, as far as the list goes
  pub written_all : (count : ℕ) → length old ≡ 125 → count ≡ min (2 * n - 3) 125
      → over 0 (take count (branch_records d n tree)) old ≡ with_records d n tree old
  unfolding with_records
  written_all count size is = over-part 0 count (branch_records d n tree) old (omega (arith, records-count))

-- records written over the first of a list, with the others put behind them, are written over the list
pub over_front : (k : ℕ) (xs old : List Branch) → length xs ≤ k → over 0 xs (take k old) ++ drop k old ≡ over 0 xs old
unfolding over
over_front zero [] old h = refl
over_front zero (x ∷ xs) old h = absurd (omega arith)
over_front (suc k) [] [] h = refl
over_front (suc k) [] (o ∷ old) h = ap (λ (rest : List Branch). o ∷ rest) (over_front k [] old (omega arith))
over_front (suc k) (x ∷ xs) [] h = refl
over_front (suc k) (x ∷ xs) (o ∷ old) h = ap (λ (rest : List Branch). x ∷ rest) (over_front k xs old (omega arith))

-- one more node gets its place in a tree: the next immediate ancestor stands behind those that are there
pub entries-next : (above : List ℕ) (i : ℕ) → i < length above → length above ≤ 125
    → set (tree_with (take i above)) (i + 2) (get_or above i 0) ≡ tree_with (take (i + 1) above)
entries-next above i h most =
    filled-snoc 0 127 (i + 2) (0 ∷ (0 ∷ take i above)) (get_or above i 0) (omega (arith, length-take i above)) (omega arith)
    ∙ ap tree_with (sym (take-suc above i 0 h) ∙ ap (λ (k : ℕ). take k above) (sym (add-one i)))

-- the immediate ancestors that records give
abbrev ancestors_given : List Branch → List ℕ
ancestors_given records = map (λ (branch : Branch). branch.ancestor) records

-- the tree that the first i records give
abbrev pub ancestors_to : ℕ → List Branch → List ℕ
ancestors_to i records = tree_with (take i (ancestors_given records))

-- a record names the node of its place
abbrev pub names_index : ℕ × Branch → Bool
names_index p = eqb p.1.node (p.0 + 2)

-- records that stand from an index on name the nodes of their indices exactly if they name these nodes in order
pub named_from : (i : ℕ) (records : List Branch) → list_all names_index (enumerate_from i records)
    ≡ same_numbers (map (λ (branch : Branch). branch.node) records) (numbers (i + 2) (length records))
unfolding same_numbers numbers
named_from i [] = refl
named_from i (branch ∷ rest) =
    let next : i + 1 + 2 ≡ suc (i + 2) = omega arith in
    ap (λ (t : Bool). eqb branch.node (i + 2) && t)
    (named_from (i + 1) rest ∙ ap (λ (k : ℕ). same_numbers (map (λ (b : Branch). b.node) rest) (numbers k (length rest))) next)

module _ (records : List Branch) (size : length records ≡ 125) where
  -- one more record is read into the entries
  pub read_next : (now : List ℕ) (i : ℕ) → i < 125 → now ≡ ancestors_to i records
      → set now (i + 2) (get_or records i no_branch).ancestor ≡ ancestors_to (i + 1) records
  read_next now i h inv =
      let f : Branch → ℕ = λ (branch : Branch). branch.ancestor in
      let count = length-map records f in
      ap₂ (λ (list : List ℕ) (x : ℕ). set list (i + 2) x) inv (sym (get_or-map f records i no_branch))
      ∙ entries-next (ancestors_given records) i (omega arith) (omega arith)

  -- as many records as there are, or fewer, are the same read from the list
  take_min : (k : ℕ) → take (min k 125) records ≡ take k records
  take_min k =
      by_cases
      (dec_le k 125)
      (λ h. rw (min-eq_left h))
      (λ h.
      let most : 125 ≤ k = omega arith in
      rw (min-eq_right most) (take_all 125 records (omega arith) ∙ sym (take_all k records (omega arith))))

  -- all are read: the tree
  pub read_all : (n count : ℕ) → count ≡ min (2 * n - 3) 125 → ancestors_to count records ≡ ancestors_of n records
  unfolding ancestors_of branches_read
  read_all n count is =
      ap tree_with
      (sym (map-take (λ (branch : Branch). branch.ancestor) count records)
      ∙ ap ancestors_given (ap (λ (k : ℕ). take k records) is ∙ take_min (2 * n - 3)))

  -- the first 2n-3 records name the nodes of their indices exactly if they name them in order
  pub named-all : (n : ℕ) → n ≤ 64 → list_all names_index (enumerate_from 0 (take (2 * n - 3) records)) ≡ named_in_order n records
  unfolding named_in_order branches_read other_nodes
  named-all n most =
      let count : length (take (2 * n - 3) records) ≡ 2 * n - 3 = omega (arith, length-take (2 * n - 3) records) in
      named_from 0 (take (2 * n - 3) records)
      ∙ ap (λ (k : ℕ). same_numbers (map (λ (branch : Branch). branch.node) (take (2 * n - 3) records)) (numbers 2 k)) count

  -- of more than 64 taxa 125 records name too few nodes
  pub lent-more : (n : ℕ) → 64 < n → lent_branching n records ≡ false
  unfolding lent_branching named_in_order branches_read other_nodes
  lent-more n more = go (same_numbers nodes (numbers 2 (2 * n - 3))) refl
    where
      nodes : List ℕ
      nodes = map (λ (branch : Branch). branch.node) (take (2 * n - 3) records)

      short : nodes ≢ numbers 2 (2 * n - 3)
      short e =
          let read = length-take (2 * n - 3) records in
          let all = length-map (take (2 * n - 3) records) (λ (branch : Branch). branch.node) in
          omega (arith, ap length e, length-numbers 2 (2 * n - 3))

      go : (t : Bool) → same_numbers nodes (numbers 2 (2 * n - 3)) ≡ t → lent_branching n records ≡ false
      go true e = absurd (short ((same_numbers_iff nodes (numbers 2 (2 * n - 3))).0 e))
      go false e = ap (λ (t : Bool). t && branching n (ancestors_of n records)) e

-- of at most 64 taxa, the records are a branching exactly if they name the nodes in order and their tree is a branching
pub lent-within : (n : ℕ) (records : List Branch) → n ≤ 64
    → lent_branching n records ≡ (named_in_order n records && branching_within n (ancestors_of n records))
unfolding lent_branching
lent-within n records most =
    ap (λ (t : Bool). named_in_order n records && t) (sym (branching-plain n (ancestors_of n records) most))

-- 125 records give a tree with 127 entries
length-lent : (n : ℕ) (records : List Branch) → length records ≡ 125 → length (ancestors_of n records) ≡ 127
unfolding ancestors_of branches_read
length-lent n records size =
    let read = length-take (2 * n - 3) records in
    let all = length-map (take (2 * n - 3) records) (λ (branch : Branch). branch.ancestor) in
    length-filled 0 127 (0 ∷ (0 ∷ ancestors_given (take (2 * n - 3) records))) (omega arith)

-- the records of a branching written over a list of 125
module _ (d : ℕ → ℕ → ℕ) (n : ℕ) (tree : List ℕ) (old : List Branch) (size : length old ≡ 125) (most : n ≤ 64) where
  -- read again, they are its records
  read_written : branches_read n (with_records d n tree old) ≡ branches_read n (branch_records d n tree)
  unfolding branches_read with_records
  read_written =
      let records = branch_records d n tree in
      let all = records-count d n tree old in
      ap (λ (k : ℕ). take k (over 0 records old)) (sym all)
      ∙ over_item 0 records old (omega arith)
      ∙ sym (take_all (2 * n - 3) records (omega arith))

  -- as many as before
  length_written : length (with_records d n tree old) ≡ 125
  unfolding with_records
  length_written = length_over 0 (branch_records d n tree) old ∙ size

  -- they give the ancestors that its records give
  ancestors_written : ancestors_of n (with_records d n tree old) ≡ ancestors_of n (branch_records d n tree)
  unfolding ancestors_of
  ancestors_written = ap (λ (read : List Branch). tree_with (ancestors_given read)) read_written

  module _ (b : Branching n tree) where
    -- they are a branching
    pub written_lent : 1 ≤ n → lent_branching n (with_records d n tree old) ≡ true
    unfolding lent_branching named_in_order ancestors_of
    written_lent taxa = ap lent read_written ∙ records-lent d n tree b taxa
      where
        lent : List Branch → Bool
        lent read =
            same_numbers (map (λ (branch : Branch). branch.node) read) (other_nodes n)
            && branching n (tree_with (ancestors_given read))

    -- and they give the tree back, if it has 127 entries
    pub written_tree : length tree ≡ 127 → ancestors_of n (with_records d n tree old) ≡ tree
    unfolding ancestor
    written_tree sized =
        let all : length (ancestors_of n (with_records d n tree old)) ≡ 127 = length-lent n (with_records d n tree old) length_written in
        ext_get_or 0 (ancestors_of n (with_records d n tree old)) tree (all ∙ sym sized) (λ v h. same v)
      where
        same : (v : ℕ) → ancestor (ancestors_of n (with_records d n tree old)) v ≡ ancestor tree v
        same v = ap (λ (t : List ℕ). ancestor t v) ancestors_written ∙ sym (records-same d n tree b v)

-- which records are a branching
pub ruleset lending = (lent-more, lent-within)
