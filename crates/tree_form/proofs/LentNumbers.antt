-- A branching as a list of numbers: the records read from it, and records written over it and read again.
use mathlib.Core.Path.{◌≡◌, refl, sym, ◌∙◌, ap, ap₂}
use mathlib.Core.Logic.{by_cases}
use mathlib.Core.Bool.{true, ◌&&◌}
use mathlib.Core.List.{List, [], ◌∷◌, map, zip_with}
use Prim.Native.Nat.{ℕ, ◌+◌, ◌*◌, ◌-◌, ◌≤◌, ◌<◌}
use native.Mathlib.Omega.{arith}
use native.Mathlib.Decide.{dec_le}
use native.Mathlib.Nat.{zero-add}
use lib.ListN.{length, get_or, replicate, length-map, length-take, get_or-map, get_or-eq_default}
use lib.Seq.{get_or-take, ext_get_or}
use Rattle.lists.specs.Numbers.{numbers}
use Rattle.lists.specs.Over.{over, stripes}
use Rattle.lists.proofs.Every.{same_numbers_iff}
use Rattle.lists.proofs.Maps.{length_zip, get_d_zip}
use Rattle.lists.proofs.Numbers.{length-numbers, get_or-numbers, length_map_numbers, map-numbers}
use Rattle.lists.proofs.Stripes.{Narrow, length-stripes, stripes-inside, stripes-behind}
use Rattle.tree_form.specs.declared.branch.Branch.{Branch}
use Rattle.tree_form.specs.Ancestors.{tree_with}
use Rattle.tree_form.specs.Nodes.{other_nodes}
use Rattle.tree_form.specs.Growing.{branching}
use Rattle.tree_form.specs.Branches.{branches_read, ancestors_of, named_in_order, lent_branching}
use Rattle.tree_form.specs.Asking.{branches_size}
use Rattle.tree_form.specs.LentNumbers.{record_size, lent_numbers, record_at, records_in, record_numbers, records_for, records_written}
use Rattle.tree_form.proofs.Lending.{no_branch}

-- as many numbers are lent as 125 records have
lent-size : lent_numbers ≡ record_size * branches_size
lent-size = refl

-- the second record of lent numbers begins with the fourth of them
second_record : record_at (7 ∷ 8 ∷ 9 ∷ 2 ∷ 5 ∷ 1 ∷ 3 ∷ []) 1 ≡ record { node = 2; ancestor = 5; length = 0 }
unfolding record_at
second_record = refl

-- the records of three taxa written over twelve sevens: three sevens stay behind them
three_written : records_written (4 ∷ 4 ∷ 1 ∷ []) (replicate 12 7) ≡ 2 ∷ 4 ∷ 0 ∷ 3 ∷ 4 ∷ 0 ∷ 4 ∷ 1 ∷ 0 ∷ 7 ∷ 7 ∷ 7 ∷ []
unfolding records_for zip_with numbers stripes over
three_written = refl

-- 125 records are read from lent numbers
pub length-records_in : (lent : List ℕ) → length (records_in lent) ≡ branches_size
unfolding records_in
length-records_in lent = length_map_numbers (record_at lent) 0 branches_size

-- each is the one of its place
pub get_or-records_in : (lent : List ℕ) (k : ℕ) → k < branches_size → get_or (records_in lent) k no_branch ≡ record_at lent k
unfolding records_in
get_or-records_in lent k h = map-numbers (record_at lent) no_branch 0 branches_size k h ∙ ap (record_at lent) (zero-add k)

-- there is a record for each immediate ancestor
pub length-records_for : (above : List ℕ) → length (records_for above) ≡ length above
unfolding records_for
length-records_for above =
    let count = length-numbers 2 (length above) in
    length_zip record_numbers (numbers 2 (length above)) above (sym count) ∙ count

-- the one at index k is that of node k + 2
pub get_or-records_for : (above : List ℕ) (k : ℕ) → k < length above
    → get_or (records_for above) k [] ≡ record_numbers (k + 2) (get_or above k 0)
unfolding records_for
get_or-records_for above k h =
    let node : 2 + k ≡ k + 2 = omega arith in
    get_d_zip record_numbers 0 0 [] (numbers 2 (length above)) above k (omega (arith, length-numbers 2 (length above))) h
    ∙ ap (λ (v : ℕ). record_numbers v (get_or above k 0)) (get_or-numbers 2 (length above) k 0 h ∙ node)

-- none is wider than three numbers
pub narrow_records_for : (above : List ℕ) → Narrow record_size (records_for above)
narrow_records_for above k =
    by_cases
    (dec_le (length above) k)
    (λ beyond.
    let past : length (records_for above) ≤ k = omega (arith, length-records_for above) in
    omega (arith, ap length (get_or-eq_default (records_for above) [] past)))
    (λ within.
    let inside : k < length above = omega arith in
    omega (arith, ap length (get_or-records_for above k inside)))

-- lent numbers that records are written over are as many as before
pub length-records_written : (above old : List ℕ) → length (records_written above old) ≡ length old
length-records_written above old = length-stripes record_size 0 (records_for above) old

-- behind the records all numbers are as before
pub behind-records_written : (above old : List ℕ) (i : ℕ) → record_size * length above ≤ i
    → get_or (records_written above old) i 0 ≡ get_or old i 0
behind-records_written above old i h =
    let behind : 0 + length (records_for above) * record_size ≤ i = omega (arith, length-records_for above) in
    stripes-behind record_size 0 0 (records_for above) old (narrow_records_for above) i behind

-- records of at most 125 nodes written over lent numbers
module _ (above old : List ℕ) (most : length above ≤ branches_size) (size : length old ≡ lent_numbers) where
  -- each number of a record stands at its place
  number_written : (k : ℕ) → k < length above → (i : ℕ) → i < record_size
      → get_or (records_written above old) (record_size * k + i) 0 ≡ get_or (record_numbers (k + 2) (get_or above k 0)) i 0
  number_written k h i l =
      let item = get_or-records_for above k h in
      let place : record_size * k + i ≡ 0 + k * record_size + i = omega arith in
      ap (λ (p : ℕ). get_or (records_written above old) p 0) place
      ∙ stripes-inside record_size 0 0 (records_for above) old (narrow_records_for above) k i (omega (arith, ap length item)) (omega arith)
      ∙ ap (λ (numbers : List ℕ). get_or numbers i 0) item

  -- so the record at index k is read again
  pub record_written : (k : ℕ) → k < length above
      → record_at (records_written above old) k ≡ record { node = k + 2; ancestor = get_or above k 0; length = 0 }
  unfolding record_at
  record_written k h =
      let first : record_size * k ≡ record_size * k + 0 = omega arith in
      let made : ℕ → ℕ → Branch = λ v a. record { node = v; ancestor = a; length = 0 } in
      ap₂ made
      (ap (λ (p : ℕ). get_or (records_written above old) p 0) first ∙ number_written k h 0 (omega arith))
      (number_written k h 1 (omega arith))

  -- and its third number is 0
  pub third_written : (k : ℕ) → k < length above → get_or (records_written above old) (record_size * k + 2) 0 ≡ 0
  third_written k h = number_written k h 2 (omega arith)

-- the branches that are read from lent numbers after records were written over them
abbrev read_again : ℕ → List ℕ → List ℕ → List Branch
read_again n above old = branches_read n (records_in (records_written above old))

-- the records of a tree of n taxa written over lent numbers and read again
module _ (n : ℕ) (above old : List ℕ) (taxa : n ≤ 64) (count : length above ≡ 2 * n - 3) (size : length old ≡ lent_numbers) where
  -- there are 2n-3 of them
  length_read : length (read_again n above old) ≡ 2 * n - 3
  unfolding branches_read
  length_read =
      omega (arith, length-take (2 * n - 3) (records_in (records_written above old)), length-records_in (records_written above old))

  -- the one at index k is that of node k + 2
  get_d_read : (k : ℕ) → k < 2 * n - 3
      → get_or (read_again n above old) k no_branch ≡ record { node = k + 2; ancestor = get_or above k 0; length = 0 }
  unfolding branches_read
  get_d_read k h =
      let written = records_written above old in
      get_or-take (2 * n - 3) (records_in written) k no_branch h
      ∙ get_or-records_in written k (omega arith)
      ∙ record_written above old (omega arith) size k (omega arith)

  -- a number of each of them
  each_read : (f : Branch → ℕ) (numbers : List ℕ) → length numbers ≡ 2 * n - 3
      → ((k : ℕ) → k < 2 * n - 3 → f (record { node = k + 2; ancestor = get_or above k 0; length = 0 }) ≡ get_or numbers k (f no_branch))
      → map f (read_again n above old) ≡ numbers
  each_read f numbers all each =
      let read = read_again n above old in
      ext_get_or (f no_branch) (map f read) numbers (length-map read f ∙ length_read ∙ sym all) (λ k h.
      let inside : k < 2 * n - 3 = omega (arith, length-map read f, length_read) in
      get_or-map f read k no_branch ∙ ap f (get_d_read k inside) ∙ each k inside)

  -- they give the tree's immediate ancestors
  pub written_ancestors : ancestors_of n (records_in (records_written above old)) ≡ tree_with above
  unfolding ancestors_of
  written_ancestors = ap tree_with (each_read (λ (branch : Branch). branch.ancestor) above count (λ k h. refl))

  -- they name nodes 2 to 2n-2 in order
  pub written_named : named_in_order n (records_in (records_written above old)) ≡ true
  unfolding named_in_order other_nodes
  written_named =
      let node : (k : ℕ) → k < 2 * n - 3 → k + 2 ≡ get_or (numbers 2 (2 * n - 3)) k 0 =
      λ k h. omega (arith, get_or-numbers 2 (2 * n - 3) k 0 h) in
      (same_numbers_iff _ (numbers 2 (2 * n - 3))).1
      (each_read (λ (branch : Branch). branch.node) (numbers 2 (2 * n - 3)) (length-numbers 2 (2 * n - 3)) node)

  -- so they are a branching exactly if the tree is one
  pub written_branching : lent_branching n (records_in (records_written above old)) ≡ branching n (tree_with above)
  unfolding lent_branching
  written_branching = ap₂ ◌&&◌ written_named (ap (branching n) written_ancestors)
