-- The finished tree as branch records: its lengths under the codes of the matrix, and that their sum is the length of the tree.
use mathlib.Core.Path.{◌≡◌, refl, sym, ap, ap₂, ◌∙◌}
use mathlib.Core.Logic.{by_cases}
use mathlib.Core.List.{List, map}
use Prim.Native.Nat.{ℕ, suc, ◌+◌, ◌*◌, ◌-◌, ◌≤◌, ◌<◌, min}
use native.Mathlib.Omega.{arith}
use native.Mathlib.Decide.{dec_le}
use lib.IntN.{ℤ, pos}
use lib.ListN.{length, get_or, take, drop, length-take}
use lib.Seq.{ext_get_or, get_or-take, take-take}
use Rattle.lists.specs.Numbers.{numbers}
use Rattle.lists.specs.Over.{over}
use Rattle.lists.specs.Sums.{sum_over}
use Rattle.lists.proofs.Numbers.{length_map_numbers, map-numbers}
use Rattle.lists.proofs.Over.{over-part}
use Rattle.lists.proofs.Sums.{sum_map}
use Rattle.matrix_form.specs.Shape.{row, row_start, columns, MatrixLists, with_codes}
use Rattle.matrix_form.specs.NodeRows.{row_of, rows_of}
use Rattle.matrix_form.specs.Questions.{LentMatrix}
use Rattle.matrix_form.proofs.Row.{row_128}
use Rattle.matrix_form.proofs.NodeRows.{length-rows_of, row_of-rows_of}
use Rattle.difference_form.specs.Rows.{difference, node_difference}
use Rattle.tree_form.specs.declared.branch.Branch.{Branch}
use Rattle.tree_form.specs.Ancestors.{ancestor}
use Rattle.tree_form.specs.Nodes.{other_nodes}
use Rattle.tree_form.specs.Facts.{Branching}
use Rattle.tree_form.specs.Branches.{tree_length, branch_of, branch_records, with_records}
use Rattle.tree_records.specs.Lengths.{lengths_by}
use Rattle.tree_form.specs.RowLengths.{length_under}
use Rattle.tree_form.specs.Hanging.{only_row_one}
use Rattle.tree_form.proofs.Records.{records-length}
use Rattle.tree_form.proofs.Whole.{branching_nodes, growing_ancestor_le}
use Rattle.wagner_form.specs.Build.{Built, wagner_length, wagner_branches}
use Rattle.wagner.specs.Steps.{length_in, LengthsOf}
use Rattle.tree_form.specs.declared.order.Order.{Order}
use Rattle.wagner_form.specs.Matrix.{matrix_after, wagner_in}
use Rattle.wagner_form.proofs.Whole.{wagner-branching}
use Rattle.wagner_form.proofs.Difference.{wagner_sound}
use Rattle.wagner_form.proofs.Matrix.{rows_of-each, after_rows, after_else}
use Rattle.wagner_form.proofs.BuildLength.{Sound}

-- a record of zeros
abbrev no_branch : Branch
no_branch = record { node = 0; ancestor = 0; length = 0 }

-- records of two differences that agree on the branches of nodes 2 to 126 are one list of 125
pub records_agree : (d d' : ℕ → ℕ → ℕ) (n : ℕ) (tree : List ℕ) (old : List Branch) → length old ≡ 125
    → ((v : ℕ) → 2 ≤ v → v < 127 → v ≤ 2 * n - 2 → d v (ancestor tree v) ≡ d' v (ancestor tree v))
    → with_records d n tree old ≡ with_records d' n tree old
unfolding with_records branch_records other_nodes
records_agree d d' n tree old size same =
    sym (over-part 0 125 (records d) old (omega arith))
    ∙ ap (λ (list : List Branch). over 0 list old) firsts
    ∙ over-part 0 125 (records d') old (omega arith)
  where
    records : (ℕ → ℕ → ℕ) → List Branch
    records by = map (branch_of by tree) (numbers 2 (2 * n - 3))

    count : (by : ℕ → ℕ → ℕ) → length (records by) ≡ 2 * n - 3
    count by = length_map_numbers (branch_of by tree) 2 (2 * n - 3)

    firsts : take 125 (records d) ≡ take 125 (records d')
    firsts =
        ext_get_or no_branch (take 125 (records d)) (take 125 (records d'))
        (omega (arith, length-take 125 (records d), length-take 125 (records d'), count d, count d'))
        λ i h.
        let low : i < 125 = omega (arith, length-take 125 (records d)) in
        let below : i < 2 * n - 3 = omega (arith, length-take 125 (records d), count d) in
        get_or-take 125 (records d) i no_branch low
        ∙ map-numbers (branch_of d tree) no_branch 2 (2 * n - 3) i below
        ∙ branch_same (2 + i) (omega arith) (omega arith) (omega arith)
        ∙ sym (get_or-take 125 (records d') i no_branch low ∙ map-numbers (branch_of d' tree) no_branch 2 (2 * n - 3) i below)
      where
        branch_same : (v : ℕ) → 2 ≤ v → v < 127 → v ≤ 2 * n - 2 → branch_of d tree v ≡ branch_of d' tree v
        branch_same v low h high =
            unfold branch_of in
            ap {B = Branch} (λ (l : ℕ). record { node = v; ancestor = ancestor tree v; length = l }) (same v low h high)

-- the lengths by node number give the lengths under the codes
pub lengths-records : (lists : MatrixLists) (n m : ℕ) (tree lengths : List ℕ) (old : List Branch) → length old ≡ 125
    → LengthsOf lists m tree lengths
    → with_records (lengths_by lengths) n tree old ≡ with_records (length_in lists m) n tree old
unfolding lengths_by
lengths-records lists n m tree lengths old size of =
    records_agree (lengths_by lengths) (length_in lists m) n tree old size (λ v low h high. of.each v h)

-- of at most 128 characters it is the difference of the two rows
pub length_in-plain : (lists : MatrixLists) (m u v : ℕ) → m ≤ 128
    → length_in lists m u v ≡ node_difference (difference lists.weights) (row lists.codes m) u v
unfolding length_in node_difference
length_in-plain lists m u v narrow = ap₂ (difference lists.weights) (row_128 lists.codes m u narrow) (row_128 lists.codes m v narrow)

-- the row in the first 128 characters
row_first : (codes : List ℤ) (m v : ℕ) → row codes (min m 128) v ≡ take 128 (row codes m v)
unfolding row
row_first codes m v =
    by_cases
    (dec_le m 128)
    (λ narrow. let few : min m 128 ≡ m = omega arith in rw few (sym (row_128 codes m v narrow)))
    (λ wide. let many : min m 128 ≡ 128 = omega arith in rw many (sym (take-take 128 m (drop (row_start v) codes) (omega arith))))

-- it is the difference of the two rows in the first 128 characters
pub length_in-first : (lists : MatrixLists) (m u v : ℕ)
    → node_difference (difference lists.weights) (row lists.codes (min m 128)) u v ≡ length_in lists m u v
unfolding length_in node_difference
length_in-first lists m u v = ap₂ (difference lists.weights) (row_first lists.codes m u) (row_first lists.codes m v)

-- of a branching, the lengths of the branch records sum to the length of the tree
pub records_sum : (d : ℕ → ℕ → ℕ) (n : ℕ) (tree : List ℕ) → Branching n tree
    → sum_over (λ (branch : Branch). branch.length) (branch_records d n tree) ≡ tree_length d n tree
unfolding branch_records
records_sum d n tree whole =
    sum_map (λ (branch : Branch). branch.length) (branch_of d tree) (other_nodes n) ∙ sym (records-length d n tree whole)

-- the Wagner tree of a lent matrix
module _ (order : Order) (lists : MatrixLists) (n m : ℕ) (lent : LentMatrix lists.codes n m) where
  -- the build
  abbrev ours : Built
  ours = wagner_in order lists n m

  -- its tree, its rows and its length
  pub ours_sound : Sound (difference lists.weights) n m n only_row_one (rows_of lists.codes m n) ours
  unfolding wagner_in
  ours_sound =
      wagner_sound order lists.weights n m lent.taxon lent.taxa (rows_of lists.codes m n) (length-rows_of lists.codes m n)
      (rows_of-each lists.codes m n lent.characters (omega (arith, lent.full, lent.taxa)))

  -- it is a branching
  pub ours-branching : Branching n ours.tree
  unfolding wagner_in
  ours-branching = wagner-branching (difference lists.weights) order n lent.taxon lent.taxa (rows_of lists.codes m n)

  -- there is room for all its rows
  pub ours_room : row_start (suc (n + (n - 2))) ≤ length lists.codes
  ours_room = omega (arith, lent.full, lent.taxa)

  -- the matrix after the build holds the row of each node
  ours-row : (v : ℕ) → 1 ≤ v → v ≤ n + (n - 2) → row_of ours.rows v ≡ row (matrix_after lists.codes n ours) m v
  ours-row v low high =
      ap (λ (rows : List (List ℤ)). row_of rows v)
      (sym (after_rows (difference lists.weights) lists.codes n m lent.characters ours_room ours ours_sound))
      ∙ row_of-rows_of (matrix_after lists.codes n ours) m (n + (n - 2)) v low high

  -- the records written from the tree and the matrix that a build leaves are those of the finished tree, over the first 2n-3
  pub built-branches : (old : List Branch) → length old ≡ 125
      → with_records (length_in (with_codes lists (matrix_after lists.codes n ours)) m) n ours.tree old
      ≡ over 0 (wagner_branches (difference lists.weights) n ours) old
  unfolding wagner_branches
  built-branches old size =
      records_agree (length_in (with_codes lists (matrix_after lists.codes n ours)) m)
      (node_difference (difference lists.weights) (row_of ours.rows)) n
      ours.tree old size same
      ∙ unfold with_records in refl
    where
      same : (v : ℕ) → 2 ≤ v → v < 127 → v ≤ 2 * n - 2
          → length_in (with_codes lists (matrix_after lists.codes n ours)) m v (ancestor ours.tree v)
          ≡ node_difference (difference lists.weights) (row_of ours.rows) v (ancestor ours.tree v)
      same v low h high =
          let a : ℕ = ancestor ours.tree v in
          let inside : 1 ≤ a = branching_nodes n ours.tree ours-branching v low high in
          let reach : a ≤ 2 * n - 2 = growing_ancestor_le n ours.tree ours-branching v in
          length_in-plain (with_codes lists (matrix_after lists.codes n ours)) m v a lent.characters
          ∙ unfold node_difference in
          sym (ap₂ (difference lists.weights) (ours-row v (omega arith) (omega arith)) (ours-row a inside (omega arith)))

  -- their lengths sum to the length of the tree
  pub built_sum : sum_over (λ (branch : Branch). branch.length) (wagner_branches (difference lists.weights) n ours)
      ≡ wagner_length (difference lists.weights) n ours
  unfolding wagner_branches wagner_length length_under
  built_sum = records_sum (node_difference (difference lists.weights) (row_of ours.rows)) n ours.tree ours-branching

  -- which codes differ after a build: of no row but those of nodes n+1 to 2n-2, and of these none past column m
  pub built-else : (v j : ℕ) → 1 ≤ v → j < columns → (n < v → v ≤ n + (n - 2) → j < m → ⊥)
      → get_or (matrix_after lists.codes n ours) (row_start v + j) (pos 0) ≡ get_or lists.codes (row_start v + j) (pos 0)
  built-else = after_else (difference lists.weights) lists.codes n m lent.characters ours_room ours ours_sound
