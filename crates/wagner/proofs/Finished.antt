-- The finished tree that a build hands back passes the questions of the call that writes it as branch records.
use Rattle.std.specs.Prelude.{Ok}
use mathlib.Core.Path.{◌≡◌, refl, sym, ap, ◌∙◌}
use mathlib.Core.Bool.{true, and-eq-true_iff}
use mathlib.Core.List.{List, []}
use Prim.Native.Nat.{ℕ, suc, ◌+◌, ◌-◌, ◌≤◌, ◌<◌}
use native.Mathlib.Omega.{arith}
use lib.Dec.{eqb}
use lib.IntN.{ℤ}
use lib.ListN.{length, get_or}
use borrow.Author.Tests.{eqb-true}
use Rattle.lists.specs.Numbers.{numbers}
use Rattle.lists.specs.Tests.{every}
use Rattle.lists.proofs.Every.{every-from}
use Rattle.matrix_form.specs.Shape.{row, MatrixLists, with_codes}
use Rattle.matrix_form.specs.NodeRows.{row_of, rows_of}
use Rattle.matrix_form.specs.Questions.{LentMatrix, LentWeights, all_in_range, ask_rows_of}
use Rattle.matrix_form.proofs.Passing.{matrix_passes, numbers_asked}
use Rattle.matrix_form.proofs.NodeRows.{length-rows_of, row_of-next, row_of-rows_of}
use Rattle.difference_form.specs.Rows.{difference}
use Rattle.difference_form.proofs.Laws.Rows.{medians-in_range}
use Rattle.tree_form.specs.Nodes.{taxa_placed}
use Rattle.tree_form.specs.Growing.{growing_tree, branching}
use Rattle.tree_form.specs.Asking.{branches_size, htus_of, ask_finished, ask_records}
use Rattle.tree_form.proofs.Test.{branching_iff}
use Rattle.tree_form.specs.declared.order.Order.{Order}
use Rattle.wagner_form.specs.Next.{next_by}
use Rattle.wagner_form.specs.Build.{Built, build, wagner}
use Rattle.wagner_form.specs.Matrix.{matrix_after, wagner_in}
use Rattle.wagner_form.proofs.EachRow.{row_passes, rows_pass}
use Rattle.wagner_form.proofs.Matrix.{after_size, after_rows}
use Rattle.wagner.proofs.Lengths.{ours_sound, ours-branching, ours_room}

-- a row of no codes has none out of range
none-known : all_in_range [] ≡ true
unfolding all_in_range every
none-known = refl

-- the Wagner tree of a lent matrix
module _ (order : Order) (lists : MatrixLists) (n m : ℕ) (lent : LentMatrix lists.codes n m) where
  -- the build, and the matrix after it
  abbrev ours : Built
  ours = wagner_in order lists n m

  abbrev after : List ℤ
  after = matrix_after lists.codes n ours

  -- all its rows have codes from -999 to 999
  ours-known : every all_in_range ours.rows ≡ true
  unfolding wagner_in wagner build
  ours-known =
      rows_pass all_in_range none-known medians-in_range (difference lists.weights) n (next_by (difference lists.weights) order) (n - 1) _
      (rows_of lists.codes m n) (every-from all_in_range [] (rows_of lists.codes m n) each)
    where
      each : (i : ℕ) → i < length (rows_of lists.codes m n) → all_in_range (get_or (rows_of lists.codes m n) i []) ≡ true
      each i h =
          let below : i < n = omega (arith, length-rows_of lists.codes m n) in
          rw (sym (row_of-next (rows_of lists.codes m n) i) ∙ row_of-rows_of lists.codes m n (suc i) (omega arith) (omega arith))
          (lent.known (suc i) (omega arith) (omega arith))

  -- so have the rows of its nodes in the matrix
  after_known : (v : ℕ) → 1 ≤ v → v ≤ n + (n - 2) → all_in_range (row after m v) ≡ true
  after_known v low high =
      rw
      (sym (row_of-rows_of after m (n + (n - 2)) v low high)
      ∙ ap (λ (rows : List (List ℤ)). row_of rows v)
      (after_rows (difference lists.weights) lists.codes n m lent.characters (ours_room order lists n m lent) ours
      (ours_sound order lists n m lent)))
      (row_passes all_in_range none-known ours.rows ours-known v)

  -- the matrix after the build is a lent matrix
  pub after_lent : LentMatrix after n m
  after_lent = record {
    full = after_size (difference lists.weights) lists.codes n m lent.characters (ours_room order lists n m lent) ours
        (ours_sound order lists n m lent)
        ∙ lent.full;
    taxon = lent.taxon;
    taxa = lent.taxa;
    character = lent.character;
    characters = lent.characters;
    known = λ v low high. after_known v low (omega arith);
  }

  -- the tree and the matrix that a build hands back are refused by no question of the call that writes its branch records
  pub built_passes : LentWeights lists.weights m → ask_records (with_codes lists after) n m ours.tree branches_size ≡ Ok tt
  unfolding ask_records ask_finished htus_of branching
  built_passes weighted =
      let test : branching n ours.tree ≡ true = (branching_iff ours.tree n lent.taxon).1
      (ours-branching order lists n m lent) in
      let all : taxa_placed n ours.tree ≡ n =
      eqb-true _ _ ((and-eq-true_iff (growing_tree n ours.tree) (eqb (taxa_placed n ours.tree) n)).0 test).1 in
      let htus : ask_rows_of (with_codes lists after) m (numbers (n + 1) (taxa_placed n ours.tree - 2)) ≡ Ok tt =
      (numbers_asked (with_codes lists after) m (n + 1) (taxa_placed n ours.tree - 2)).1
      (λ v low high. after_known v (omega arith) (omega (arith, all))) in
      rw ((matrix_passes (with_codes lists after) n m).1 (after_lent, weighted), test, htus)
