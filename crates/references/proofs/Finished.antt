-- What the call writes of the finished tree that a build hands back: the branches of the finished tree.
use mathlib.Core.Path.{◌≡◌, sym, ◌∙◌}
use mathlib.Core.List.{List}
use Prim.Native.Nat.{ℕ}
use lib.IntN.{ℤ}
use lib.ListN.{length}
use Rattle.lists.specs.Over.{over}
use Rattle.matrix_form.specs.Outcomes.{Asked, value}
use Rattle.std.specs.Prelude.{Ok}
use Rattle.matrix_form.specs.Questions.{LentMatrix, LentWeights}
use Rattle.difference_form.specs.Rows.{difference}
use Rattle.tree_form.specs.declared.branch.Branch.{Branch}
use Rattle.tree_form.specs.Ancestors.{ancestor}
use Rattle.tree_form.specs.Asking.{branches_size, ask_records}
use Rattle.tree_form.specs.Branches.{with_records}
use Rattle.tree_form.specs.declared.order.Order.{Order}
use Rattle.wagner_form.specs.Build.{Built, wagner_branches}
use Rattle.wagner_form.specs.Matrix.{matrix_after, wagner_in}
use Rattle.wagner.specs.Steps.{length_in}
use Rattle.wagner.proofs.Lengths.{records_agree, length_in-plain, built-branches}
use Rattle.wagner.proofs.Finished.{built_passes}
use Rattle.references.specs.Written.{code_difference, records_say, RecordsWritten}
use Rattle.matrix_form.specs.Shape.{MatrixLists, with_codes}

-- the Wagner tree of a lent matrix with its weights
module _ (order : Order) (lists : MatrixLists) (n m : ℕ) (lent : LentMatrix lists.codes n m)
    (weighted : LentWeights lists.weights m) where
  -- the build, and the matrix after it
  abbrev ours : Built
  ours = wagner_in order lists n m

  abbrev after : List ℤ
  after = matrix_after lists.codes n ours

  -- what the call writes are the branches of the finished tree, over the first 2n-3 records
  pub built_written : (old new : List Branch) (r : Asked) → length old ≡ branches_size
      → RecordsWritten (with_codes lists after) n m ours.tree old new r
      → (r ≡ Ok tt) × (new ≡ over 0 (wagner_branches (difference lists.weights) n ours) old)
  unfolding records_say
  built_written old new r size written =
      let passes : ask_records (with_codes lists after) n m ours.tree (length old) ≡ Ok tt =
      rw size (built_passes order lists n m lent weighted) in
      let says : records_say (with_codes lists after) n m ours.tree (length old) ≡ value tt = rw passes in
      let records : new ≡ with_records (code_difference (with_codes lists after) m) n ours.tree old = rw says at written.records in
      (written.says ∙ passes, records ∙ same ∙ built-branches order lists n m lent old size)
    where
      same : with_records (code_difference (with_codes lists after) m) n ours.tree old
          ≡ with_records (length_in (with_codes lists after) m) n ours.tree old
      same =
          records_agree (code_difference (with_codes lists after) m) (length_in (with_codes lists after) m) n ours.tree old size
          (λ v low h high. unfold code_difference in sym (length_in-plain (with_codes lists after) m v (ancestor ours.tree v)
          lent.characters))
