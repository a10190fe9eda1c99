-- After a build the taxa have their rows as before, so what passed the questions on a lent matrix passes them again.
use mathlib.Core.Path.{◌≡◌, sym, ap, ◌∙◌}
use mathlib.Core.List.{List, []}
use Prim.Native.Nat.{ℕ, suc, ◌≤◌, ◌<◌}
use native.Mathlib.Omega.{arith}
use lib.IntN.{ℤ}
use lib.Seq.{ext_get_or}
use Rattle.matrix_form.specs.NodeRows.{rows_of}
use Rattle.matrix_form.specs.Shape.{row, MatrixLists, with_codes}
use Rattle.matrix_form.specs.Spans.{singles, spans_of}
use Rattle.matrix_form.specs.Questions.{LentMatrix, all_in_range}
use Rattle.matrix_form.proofs.NodeRows.{length-rows_of, get_or-rows_of}
use Rattle.difference_form.specs.Rows.{difference}
use Rattle.tree_form.specs.declared.order.Order.{Order}
use Rattle.wagner_form.specs.Matrix.{matrix_after, wagner_in}
use Rattle.wagner_form.proofs.Matrix.{after_size, after_taxon}
use Rattle.wagner.proofs.Lengths.{ours_sound, ours_room}

-- a lent matrix, and what it holds after the build
module _ (order : Order) (lists : MatrixLists) (n m : ℕ) (lent : LentMatrix lists.codes n m) where
  abbrev after : List ℤ
  after = matrix_after lists.codes n (wagner_in order lists n m)

  -- the row of a taxon
  taxon-same : (v : ℕ) → 1 ≤ v → v ≤ n → row after m v ≡ row lists.codes m v
  taxon-same = after_taxon (difference lists.weights) lists.codes n m lent.characters (ours_room order lists n m lent)
      (wagner_in order lists n m)
      (ours_sound order lists n m lent)

  -- it is a lent matrix as before
  pub still_lent : LentMatrix after n m
  still_lent = record {
    full = after_size (difference lists.weights) lists.codes n m lent.characters (ours_room order lists n m lent)
        (wagner_in order lists n m)
        (ours_sound order lists n m lent) ∙ lent.full;
    taxon = lent.taxon;
    taxa = lent.taxa;
    character = lent.character;
    characters = lent.characters;
    known = λ v l h. ap all_in_range (taxon-same v l h) ∙ lent.known v l h;
  }

  -- with the same rows
  pub same-taxa : rows_of after m n ≡ rows_of lists.codes m n
  same-taxa =
      ext_get_or [] (rows_of after m n) (rows_of lists.codes m n) (length-rows_of after m n ∙ sym (length-rows_of lists.codes m n))
      (λ i h.
      let below : i < n = omega (arith, length-rows_of after m n) in
      get_or-rows_of after m n i below ∙ taxon-same (suc i) (omega arith) (omega arith) ∙ sym (get_or-rows_of lists.codes m n i below))

  -- so the taxa have the same states
  pub same-states : spans_of (with_codes lists after) m n ≡ spans_of lists m n
  unfolding spans_of
  same-states = ap singles same-taxa
