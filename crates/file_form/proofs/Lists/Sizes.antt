-- The sizes of the lent lists of a read: as they are compared, and that the file decides where all are right.
use mathlib.Core.Path.{◌≡◌, refl, sym, ap, ◌∙◌}
use mathlib.Core.Bool.{Bool, true, false, ◌&&◌, not, and-true}
use mathlib.Core.List.{List}
use Prim.Native.Nat.{ℕ}
use borrow.Author.Tests.{eq-eqb, eqb-true}
use lib.Dec.{eqb}
use lib.ListN.{length}
use Rattle.lists.proofs.Both.{and_left, and_right}
use Rattle.matrix_form.specs.Shape.{columns, matrix_size}
use Rattle.tree_form.specs.LentNumbers.{lent_numbers}
use Rattle.file_form.specs.Reading.{read_answer}
use Rattle.file_form.specs.Written.{names_size, LentLists}
use Rattle.file_form.specs.Calls.{full_size, ask_size, read_outcome}

-- lent lists of full size, by their lengths
module _ (matrix weights names branches : ℕ) where
  -- whether one has another length, as the lengths are compared together
  pub sizes_told : (other : Bool)
      → other ≡ not (eqb matrix matrix_size && (eqb weights columns && (eqb names names_size && (eqb branches lent_numbers && true))))
      → full_size matrix weights names branches ≡ not other
  unfolding full_size
  sizes_told other e =
      ap (λ last. eqb matrix matrix_size && (eqb weights columns && (eqb names names_size && last))) (sym (and-true (eqb branches lent_numbers)))
      ∙ sym (ap not e ∙ twice _)
    where
      twice : (b : Bool) → not (not b) ≡ b
      twice true = refl
      twice false = refl

  -- lists that have their sizes pass them
  pub full-lists : (matrix ≡ matrix_size) × (weights ≡ columns) × (names ≡ names_size) × (branches ≡ lent_numbers)
      → full_size matrix weights names branches ≡ true
  unfolding full_size
  full-lists sizes =
      rw (
        eq-eqb matrix matrix_size sizes.0,
        eq-eqb weights columns sizes.1,
        eq-eqb names names_size sizes.2,
        eq-eqb branches lent_numbers sizes.3,
      )

  -- lists that pass them have their sizes
  pub lists-full : full_size matrix weights names branches ≡ true
      → (matrix ≡ matrix_size) × (weights ≡ columns) × (names ≡ names_size) × (branches ≡ lent_numbers)
  unfolding full_size
  lists-full e =
      let others = and_right (eqb matrix matrix_size) _ e in
      let last = and_right (eqb weights columns) _ others in (
        eqb-true matrix matrix_size (and_left (eqb matrix matrix_size) _ e),
        eqb-true weights columns (and_left (eqb weights columns) _ others),
        eqb-true names names_size (and_left (eqb names names_size) _ last),
        eqb-true branches lent_numbers (and_right (eqb names names_size) _ last),
      )

-- whether lent lists have their full size
abbrev pub sized : LentLists → Bool
sized lists = full_size (length lists.matrix) (length lists.weights) (length lists.names) (length lists.branches)

-- where they have it the file decides
pub full : (file : List ℕ) (lists : LentLists) → sized lists ≡ true → read_outcome file lists ≡ read_answer file
unfolding read_outcome ask_size
full file lists h = rw h
