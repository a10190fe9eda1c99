-- The columns of a lent matrix are its characters, and their lengths under the chosen states stay small.
use Rattle.std.specs.Bool.{then_some}
use Rattle.std.proofs.Common.{Option, Some, ◌≡◌, ℕ, suc, ◌+◌, ◌-◌, ◌*◌, ◌<◌, ◌≤◌, true, List, length, get_or, ℤ, pos, sym, ap, ◌∙◌, mul-le-mul, arith, le-leb}
use mathlib.Core.Logic.{by_cases}
use borrow.Author.Tests.{lt-leb}
use native.Mathlib.Decide.{dec_le}
use Rattle.lists.specs.Numbers.{numbers}
use Rattle.lists.specs.Sums.{sum_over}
use Rattle.lists.proofs.Every.{every_at}
use Rattle.lists.proofs.Numbers.{numbers-within, length-numbers}
use Rattle.lists.proofs.Sums.{sum_most}
use Rattle.matrix_form.specs.Shape.{most_taxa, row, state_at, in_range, heaviest, weight_of, MatrixLists}
use Rattle.matrix_form.specs.NodeRows.{row_of, rows_of}
use Rattle.matrix_form.specs.Spans.{only, spans_of}
use Rattle.matrix_form.specs.Questions.{LentMatrix, all_in_range, are_weights}
use Rattle.matrix_form.proofs.NodeRows.{get_or-rows_of}
use Rattle.matrix_form.proofs.Row.{row-code, row-length}
use Rattle.difference_form.specs.Rows.{most_apart}
use Rattle.difference_form.proofs.Laws.Weights.{weight_of-within}
use Rattle.tree_form.specs.Nodes.{other_nodes}
use Rattle.tree_form.specs.Within.{branching_within}
use Rattle.fit_form.specs.Assignments.{character}
use Rattle.fit_form.proofs.Matrix.Proper.{character-single, spans_proper}
use Rattle.fit_passes.specs.Steps.{Each, Known, Column, OwnSets, character_length}
use Rattle.fit_form.proofs.Clades.Hanging.{clade_of}
use Rattle.fit_passes.proofs.Matrix.LeastCost.{character-cost, cost-most, gap_row1}
use Rattle.fit_passes.proofs.Pass.Standing.{taxa-most, grown_of, root-within}
use Rattle.matrix_form.specs.declared.spans.Span.{Span}

-- no character is longer: twice 1998 for each of 64 taxa, and 1998 between row 1 and the others
abbrev longest_character : ℕ
longest_character = 2 * most_apart * most_taxa + most_apart

-- as often as its weight says, it counts for at most 9 times as much
abbrev longest_weighed : ℕ
longest_weighed = heaviest * longest_character

-- where there is no branch a character has no length
no_branch_lem : (tree : List ℕ) (rows : List (List Span)) (n j : ℕ) → 2 * n - 3 ≡ 0 → character_length tree rows n j ≡ 0
unfolding character_length other_nodes sum_over numbers
no_branch_lem tree rows n j none = rw none

-- a lent matrix of n taxa and m characters
module _ (lists : MatrixLists) (n m : ℕ) (lent : LentMatrix lists.codes n m) where
  -- the states of its taxa
  abbrev rows : List (List Span)
  rows = spans_of lists m n

  -- in character j taxon v has the code alone that stands in column j of its row
  pub character-code : (v j : ℕ) → 1 ≤ v → v ≤ n → 1 ≤ j → j ≤ m → character rows j v ≡ only (state_at lists.codes v j)
  unfolding spans_of row_of
  character-code v j l h first last =
      let here : suc (v - 1) ≡ v = omega arith in
      character-single (rows_of lists.codes m n) j v
      ∙ ap (λ (r : List ℤ). only (get_or r (j - 1) (pos 0)))
      (get_or-rows_of lists.codes m n (v - 1) (omega arith) ∙ ap (row lists.codes m) here)
      ∙ ap only (row-code lists.codes m v (j - 1) (omega arith))

  -- it is from -999 to 999
  code-known : (v j : ℕ) → 1 ≤ v → v ≤ n → 1 ≤ j → j ≤ m → in_range (state_at lists.codes v j) ≡ true
  unfolding all_in_range
  code-known v j l h first last =
      let few = lent.taxa in
      let size = row-length lists.codes m v lent.full lent.characters l (omega arith) in
      let below : j - 1 < length (row lists.codes m v) = omega arith in
      rw (sym (row-code lists.codes m v (j - 1) (omega arith)))
      (every_at in_range (row lists.codes m v) (lent.known v l h) (j - 1) (pos 0) below)

  -- so are both ends of the taxon's states
  pub character-known : (v j : ℕ) → 1 ≤ v → v ≤ n → 1 ≤ j → j ≤ m → Each Known (character rows j v)
  unfolding only
  character-known v j l h first last =
      rw (character-code v j l h first last)
      (record { at_low = code-known v j l h first last; at_high = code-known v j l h first last })

  -- so a column has the states of a character
  pub column-own : (j : ℕ) → 1 ≤ j → j ≤ m → (column : List (Option Span)) → Column lists.codes n j column → OwnSets rows n j column
  column-own j first last column is = record {
    taxon = lent.taxon;
    are = λ v l h.
        let few = lent.taxa in
        is.are v (omega arith)
        ∙ ap (λ t. then_some t (only (state_at lists.codes v j))) (le-leb v n h)
        ∙ ap (λ (a : Span). Some a) (sym (character-code v j l h first last));
    none = λ v l h. is.are v h ∙ ap (λ t. then_some t (only (state_at lists.codes v j))) (lt-leb v n l);
    known = λ v l h. character-known v j l h first last;
    proper = λ v l h. (spans_proper lists n m).proper v j l h first last;
  }

  module _ (tree : List ℕ) (branches : branching_within n tree ≡ true) where
    -- a character's length is small
    pub character-most : (j : ℕ) → 1 ≤ j → j ≤ m → character_length tree rows n j ≤ longest_character
    character-most j first last =
        by_cases (dec_le 2 n)
        (λ two.
        let grown = grown_of n tree branches two in
        let clade = clade_of n tree grown in
        let place = root-within n tree grown in
        let known : (u : ℕ) → 1 ≤ u → u ≤ n → Each Known (character rows j u) = λ u l h. character-known u j l h first last in
        omega (
          arith,
          character-cost n tree grown rows j (λ u l h. (spans_proper lists n m).proper u j l h first last) clade.root clade.of_row1,
          cost-most n tree grown rows j known clade.root place.0 place.1,
          gap_row1 n tree grown rows j known clade.root place.0 place.1,
          taxa-most n tree branches,
        ))
        (λ few.
        let none : 2 * n - 3 ≡ 0 = omega arith in
        omega (arith, no_branch_lem tree rows n j none))

    -- so is the sum of the lengths of k characters, each as often as its weight says
    pub characters-most : (weights : List ℕ) → are_weights weights m ≡ true → (k : ℕ) → k ≤ m
        → sum_over (λ j. weight_of weights j * character_length tree rows n j) (numbers 1 k) ≤ k * longest_weighed
    characters-most weights weighed k last =
        let most =
        sum_most (λ j. weight_of weights j * character_length tree rows n j) longest_weighed (numbers 1 k) (λ j i.
        let w = numbers-within 1 k j i in
        let end : j ≤ m = omega (arith, w.1) in
        mul-le-mul (weight_of-within weights m weighed j w.0 end).1 (character-most j w.0 end)) in
        rw (length-numbers 1 k) at most
