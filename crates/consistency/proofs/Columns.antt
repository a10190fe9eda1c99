-- The columns of a lent matrix are its characters, so their floors are the matrix's, and its floor stays small.
use mathlib.Core.Path.{◌≡◌, refl, sym, ap, ap₂, ◌∙◌}
use mathlib.Core.Bool.{true}
use mathlib.Core.List.{List, [], ◌∷◌, Memᴰ}
use Prim.Native.Nat.{ℕ, zero, suc, ◌+◌, ◌≤◌}
use native.Mathlib.Omega.{arith}
use lib.IntN.{ℤ}
use Rattle.lists.specs.Numbers.{numbers}
use Rattle.lists.proofs.Numbers.{numbers-within, length-numbers}
use Rattle.lists.proofs.Maps.{map_same}
use Rattle.lists.proofs.Sums.{sum_same, sum_most}
use Rattle.matrix_form.specs.Shape.{in_range, weight_of, state_at, MatrixLists}
use Rattle.matrix_form.specs.Questions.{LentMatrix, LentWeights}
use Rattle.std.specs.List.{range_with_len, fold}
use Rattle.difference_form.specs.Rows.{part, most_part, lower, higher}
use Rattle.difference_form.proofs.Laws.Order.{lower-keeps}
use Rattle.difference_form.proofs.Laws.Points.{point, everywhere, lower-point, higher-point}
use Rattle.difference_form.proofs.Laws.Weights.{part-in_range, weight_of_weight}
use Rattle.matrix_form.specs.Spans.{only, spans_of}
use Rattle.matrix_form.specs.declared.spans.Span.{Span}
use Rattle.fit_form.specs.Assignments.{character}
use Rattle.fitting.proofs.Columns.{character-code, character-known}
use Rattle.consistency_form.specs.Floor.{left_by, lowest, highest, states_of, character_floor, floor}
use Rattle.consistency_form.specs.Calls.{lent_floor}
use Rattle.consistency.specs.Steps.{most_floor}
use Rattle.consistency.specs.Steps.{column, narrowed, ends_of, column_floors}
use Rattle.consistency_form.proofs.NeverPasses.{ends-keep}

-- the ends of the states of one row are these states
pub ends-one : (matrix : List ℤ) (j v : ℕ) → ends_of (column matrix j v 1) ≡ only (state_at matrix v j)
unfolding column numbers left_by lowest highest only
ends-one matrix j v = refl

-- the ends of the states of two rows or more, from those of the rows behind the first
ends_behind : (matrix : List ℤ) (j v count : ℕ) → ends_of (column matrix j v (suc (suc count)))
    ≡ narrowed (only (state_at matrix v j)) (ends_of (column matrix j (suc v) (suc count)))
unfolding column numbers left_by lowest highest
ends_behind matrix j v count = refl

-- in whichever order the states of two taxa come, the ends are the same
narrowed_swap : (x y ends : Span) → narrowed x (narrowed y ends) ≡ narrowed y (narrowed x ends)
narrowed_swap x y ends =
    ap₂ (λ (l h : ℤ). record { low = l; high = h })
    (everywhere (λ z. higher (z 0) (higher (z 1) (z 2)) ≡ higher (z 1) (higher (z 0) (z 2))) (λ K n. simp higher-point (ap (point K) (omega arith)))
    (x.low ∷ y.low ∷ ends.low ∷ []))
    (everywhere (λ z. lower (z 0) (lower (z 1) (z 2)) ≡ lower (z 1) (lower (z 0) (z 2))) (λ K n. simp lower-point (ap (point K) (omega arith)))
    (x.high ∷ y.high ∷ ends.high ∷ []))

module _ (matrix : List ℤ) (j : ℕ) where
  -- the ends of some states, with those of the rows of a list
  abbrev pub narrowed_by : Span → List ℕ → Span
  narrowed_by ends rows = fold (λ (e : Span) v. narrowed (only (state_at matrix v j)) e) ends rows

  -- states that come first may come last
  narrowed_last : (x ends : Span) (rows : List ℕ) → narrowed_by (narrowed x ends) rows ≡ narrowed x (narrowed_by ends rows)
  narrowed_last x ends [] = refl
  narrowed_last x ends (v ∷ rows) =
      ap (λ (e : Span). narrowed_by e rows) (narrowed_swap (only (state_at matrix v j)) x ends)
      ∙ narrowed_last x (narrowed (only (state_at matrix v j)) ends) rows

  -- the ends of the states of rows v to v + k, from those of the last and those of the rows before it
  pub ends_folded : (k v : ℕ) → narrowed_by (only (state_at matrix (v + k) j)) (range_with_len v k) ≡ ends_of (column matrix j v (suc k))
  ends_folded zero v = let same : v + 0 ≡ v = omega arith in ap (λ u. only (state_at matrix u j)) same ∙ sym (ends-one matrix j v)
  ends_folded (suc k) v =
      let own : Span = only (state_at matrix v j) in
      let last : v + suc k ≡ v + 1 + k = omega arith in
      let next : v + 1 ≡ suc v = omega arith in
      narrowed_last own (only (state_at matrix (v + suc k) j)) (range_with_len (v + 1) k)
      ∙ ap (λ u. narrowed own (narrowed_by (only (state_at matrix u j)) (range_with_len (v + 1) k))) last
      ∙ ap (narrowed own) (ends_folded k (v + 1))
      ∙ ap (λ u. narrowed own (ends_of (column matrix j u (suc k)))) next
      ∙ sym (ends_behind matrix j v k)

module _ (lists : MatrixLists) (n m : ℕ) (lent : LentMatrix lists.codes n m) where
  -- the states of the taxa
  abbrev rows : List (List Span)
  rows = spans_of lists m n

  -- a column has the states of the taxa in its character
  column-states : (j : ℕ) → 1 ≤ j → j ≤ m → column lists.codes j 1 n ≡ states_of rows n j
  unfolding column states_of
  column-states j first last =
      map_same (λ v. only (state_at lists.codes v j)) (character rows j) (numbers 1 n)
      (λ v i.
      let within = numbers-within 1 n v i in
      sym (character-code lists n m lent v j within.0 (omega (arith, within.1)) first last))

  -- so the sum of the columns' floors is the floor of the matrix
  pub columns-floor : column_floors lists n m ≡ lent_floor lists n m
  unfolding column_floors floor
  columns-floor =
      sum_same (λ j. character_floor (part (weight_of lists.weights j)) (column lists.codes j 1 n))
      (λ j. character_floor (part (weight_of lists.weights j)) (states_of rows n j)) (numbers 1 m)
      (λ j i.
      let within = numbers-within 1 m j i in
      ap (character_floor (part (weight_of lists.weights j))) (column-states j within.0 (omega (arith, within.1))))

  -- the floor of a character is at most 9 times 1998
  character-most : LentWeights lists.weights m → (j : ℕ) → Memᴰ j (numbers 1 m)
      → character_floor (part (weight_of lists.weights j)) (states_of rows n j) ≤ most_part
  unfolding character_floor
  character-most weighed j i =
      let within = numbers-within 1 m j i in
      let last : j ≤ m = omega (arith, within.1) in
      let weight = weight_of_weight lists.weights m weighed.known j within.0 last in
      ends-keep (λ low high. part (weight_of lists.weights j) low (lower low high) ≤ most_part) rows n j lent.taxon (λ u v p q r s.
      let low = (character-known lists n m lent u j p q within.0 last).at_low in
      let high = (character-known lists n m lent v j r s within.0 last).at_high in
      part-in_range (weight_of lists.weights j) (character rows j u).low (lower (character rows j u).low (character rows j v).high) weight low
      (lower-keeps (λ code. in_range code ≡ true) (character rows j u).low (character rows j v).high low high))

  -- so that of a matrix is at most 128 times as much
  pub floor-most : LentWeights lists.weights m → lent_floor lists n m ≤ most_floor
  unfolding floor
  floor-most weighed =
      let many = lent.characters in
      omega (
        arith,
        length-numbers 1 m,
        sum_most (λ j. character_floor (part (weight_of lists.weights j)) (states_of rows n j)) most_part (numbers 1 m)
            (character-most weighed),
      )
