-- The lent lists while a matrix is fitted character after character: a column more is a state more in the row of each HTU.
use Rattle.std.proofs.Common.{◌≡◌, ℕ, suc, ◌+◌, ◌-◌, ◌*◌, ◌≤◌, List, [], ◌∷◌, ◌++◌, map, length, get_or, set, ℤ, pos, sym, refl, ap, ◌∙◌, ap₂, arith}
use mathlib.Core.Path.{fun_ext}
use mathlib.Core.List.{map-append}
use Rattle.lists.specs.Numbers.{numbers}
use Rattle.lists.specs.Over.{over, stripes}
use Rattle.lists.proofs.Numbers.{numbers-snoc, length_map_numbers, map-numbers, map-beyond}
use Rattle.lists.proofs.Stripes.{length-stripes, stripes-outside, column-next, stripes-column}
use Rattle.lists.proofs.Over.{over_nothing}
use Rattle.matrix_form.specs.Shape.{columns, row_start, last_node}
use Rattle.matrix_form.specs.NodeRows.{with_rows, HtusWritten}
use Rattle.fit_form.specs.Fit.{states_in}
use Rattle.fit_form.specs.Calls.{Which, state_in, states_written}
use Rattle.fit_form.proofs.Cases.{either}
use Rattle.fitting.specs.Lists.{with_column}
use Rattle.tree_form.specs.Nodes.{htus}
use Rattle.matrix_form.specs.declared.spans.Span.{Span}

-- stripes without items
empty_stripes : (vs : List ℕ) (place : ℕ) (old : List ℤ) → stripes columns place (map (λ (v : ℕ). []) vs) old ≡ old
unfolding stripes
empty_stripes [] place old = refl
empty_stripes (v ∷ vs) place old = empty_stripes vs (place + columns) (over place [] old) ∙ over_nothing place old

-- a list with a column written keeps its length
pub length-column : (n j : ℕ) (f : ℕ → ℤ) (old : List ℤ) → length (with_column n j f old) ≡ length old
unfolding with_column
length-column n j f old = length-stripes columns (row_start (n + 1) + (j - 1)) (map (λ v. f v ∷ []) (htus n)) old

-- and writes over states of HTUs alone
pub column-written : (n m j : ℕ) (f : ℕ → ℤ) (old : List ℤ) → 1 ≤ j → j ≤ m → m ≤ columns → HtusWritten n m old (with_column n j f old)
unfolding with_column last_node
column-written n m j f old first last wide =
    let item : ℕ → List ℤ = λ v. f v ∷ [] in
    record {
      size = length-column n j f old;
      others = λ v i l low high out.
          stripes-outside columns (pos 0) (row_start (n + 1) + (j - 1)) (map item (htus n)) old (row_start v + (i - 1)) (λ k from upto.
          either (suc k) (n - 2)
          (λ inside.
          let one : length (get_or (map item (htus n)) k []) ≡ 1 = ap length (map-numbers item [] (n + 1) (n - 2) k inside) in
          let node : v ≡ n + 1 + k = omega arith in
          out (omega arith) (omega arith) (omega arith))
          (λ beyond.
          let none : length (get_or (map item (htus n)) k []) ≡ 0 = ap length (map-beyond item [] (n + 1) (n - 2) k (omega arith)) in
          omega arith));
    }

-- a column of which the entry for node v is written next
pub column-more : (n j v : ℕ) (f : ℕ → ℤ) (old out : List ℤ) → n + 1 ≤ v →
    out ≡ stripes columns (row_start (n + 1) + (j - 1)) (map (λ u. f u ∷ []) (numbers (n + 1) (v - (n + 1)))) old →
    set out ((v - 1) * columns + (j - 1)) (f v)
    ≡ stripes columns (row_start (n + 1) + (j - 1)) (map (λ u. f u ∷ []) (numbers (n + 1) (v + 1 - (n + 1)))) old
column-more n j v f old out first is =
    let place : (v - 1) * columns + (j - 1) ≡ row_start (n + 1) + (j - 1) + (v - (n + 1)) * columns = omega arith in
    let own : v ≡ n + 1 + (v - (n + 1)) = omega arith in
    let more : v + 1 - (n + 1) ≡ suc (v - (n + 1)) = omega arith in
    ap₂ (λ (o : List ℤ) (p : ℕ). set o p (f v)) is place
    ∙ ap (λ (k : ℕ). set (stripes columns (row_start (n + 1) + (j - 1)) (map (λ u. f u ∷ []) (numbers (n + 1) (v - (n + 1)))) old)
    (row_start (n + 1) + (j - 1) + (v - (n + 1)) * columns) (f k)) own
    ∙ column-next columns (row_start (n + 1) + (j - 1)) f (n + 1) old (v - (n + 1))
    ∙ ap (λ (k : ℕ). stripes columns (row_start (n + 1) + (j - 1)) (map (λ u. f u ∷ []) (numbers (n + 1) k)) old) (sym more)

module _ (which : Which) (tree : List ℕ) (rows : List (List Span)) (n : ℕ) where
  -- one of the states of node v in character j
  abbrev state : ℕ → ℕ → ℤ
  state v j = state_in which (states_in tree rows n v j)

  -- of no character nothing is written
  pub written_none : (old : List ℤ) → states_written which tree rows n 0 old ≡ old
  unfolding states_written with_rows numbers
  written_none old = empty_stripes (htus n) (row_start (n + 1)) old

  -- with one character more
  pub written_next : (j : ℕ) (old : List ℤ) → 1 ≤ j → j ≤ columns →
      with_column n j (λ v. state v j) (states_written which tree rows n (j - 1) old) ≡ states_written which tree rows n (j + 1 - 1) old
  unfolding states_written with_rows with_column
  written_next j old first last =
      let one : j + 1 - 1 ≡ suc (j - 1) = omega arith in
      let here : 1 + (j - 1) ≡ j = omega arith in
      let size : (v : ℕ) → length (map (state v) (numbers 1 (j - 1))) ≡ j - 1 = λ v. length_map_numbers (state v) 1 (j - 1) in
      let more : (v : ℕ) → map (state v) (numbers 1 (j - 1)) ++ (state v j ∷ []) ≡ map (state v) (numbers 1 (suc (j - 1))) =
      λ v. ap (λ (k : ℕ). map (state v) (numbers 1 (j - 1)) ++ (state v k ∷ [])) (sym here)
      ∙ sym (ap (map (state v)) (numbers-snoc 1 (j - 1)) ∙ map-append (state v) (numbers 1 (j - 1)) ((1 + (j - 1)) ∷ [])) in
      stripes-column columns (j - 1) (λ v. map (state v) (numbers 1 (j - 1))) (λ v. state v j) size (omega arith) (htus n)
      (row_start (n + 1)) old
      ∙ ap (λ (f : ℕ → List ℤ). stripes columns (row_start (n + 1)) (map f (htus n)) old) (fun_ext more)
      ∙ ap (λ (k : ℕ). stripes columns (row_start (n + 1)) (map (λ v. map (state v) (numbers 1 k)) (htus n)) old) (sym one)
