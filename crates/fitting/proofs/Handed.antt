-- What a fitted tree hands back, told by the numbers in the lists and by assignments.
use Rattle.std.proofs.Common.{◌≡◌, ℕ, suc, ◌+◌, ◌-◌, ◌*◌, ◌<◌, ◌≤◌, ◌↔◌, true, List, [], map, length, get_or, ℤ, pos, ◌≤ℤ◌, sym, ap, ◌∙◌, ap₂, arith, le-leb}
use mathlib.Core.Path.{subst⁻¹}
use borrow.Author.Tests.{lt-leb}
use Rattle.lists.specs.Numbers.{numbers}
use Rattle.lists.specs.Sums.{sum_over}
use Rattle.lists.proofs.Numbers.{numbers-within, map-numbers, map-beyond, length_map_numbers}
use Rattle.lists.proofs.Stripes.{Narrow, stripes-inside}
use Rattle.lists.proofs.Sums.{sum_same}
use Rattle.matrix_form.specs.Shape.{columns, matrix_size, row_start, last_node, state_at, MatrixLists}
use Rattle.matrix_form.specs.NodeRows.{with_rows}
use Rattle.matrix_form.specs.Spans.{only, spans_of}
use Rattle.matrix_form.specs.Questions.{LentMatrix, LentWeights}
use Rattle.difference_form.specs.Rows.{weighing}
use Rattle.tree_form.specs.Ancestors.{ancestor}
use Rattle.tree_form.specs.Nodes.{other_nodes, htus}
use Rattle.tree_form.specs.Growing.{branching}
use Rattle.tree_form.specs.Within.{branching_within}
use Rattle.tree_form.proofs.Test.{branching_iff}
use Rattle.tree_walk.proofs.Walks.{branching-rooted}
use Rattle.fit_form.specs.Sets.{In}
use Rattle.fit_form.specs.Assignments.{branch_length, total}
use Rattle.fit_form.specs.Fit.{chosen_state, range, states_in, fitted_length, fitted_total}
use Rattle.fit_form.specs.Marks.{MarkMeans}
use Rattle.fit_form.specs.Rival.{FitIsLeast}
use Rattle.fit_form.specs.Calls.{Which, Low, High, Chosen, branch_at, state_in, states_written, FitOf}
use Rattle.fit_form.specs.Handing.{handed_states, HandedBack}
use Rattle.fit_form.specs.declared.whole.Fit.{Fit}
use Rattle.fit_form.proofs.Cases.{either}
use Rattle.fit_form.proofs.Marks.{means_alike}
use Rattle.fit_form.proofs.Sets.Single.{only_code}
use Rattle.fit_form.proofs.Matrix.Proper.{spans_proper}
use Rattle.fit_form.proofs.Matrix.ThirdRival.{third_rival}
use Rattle.fitting.proofs.Columns.{character-code}
use lib.Signed.{≤ℤ_refl}
use Rattle.fit_passes.proofs.Pass.Standing.{last_several}
use Rattle.fitting.specs.Lists.{TreeFitted}
use Rattle.fitting.proofs.Gathering.{chosen_is}
use Rattle.matrix_form.specs.declared.spans.Span.{Span}

-- rows of m codes are no wider than their indices
rows_narrow : (f : ℕ → ℕ → ℤ) (m first count : ℕ) → m ≤ columns → Narrow columns (map (λ v. map (f v) (numbers 1 m)) (numbers first count))
rows_narrow f m first count wide k =
    either (suc k) count
    (λ inside. rw (map-numbers (λ v. map (f v) (numbers 1 m)) [] first count k inside, length_map_numbers (f (first + k)) 1 m) wide)
    (λ beyond.
    let out : count ≤ k = omega arith in
    rw (map-beyond (λ v. map (f v) (numbers 1 m)) [] first count k out) (omega arith))

-- a state written is read back
pub state_written : (which : Which) (tree : List ℕ) (rows : List (List Span)) (n m : ℕ) (old : List ℤ) (v j : ℕ) → length old ≡ matrix_size
    → n ≤ 64
    → m ≤ columns → n < v → v ≤ 2 * n - 2 → 1 ≤ j → j ≤ m
    → state_at (states_written which tree rows n m old) v j ≡ state_in which (states_in tree rows n v j)
unfolding states_written with_rows
state_written which tree rows n m old v j size few wide l h first last =
    let f : ℕ → ℕ → ℤ = λ u i. state_in which (states_in tree rows n u i) in
    let k = v - (n + 1) in
    let place : row_start v + (j - 1) ≡ row_start (n + 1) + k * columns + (j - 1) = omega arith in
    let own : n + 1 + k ≡ v = omega arith in
    let here : 1 + (j - 1) ≡ j = omega arith in
    let item : get_or (map (λ u. map (f u) (numbers 1 m)) (htus n)) k [] ≡ map (f v) (numbers 1 m) =
    map-numbers (λ u. map (f u) (numbers 1 m)) [] (n + 1) (n - 2) k (omega arith) ∙ ap (λ u. map (f u) (numbers 1 m)) own in
    let wide_enough : j - 1 < length (get_or (map (λ u. map (f u) (numbers 1 m)) (htus n)) k []) =
    rw (item, length_map_numbers (f v) 1 m) (omega arith) in
    rw place
    (stripes-inside columns (pos 0) (row_start (n + 1)) (map (λ u. map (f u) (numbers 1 m)) (htus n)) old
    (rows_narrow f m (n + 1) (n - 2) wide) k (j - 1) wide_enough (omega arith)
    ∙ ap (λ (r : List ℤ). get_or r (j - 1) (pos 0)) item
    ∙ map-numbers (f v) (pos 0) 1 m (j - 1) (omega arith)
    ∙ ap (f v) here)

-- both ends of a range are its ends
pub ends_in : (tree : List ℕ) (rows : List (List Span)) (n v j : ℕ) (s a b : ℤ) → a ≡ state_in Low (states_in tree rows n v j)
    → b ≡ state_in High (states_in tree rows n v j)
    → ((a ≤ℤ s) × (s ≤ℤ b)) ↔ In s (range tree rows n v j)
unfolding states_in
ends_in tree rows n v j s a b e f = rw (e, f) (λ p. record { from_low = p.0; to_high = p.1 }, λ i. (i.from_low, i.to_high))

-- a branching of a lent matrix, fitted into three lists of the matrix's shape
module _ (lists : MatrixLists) (n m : ℕ) (lent : LentMatrix lists.codes n m) (weighed : LentWeights lists.weights m) (tree : List ℕ)
    (whole : branching n tree ≡ true) (low low' high high' chosen chosen' : List ℤ) (low_size : length low ≡ matrix_size)
    (high_size : length high ≡ matrix_size) (chosen_size : length chosen ≡ matrix_size) (fit : Fit) where
  -- the rows of its taxa
  abbrev rows : List (List Span)
  rows = spans_of lists m n

  -- what a change costs
  abbrev step : ℕ → ℤ → ℤ → ℕ
  step = (weighing lists.weights).step

  -- the claim about the third rival
  claim : FitIsLeast step tree rows n m
  claim = third_rival lists.weights n m tree rows lent.taxon weighed.known (spans_proper lists n m) ((branching_iff tree n lent.taxon).0 whole)

  -- the immediate ancestor of a node is a node
  above : (v : ℕ) → 2 ≤ v → v ≤ 2 * n - 2 → (1 ≤ ancestor tree v) × (ancestor tree v ≤ 2 * n - 2)
  above v l h =
      let end = last_several n (omega arith) in
      let up = (branching-rooted n tree whole).above v l (omega arith) in
      (up.0, omega (arith, up.1))

  -- the fit is that of the branching, and the lists are written
  module _ (fits : FitOf step tree rows n m fit) (is_low : low' ≡ states_written Low tree rows n m low)
      (is_high : high' ≡ states_written High tree rows n m high) (is_chosen : chosen' ≡ states_written Chosen tree rows n m chosen) where
    -- the states handed back are the chosen ones
    handed-state : (v j : ℕ) → 1 ≤ v → v ≤ 2 * n - 2 → 1 ≤ j → j ≤ m → handed_states rows n chosen' v j ≡ chosen_state tree rows n v j
    unfolding handed_states
    handed-state v j p q l h =
        either v n
        (λ taxon.
        let code = character-code lists n m lent v j p taxon l h in
        rw (le-leb v n taxon)
        (ap (λ (a : Span). a.low) code
        ∙ unfold only in sym (only_code (chosen_state tree rows n v j) _ (rw code at (claim.assigns.keeps v j p taxon l h)))))
        (λ htu.
        let read : state_at chosen' v j ≡ state_in Chosen (states_in tree rows n v j) =
        ap (λ (list : List ℤ). state_at list v j) is_chosen
        ∙ state_written Chosen tree rows n m chosen v j chosen_size lent.taxa lent.characters htu q l h in
        rw (lt-leb v n htu) (read ∙ chosen_is tree rows n v j))

    -- so a branch is as long under them as under the chosen ones
    handed_length : (v : ℕ) → 2 ≤ v → v ≤ 2 * n - 2
        → branch_length step tree m (handed_states rows n chosen') v ≡ branch_length step tree m (chosen_state tree rows n) v
    unfolding branch_length
    handed_length v first last =
        let up = above v first last in
        sum_same _ _ (numbers 1 m) (λ j i.
        let u = numbers-within 1 m j i in
        ap₂ (step j) (handed-state v j (omega arith) last u.0 (omega (arith, u.1)))
        (handed-state (ancestor tree v) j up.0 up.1 u.0 (omega (arith, u.1))))

    -- what is handed back
    handed_back_lem : HandedBack step tree rows n m low' high' chosen' fit
    handed_back_lem = record {
      ranges = λ v j s p q l h.
          let a = state_written Low tree rows n m low v j low_size lent.taxa lent.characters p q l h in
          let b = state_written High tree rows n m high v j high_size lent.taxa lent.characters p q l h in
          let ends =
          ends_in tree rows n v j s _ _ (ap (λ (list : List ℤ). state_at list v j) is_low ∙ a)
          (ap (λ (list : List ℤ). state_at list v j) is_high ∙ b) in
          let occurs = claim.ranges v j s (omega arith) (unfold last_node in omega arith) l h in
          (λ between. occurs.0 (ends.0 between), λ o. ends.1 (occurs.1 o));
      assigns = record {
        keeps = λ v j p q l h.
            unfold handed_states in
            rw (le-leb v n q) (record { from_low = ≤ℤ_refl _; to_high = ((spans_proper lists n m).proper v j p q l h).ordered });
      };
      is_total = same_total ∙ sym fits.total;
      least = λ states h. omega (arith, claim.least states h, fits.total);
      sums = same-sums ∙ claim.lengths ∙ sym fits.total;
      marks = λ v p q.
          means_alike step tree rows n m v (chosen_state tree rows n) (handed_states rows n chosen') _ (handed_length v p q)
          (subst⁻¹ (MarkMeans step tree rows n m (chosen_state tree rows n) v) (fits.marks v p q) (claim.marks v p q));
    }
      where
        same_total : total step tree n m (handed_states rows n chosen') ≡ fitted_total step tree rows n m
        same_total = unfold total fitted_total other_nodes in
            sum_same _ _ (numbers 2 (2 * n - 3)) (λ v i.
            let w = numbers-within 2 (2 * n - 3) v i in
            handed_length v w.0 (omega (arith, w.0, w.1)))

        same-sums : sum_over (λ v. (branch_at fit.branches v).length) (other_nodes n) ≡ sum_over (fitted_length step tree rows n m) (other_nodes n)
        same-sums = unfold other_nodes in
            sum_same (λ v. (branch_at fit.branches v).length) (fitted_length step tree rows n m) (numbers 2 (2 * n - 3))
            (λ v i. let w = numbers-within 2 (2 * n - 3) v i in fits.lengths v w.0 (omega (arith, w.0, w.1)))

-- what a fitted tree hands back: the fit of a branching, the states written, and what these say of assignments
pub record FittedBack (step : ℕ → ℤ → ℤ → ℕ) (tree : List ℕ) (rows : List (List Span)) (n m : ℕ) (low low' high high' chosen chosen' : List ℤ)
    (fit : Fit) : Type 0 where
  pub fits : FitOf step tree rows n m fit
  pub is_low : low' ≡ states_written Low tree rows n m low
  pub is_high : high' ≡ states_written High tree rows n m high
  pub is_chosen : chosen' ≡ states_written Chosen tree rows n m chosen
  pub handed : HandedBack step tree rows n m low' high' chosen' fit

-- a tree fitted to a lent matrix hands this back
pub fitted_back : (lists : MatrixLists) (n m : ℕ) (tree : List ℕ) (low low' high high' chosen chosen' : List ℤ) (fit : Fit)
    → TreeFitted lists n m tree low low' high high' chosen chosen' fit
    → branching_within n tree ≡ true → LentMatrix lists.codes n m → LentWeights lists.weights m
    → length low ≡ matrix_size → length high ≡ matrix_size → length chosen ≡ matrix_size → branching n tree ≡ true
    → FittedBack (weighing lists.weights).step tree (spans_of lists m n) n m low low' high high' chosen chosen' fit
fitted_back lists n m tree low low' high high' chosen chosen' fit of within lent weighed low_size high_size chosen_size whole =
    let all = of.fitted within lent weighed low_size high_size chosen_size in
    record {
      fits = all.0;
      is_low = all.1;
      is_high = all.2;
      is_chosen = all.3;
      handed = handed_back_lem lists n m lent weighed tree whole low low' high high' chosen chosen' low_size high_size chosen_size fit
          all.0 all.1 all.2 all.3;
    }
