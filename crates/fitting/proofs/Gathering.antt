-- A matrix fitted character after character: what is written and summed with one character more.
use Rattle.std.proofs.Common.{Option, ◌≡◌, ℕ, ◌+◌, ◌-◌, ◌*◌, ◌<◌, ◌≤◌, Bool, true, false, ◌||◌, ltb, List, [], ◌∷◌, replicate, ℤ, sym, refl, ap, ◌∙◌, ap₂, mul-pos, mul-zero, arith, ltb-false, ltb-true, lt-ltb}
use Rattle.lists.specs.Numbers.{numbers}
use Rattle.lists.specs.Over.{stripes}
use Rattle.lists.specs.Sums.{sum_over}
use Rattle.lists.proofs.Filled.{get_d_replicate}
use Rattle.lists.proofs.Maps.{map_same}
use Rattle.lists.proofs.Numbers.{numbers-within, length-numbers}
use Rattle.lists.proofs.Sums.{sum_most}
use Rattle.matrix_form.specs.Shape.{columns, row_start, last_node, in_range, weight_of, MatrixLists}
use Rattle.matrix_form.specs.NodeRows.{HtusWritten}
use Rattle.matrix_form.specs.Spans.{spans_of}
use Rattle.matrix_form.proofs.NodeRows.{none-written, more-written}
use Rattle.matrix_form.specs.Questions.{LentMatrix, LentWeights}
use Rattle.difference_form.specs.Rows.{apart, part, most_part, weighing}
use Rattle.difference_form.proofs.Laws.Weights.{part-in_range, weight_of_weight, weight_of-within}
use Rattle.tree_form.specs.Nodes.{htus}
use Rattle.tree_form.specs.Ancestors.{ancestor}
use Rattle.tree_form.specs.Within.{branching_within}
use Rattle.tree_walk.proofs.Walks.{branching-rooted}
use Rattle.fit_form.specs.Assignments.{character, branch_length}
use Rattle.fit_form.specs.Fit.{chosen_state, states_in, fitted_length, marked}
use Rattle.fit_passes.specs.Steps.{Each, Known, Column, Fits, states_at}
use Rattle.fit_form.specs.Calls.{Which, Low, High, Chosen, no_branch, branch_at, state_in, states_written}
use Rattle.fitting.specs.Lists.{with_column, fitted_branch, marks_in, Lengthened, Written}
use Rattle.fit_form.specs.declared.characters.States.{States}
use Rattle.fit_form.specs.declared.whole.BranchFit.{BranchFit}
use Rattle.lists.proofs.Filling.{sum_next}
use Rattle.fitting.proofs.Columns.{column-own, character-known}
use Rattle.fitting.proofs.Rewriting.{column-written, written_none, written_next}
use Rattle.fit_passes.proofs.Matrix.OnlyCodes.{chosen_state-each}
use Rattle.fit_passes.proofs.Pass.Standing.{branching_parts, taxa-most, grown_of, last_several}
use Rattle.matrix_form.specs.declared.spans.Span.{Span}

-- a column of what is the same for each HTU is the same
column-same : (n j : ℕ) (f g : ℕ → ℤ) (old : List ℤ) → ((v : ℕ) → n < v → v ≤ 2 * n - 2 → f v ≡ g v)
    → with_column n j f old ≡ with_column n j g old
unfolding with_column
column-same n j f g old same =
    ap (λ (items : List (List ℤ)). stripes columns (row_start (n + 1) + (j - 1)) items old)
    (map_same (λ v. f v ∷ []) (λ v. g v ∷ []) (htus n)
    (λ v m. let w = numbers-within (n + 1) (n - 2) v m in ap (λ z. z ∷ []) (same v (omega (arith, w.0)) (omega (arith, w.1)))))

-- before the first character nothing is written, every length is 0 and no branch is marked
pub start_written : (lists : MatrixLists) (n m : ℕ) (tree : List ℕ) (low high chosen : List ℤ) →
    Written lists n m 0 tree low low high high chosen chosen (replicate 127 no_branch)
start_written lists n m tree low high chosen = record {
  is_low = λ branches lent. sym (written_none Low tree (spans_of lists m n) n low);
  is_high = λ branches lent. sym (written_none High tree (spans_of lists m n) n high);
  is_chosen = λ branches lent. sym (written_none Chosen tree (spans_of lists m n) n chosen);
  are = λ branches lent weighed v l h. get_d_replicate no_branch 127 v ∙ unfold marked fitted_length branch_length sum_over numbers in refl;
  no_others = λ v out. get_d_replicate no_branch 127 v;
  only = (none-written n m low, none-written n m high, none-written n m chosen);
}

-- the chosen one of a node's states
pub chosen_is : (tree : List ℕ) (rows : List (List Span)) (n v j : ℕ) → (states_in tree rows n v j).chosen ≡ chosen_state tree rows n v j
unfolding states_in
chosen_is tree rows n v j = refl

-- the fitted length of a branch with one character more
length-next : (weights tree : List ℕ) (rows : List (List Span)) (n j v : ℕ) → 1 ≤ j →
    fitted_length (weighing weights).step tree rows n (j + 1 - 1) v
    ≡ fitted_length (weighing weights).step tree rows n (j - 1) v
    + part (weight_of weights j) (chosen_state tree rows n v j) (chosen_state tree rows n (ancestor tree v) j)
unfolding fitted_length branch_length
length-next weights tree rows n j v first =
    sum_next (λ i. part (weight_of weights i) (chosen_state tree rows n v i) (chosen_state tree rows n (ancestor tree v) i)) 1 j first

-- a sum is above 0 exactly if one of its parts is
above_zero : (a b : ℕ) → ltb 0 (a + b) ≡ (ltb 0 a || ltb 0 b)
above_zero a b = go (ltb 0 a) refl
  where
    go : (t : Bool) → ltb 0 a ≡ t → ltb 0 (a + b) ≡ (t || ltb 0 b)
    go true e = lt-ltb 0 (a + b) (omega (arith, ltb-true 0 a e))
    go false e = let none : a + b ≡ b = omega (arith, ltb-false 0 a e) in ap (ltb 0) none

-- a number taken w times, at least once, is above 0 exactly if it is
times_above_zero : (w k : ℕ) → 1 ≤ w → ltb 0 (w * k) ≡ ltb 0 k
times_above_zero w k some = go (ltb 0 k) refl
  where
    go : (t : Bool) → ltb 0 k ≡ t → ltb 0 (w * k) ≡ t
    go true e = lt-ltb 0 (w * k) (mul-pos some (ltb-true 0 k e))
    go false e =
        let none : k ≡ 0 = omega (arith, ltb-false 0 k e) in
        ap (ltb 0) (ap (λ i. w * i) none ∙ mul-zero w)

-- the mark of a branch with one character more: its weight, at least 1, does not move it
mark-next : (weights tree : List ℕ) (rows : List (List Span)) (n j v : ℕ) → 1 ≤ j → 1 ≤ weight_of weights j →
    marked (weighing weights).step tree rows n (j + 1 - 1) v
    ≡ (marked (weighing weights).step tree rows n (j - 1) v || marks_in (states_in tree rows n v j) (states_in tree rows n (ancestor tree v) j))
unfolding marked states_in part
mark-next weights tree rows n j v first some =
    let length = fitted_length (weighing weights).step tree rows n (j - 1) v in
    let far = apart (chosen_state tree rows n v j) (chosen_state tree rows n (ancestor tree v) j) in
    ap (ltb 0) (length-next weights tree rows n j v first)
    ∙ above_zero length (weight_of weights j * far)
    ∙ ap (λ t. ltb 0 length || t) (times_above_zero (weight_of weights j) far some)

module _ (lists : MatrixLists) (n m : ℕ) (tree : List ℕ) (branches : branching_within n tree ≡ true)
    (lent : LentMatrix lists.codes n m) (weighed : LentWeights lists.weights m) where
  -- the rows of the taxa
  abbrev rows : List (List Span)
  rows = spans_of lists m n

  module _ (v : ℕ) (second : 2 ≤ v) (last : v ≤ 2 * n - 2) where
    -- there are at least two taxa
    several : 2 ≤ n
    several = omega arith

    -- the ancestor of a node below row 1 is a node
    above_within : (1 ≤ ancestor tree v) × (ancestor tree v ≤ 2 * n - 2)
    above_within =
        let end = last_several n several in
        let above = (branching-rooted n tree (branching_parts n tree branches).1).above v second (omega arith) in
        (above.0, omega (arith, above.1))

    -- the states at both ends of its branch are not far apart
    step-most : (j : ℕ) → 1 ≤ j → j ≤ m
        → part (weight_of lists.weights j) (chosen_state tree rows n v j) (chosen_state tree rows n (ancestor tree v) j) ≤ most_part
    step-most j first end =
        let grown = grown_of n tree branches several in
        let known : (u : ℕ) → 1 ≤ u → u ≤ n → Each Known (character rows j u) = λ u l h. character-known lists n m lent u j l h first end in
        part-in_range (weight_of lists.weights j) (chosen_state tree rows n v j) (chosen_state tree rows n (ancestor tree v) j)
        (weight_of_weight lists.weights m weighed.known j first end)
        (chosen_state-each (λ z. in_range z ≡ true) n tree grown rows j known v (omega arith) last)
        (chosen_state-each (λ z. in_range z ≡ true) n tree grown rows j known (ancestor tree v) above_within.0 above_within.1)

    -- so its fitted length is small
    pub length_most : (k : ℕ) → k ≤ m → fitted_length (weighing lists.weights).step tree rows n k v ≤ k * most_part
    unfolding fitted_length branch_length
    length_most k end =
        let most =
        sum_most (λ i. part (weight_of lists.weights i) (chosen_state tree rows n v i) (chosen_state tree rows n (ancestor tree v) i))
        most_part
        (numbers 1 k)
        (λ i i∈. let w = numbers-within 1 k i i∈ in step-most i w.0 (omega (arith, w.1))) in
        rw (length-numbers 1 k) at most

-- one character more
module _ (lists : MatrixLists) (n m j : ℕ) (first : 1 ≤ j) (last : j ≤ m) (wide : m ≤ columns) (tree : List ℕ) (own : List (Option Span))
    (column : Column lists.codes n j own) (states : List States) (fits : Fits n tree own states) where
  -- the states found
  states-are : branching_within n tree ≡ true → LentMatrix lists.codes n m → (v : ℕ) → 1 ≤ v → v ≤ last_node n
      → states_at states v ≡ states_in tree (spans_of lists m n) n v j
  states-are branches lent = fits.are (spans_of lists m n) j (column-own lists n m lent j first last own column) branches

  -- a list with one of them written
  list-next : (which : Which) (old now new : List ℤ) → branching_within n tree ≡ true → LentMatrix lists.codes n m
      → now ≡ states_written which tree (spans_of lists m n) n (j - 1) old
      → new ≡ with_column n j (λ v. state_in which (states_at states v)) now
      → new ≡ states_written which tree (spans_of lists m n) n (j + 1 - 1) old
  list-next which old now new branches lent before written =
      written
      ∙ column-same n j (λ v. state_in which (states_at states v))
      (λ v. state_in which (states_in tree (spans_of lists m n) n v j)) now
      (λ v l h. ap (state_in which) (states-are branches lent v (omega arith) (unfold last_node in omega arith)))
      ∙ ap (with_column n j (λ v. state_in which (states_in tree (spans_of lists m n) n v j))) before
      ∙ written_next which tree (spans_of lists m n) n j old first (omega arith)

  -- with one of them written, at most states of HTUs are
  list-only : (which : Which) (old now new : List ℤ) → HtusWritten n m old now
      → new ≡ with_column n j (λ v. state_in which (states_at states v)) now → HtusWritten n m old new
  list-only which old now new before written =
      more-written n m old now new before
      (rw written (column-written n m j (λ v. state_in which (states_at states v)) now first last wide))

  -- a branch with one character more
  branch_right : (old new : List BranchFit) → branching_within n tree ≡ true → LentMatrix lists.codes n m → LentWeights lists.weights m
      → Lengthened (weight_of lists.weights j) n tree states old new
      → (v : ℕ) → 2 ≤ v → v ≤ 2 * n - 2 → branch_at old v ≡ fitted_branch lists.weights tree (spans_of lists m n) n (j - 1) v
      → branch_at new v ≡ fitted_branch lists.weights tree (spans_of lists m n) n (j + 1 - 1) v
  branch_right old new branches lent weighed longer v l h before =
      let rows = spans_of lists m n in
      let above = above_within lists n m tree branches lent weighed v l h in
      let few = taxa-most n tree branches in
      let end = last_several n (omega arith) in
      let own = states-are branches lent v (omega arith) (omega arith) in
      let its = states-are branches lent (ancestor tree v) above.0 (omega (arith, above.1)) in
      let more = rw (own, its, before) at (longer.added v l h (omega (arith, above.1))) in
      let step = ap₂ (part (weight_of lists.weights j)) (chosen_is tree rows n v j) (chosen_is tree rows n (ancestor tree v) j) in
      let next = length-next lists.weights tree rows n j v first in
      let most = length_most lists n m tree branches lent weighed v l h (j + 1 - 1) (omega arith) in
      ap₂ (λ (x : ℕ) (t : Bool). record { length = x; mark = t })
      (more.length (omega arith) ∙ ap (λ (x : ℕ). fitted_length (weighing lists.weights).step tree rows n (j - 1) v + x) step ∙ sym next)
      (more.mark ∙ sym (mark-next lists.weights tree rows n j v first (weight_of-within lists.weights m weighed.known j first last).0))

  -- all of it
  pub written_more : (low low' low'' high high' high'' chosen chosen' chosen'' : List ℤ) (old new : List BranchFit)
      → Written lists n m (j - 1) tree low low' high high' chosen chosen' old
      → low'' ≡ with_column n j (λ v. state_in Low (states_at states v)) low'
      → high'' ≡ with_column n j (λ v. state_in High (states_at states v)) high'
      → chosen'' ≡ with_column n j (λ v. state_in Chosen (states_at states v)) chosen'
      → Lengthened (weight_of lists.weights j) n tree states old new
      → Written lists n m (j + 1 - 1) tree low low'' high high'' chosen chosen'' new
  written_more low low' low'' high high' high'' chosen chosen' chosen'' old new before l h c longer = record {
    is_low = λ branches lent. list-next Low low low' low'' branches lent (before.is_low branches lent) l;
    is_high = λ branches lent. list-next High high high' high'' branches lent (before.is_high branches lent) h;
    is_chosen = λ branches lent. list-next Chosen chosen chosen' chosen'' branches lent (before.is_chosen branches lent) c;
    are = λ branches lent weighed v p q. branch_right old new branches lent weighed longer v p q (before.are branches lent weighed v p q);
    no_others = λ v out. longer.kept v out ∙ before.no_others v out;
    only = (
      list-only Low low low' low'' before.only.0 l,
      list-only High high high' high'' before.only.1 h,
      list-only Chosen chosen chosen' chosen'' before.only.2 c,
    );
  }
