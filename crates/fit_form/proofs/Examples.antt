-- Examples of fitting, computed: document 01's three joins, the fit of its matrix A, B, C, D to its Wagner tree, five taxa whose ranges
-- differ from their sets, and small n.
use Rattle.std.proofs.Common.{◌≡◌, ℕ, suc, ◌-◌, Bool, true, false, List, [], ◌∷◌, map, ℤ, pos, negsuc, sym, refl, ap, ◌∙◌, arith}
use mathlib.Core.List.{flat_map}
use Rattle.lists.specs.Numbers.{numbers}
use Rattle.matrix_form.specs.Shape.{weight_at, weight_of}
use Rattle.matrix_form.proofs.Sample.{rows_abcd}
use Rattle.difference_form.specs.Rows.{apart, part, weighing, lower, higher}
use Rattle.tree_form.specs.Ancestors.{ancestor, descendants}
use Rattle.tree_form.specs.Nodes.{other_nodes}
use Rattle.lists.specs.Sums.{sum_over}
use Rattle.lists.specs.Filters.{keep}
use Rattle.fit_form.specs.Sets.{join, nearest_member, insert, in_order, middle, ordered}
use Rattle.matrix_form.specs.Spans.{span, only, singles}
use Rattle.matrix_form.specs.declared.spans.Span.{Span}
use Rattle.clades.specs.Clades.{Clade, tip, fork}
use Rattle.fit_form.specs.Clades.{above, clade_at, clades_below}
use Rattle.clades.specs.ByNode.{value_at}
use Rattle.clades.specs.Character.{up, chosen, ranges, row1_range, state_of, range_of}
use Rattle.fit_form.specs.Assignments.{character, branch_length, total}
use Rattle.fit_form.specs.Fit.{chosen_state, range, fitted_length, fitted_total, marked}
use Rattle.fit_form.specs.Marks.{MarkMeans}
use Rattle.fit_form.proofs.Marks.{plus_of_length, minus_of_none}

-- [0,1] with [2,2] gives [1,2]
pub join_apart : join (span (pos 0) (pos 1)) (span (pos 2) (pos 2)) ≡ span (pos 1) (pos 2)
unfolding join lower higher
join_apart = refl

-- [0,3] with [1,5] gives [1,3]
pub join_overlapping : join (span (pos 0) (pos 3)) (span (pos 1) (pos 5)) ≡ span (pos 1) (pos 3)
unfolding join lower higher
join_overlapping = refl

-- [0,1] with [1,2] gives [1,1]
pub join-touching : join (span (pos 0) (pos 1)) (span (pos 1) (pos 2)) ≡ span (pos 1) (pos 1)
unfolding join lower higher
join-touching = refl

-- what a listing shows of a fit: the numbers of its `T`, `t` and `H` lines
pub record Printed : Type 0 where
  -- for each node from 2 on, its branch's fitted length, and whether it is marked `+`
  pub lengths : List ℕ
  pub marks : List Bool
  pub sum_of_lengths : ℕ
  -- for each HTU and each character low, high and chosen state
  pub states : List (List (List ℤ))

-- the fit of a matrix as a listing shows it, by weights
unfoldable pub printed : List ℕ → List ℕ → List (List Span) → ℕ → ℕ → Printed
unfolding clades_below clade_at above other_nodes numbers descendants keep ancestor fitted_total marked fitted_length total branch_length
    sum_over apart part weight_at weight_of lower higher chosen_state range state_of range_of row1_range value_at chosen ranges up join nearest_member middle in_order insert only
    character singles flat_map
printed weights tree rows n m = record {
  lengths = map (fitted_length (weighing weights).step tree rows n m) (other_nodes n);
  marks = map (marked (weighing weights).step tree rows n m) (other_nodes n);
  sum_of_lengths = fitted_total (weighing weights).step tree rows n m;
  states =
      map
      (λ v. map (λ j. (range tree rows n v j).low ∷ (range tree rows n v j).high ∷ chosen_state tree rows n v j ∷ [])
      (numbers 1 m))
      (numbers (suc n) (n - 2));
}

-- document 01's example: taxa A, B, C, D are nodes 1 to 4, HTUs #1 and #2 are nodes 5 and 6;
-- B and C hang from #2, D and #2 from #1, #1 from A
abbrev pub tree_abcd : List ℕ
tree_abcd = 0 ∷ 0 ∷ 6 ∷ 6 ∷ 5 ∷ 1 ∷ 5 ∷ []

-- #1 with all below it: D and #2, below which stand B and C
abbrev pub clade#1 : Clade
clade#1 = fork 5 (tip 4) (fork 6 (tip 2) (tip 3))

-- below A stands #1
pub clade_ABCD : clades_below tree_abcd 4 ≡ clade#1 ∷ []
unfolding printed
clade_ABCD = refl

-- document 01's `T`, `t` and `H` lines
pub fit_ABCD : printed (1 ∷ 1 ∷ 1 ∷ []) tree_abcd (singles rows_abcd) 4 3 ≡ record {
  lengths = 1 ∷ 2 ∷ 2 ∷ 2 ∷ 2 ∷ [];
  marks = true ∷ true ∷ true ∷ true ∷ true ∷ [];
  sum_of_lengths = 9;
  states =
      ((pos 0 ∷ pos 0 ∷ pos 0 ∷ []) ∷ (pos 1 ∷ pos 1 ∷ pos 1 ∷ []) ∷ (pos 0 ∷ pos 1 ∷ pos 1 ∷ []) ∷ [])
      ∷ ((pos 2 ∷ pos 2 ∷ pos 2 ∷ []) ∷ (pos 1 ∷ pos 1 ∷ pos 1 ∷ []) ∷ (pos 0 ∷ pos 1 ∷ pos 1 ∷ []) ∷ [])
      ∷ [];
}
unfolding printed
fit_ABCD = refl

-- with weights 3, 1 and 2 the lengths are others, and all else is the same
pub fit-weighed : printed (3 ∷ 1 ∷ 2 ∷ []) tree_abcd (singles rows_abcd) 4 3 ≡ record {
  lengths = 2 ∷ 2 ∷ 5 ∷ 3 ∷ 6 ∷ [];
  marks = true ∷ true ∷ true ∷ true ∷ true ∷ [];
  sum_of_lengths = 18;
  states =
      ((pos 0 ∷ pos 0 ∷ pos 0 ∷ []) ∷ (pos 1 ∷ pos 1 ∷ pos 1 ∷ []) ∷ (pos 0 ∷ pos 1 ∷ pos 1 ∷ []) ∷ [])
      ∷ ((pos 2 ∷ pos 2 ∷ pos 2 ∷ []) ∷ (pos 1 ∷ pos 1 ∷ pos 1 ∷ []) ∷ (pos 0 ∷ pos 1 ∷ pos 1 ∷ []) ∷ [])
      ∷ [];
}
unfolding printed
fit-weighed = refl

-- the set of #1 in character 3, from the tips up
pub set_of_#1 : up ordered (character (singles rows_abcd) 3) clade#1 ≡ span (pos 1) (pos 2)
unfolding printed
set_of_#1 = refl

-- the range of #1 in character 3
pub range_of_#1 : range tree_abcd (singles rows_abcd) 4 5 3 ≡ span (pos 0) (pos 1)
unfolding printed
range_of_#1 = refl

-- the set of a node from the tips up is not its range
pub range_not_set : range tree_abcd (singles rows_abcd) 4 5 3 ≡ up ordered (character (singles rows_abcd) 3) clade#1 → ⊥
range_not_set e = never (ap (λ a. a.low) (sym range_of_#1 ∙ e ∙ set_of_#1))
  where
    never : pos 0 ≡ pos 1 → ⊥
    never p = let z : ◌≡◌ {A = ℕ} 0 1 = cc in omega arith

-- five taxa in two characters: nodes 2 and 3 hang from #1, node 4 and #1 from #2, node 5 and #2 from #3, #3 from node 1
abbrev pub rows_five : List (List ℤ)
rows_five =
    (negsuc 3 ∷ pos 5 ∷ [])
    ∷ (negsuc 2 ∷ pos 5 ∷ [])
    ∷ (negsuc 1 ∷ pos 2 ∷ [])
    ∷ (pos 1 ∷ pos 0 ∷ [])
    ∷ (pos 0 ∷ pos 4 ∷ [])
    ∷ []

-- their tree
abbrev pub tree_five : List ℕ
tree_five = 0 ∷ 0 ∷ 6 ∷ 6 ∷ 7 ∷ 8 ∷ 7 ∷ 8 ∷ 1 ∷ []

-- #1 with all below it
abbrev pub fiveFrom#1 : Clade
fiveFrom#1 = fork 6 (tip 2) (tip 3)

-- #2 with all below it, the lower node number first
abbrev pub fiveFrom#2 : Clade
fiveFrom#2 = fork 7 (tip 4) fiveFrom#1

-- the clade below node 1
pub clade_five : clades_below tree_five 5 ≡ fork 8 (tip 5) fiveFrom#2 ∷ []
unfolding printed
clade_five = refl

-- negative states; the chosen state of #2 is the highest of its range in character 1, and the lowest in character 2
pub fit_five : printed [] tree_five (singles rows_five) 5 2 ≡ record {
  lengths = 4 ∷ 0 ∷ 3 ∷ 0 ∷ 2 ∷ 2 ∷ 5 ∷ [];
  marks = true ∷ false ∷ true ∷ false ∷ true ∷ true ∷ true ∷ [];
  sum_of_lengths = 16;
  states =
      ((negsuc 1 ∷ negsuc 1 ∷ negsuc 1 ∷ []) ∷ (pos 2 ∷ pos 4 ∷ pos 2 ∷ []) ∷ [])
      ∷ ((negsuc 1 ∷ pos 0 ∷ pos 0 ∷ []) ∷ (pos 2 ∷ pos 4 ∷ pos 2 ∷ []) ∷ [])
      ∷ ((negsuc 1 ∷ pos 0 ∷ pos 0 ∷ []) ∷ (pos 4 ∷ pos 4 ∷ pos 4 ∷ []) ∷ [])
      ∷ [];
}
unfolding printed
fit_five = refl

-- in both characters the sets of #1 and #2 from the tips up are not their ranges
pub sets_five : map (λ j. map (up ordered (character (singles rows_five) j)) (fiveFrom#1 ∷ fiveFrom#2 ∷ [])) (1 ∷ 2 ∷ [])
    ≡ (span (negsuc 2) (negsuc 1) ∷ span (negsuc 1) (pos 1) ∷ []) ∷ (span (pos 2) (pos 5) ∷ span (pos 0) (pos 2) ∷ []) ∷ []
unfolding printed
sets_five = refl

-- row 1 alone
pub fit_1 : printed [] (0 ∷ 0 ∷ []) (singles ((pos 7 ∷ []) ∷ [])) 1 1 ≡ record { lengths = []; marks = []; sum_of_lengths = 0; states = [] }
unfolding printed
fit_1 = refl

-- two taxa: one branch and no HTU
pub fit_2 : printed [] (0 ∷ 0 ∷ 1 ∷ []) (singles ((pos 7 ∷ pos 0 ∷ []) ∷ (negsuc 2 ∷ pos 1 ∷ []) ∷ [])) 2 2 ≡ record {
  lengths = 11 ∷ [];
  marks = true ∷ [];
  sum_of_lengths = 11;
  states = [];
}
unfolding printed
fit_2 = refl

-- three taxa of one character, and their tree
abbrev pub rows_3 : List (List ℤ)
rows_3 = (negsuc 0 ∷ []) ∷ (pos 2 ∷ []) ∷ (pos 0 ∷ []) ∷ []

abbrev pub tree_3 : List ℕ
tree_3 = 0 ∷ 0 ∷ 4 ∷ 4 ∷ 1 ∷ []

-- the one HTU has the median of their codes; a branch of length 0 is not marked
pub fit_3 : printed [] tree_3 (singles rows_3) 3 1 ≡ record {
  lengths = 2 ∷ 0 ∷ 1 ∷ [];
  marks = true ∷ false ∷ true ∷ [];
  sum_of_lengths = 3;
  states = ((pos 0 ∷ pos 0 ∷ pos 0 ∷ []) ∷ []) ∷ [];
}
unfolding printed
fit_3 = refl

-- whatever means what a mark says is `+` for the branch of taxon 2, of length 2, and `-` for that of taxon 3, of length 0
pub marks_3 : (two three : Bool)
    → MarkMeans (weighing []).step tree_3 (singles rows_3) 3 1 (chosen_state tree_3 (singles rows_3) 3) 2 two
    → MarkMeans (weighing []).step tree_3 (singles rows_3) 3 1 (chosen_state tree_3 (singles rows_3) 3) 3 three
    → (two ≡ true) × (three ≡ false)
unfolding printed
marks_3 two three p q = (plus_of_length _ _ _ _ _ _ _ _ p (omega arith), minus_of_none _ _ _ _ _ _ _ _ q refl)
