-- Examples of unordered characters, computed: joins, middles, and the fit of four taxa and row 1.
use mathlib.Core.Path.{◌≡◌, refl}
use mathlib.Core.List.{[], ◌∷◌, map, flat_map}
use Prim.Native.Nat.{ℕ}
use lib.IntN.{ℤ, pos}
use lib.Count.{count_trailing_zeros}
use Rattle.clades.specs.Clades.{Clade, tip, fork}
use Rattle.clades.specs.ByNode.{value_at}
use Rattle.clades.specs.Character.{up, chosen, ranges, row1_range, state_of, range_of}
use Rattle.clades.specs.Marks.{mark, only_mark, lowest_state, nearest_state, distinct, or_else, join_marks, middle_marks, unordered}

-- {0, 1} with {1, 2} gives {1}; {0} with {5} gives {0, 5}
pub joins_of_marks : join_marks 3 6 ∷ join_marks 1 32 ∷ [] ≡ 2 ∷ 33 ∷ []
unfolding join_marks or_else
joins_of_marks = refl

-- {0, 1}, {1} and {1, 2} have 1 in common; of {0}, {1} and {0, 2} two have 0; of {0}, {1} and {2} no two have a state in common
pub middles_of_marks : middle_marks 3 2 6 ∷ middle_marks 1 2 5 ∷ middle_marks 1 2 4 ∷ [] ≡ 2 ∷ 1 ∷ 7 ∷ []
unfolding middle_marks or_else
middles_of_marks = refl

-- of 4, of 4 and 4, and of 3, 1, 2, 1, 3 the different states are 1, 1 and 3; where there is no state, 0
pub distinct_states : map distinct ([] ∷ (pos 4 ∷ []) ∷ (pos 4 ∷ pos 4 ∷ []) ∷ (pos 3 ∷ pos 1 ∷ pos 2 ∷ pos 1 ∷ pos 3 ∷ []) ∷ [])
    ≡ 0 ∷ 1 ∷ 1 ∷ 3 ∷ []
unfolding distinct
distinct_states = refl

-- the codes of row 1 and taxa 2 to 5
abbrev code : ℕ → ℤ
code v = value_at (pos 0) ((1, pos 3) ∷ (2, pos 1) ∷ (3, pos 2) ∷ (4, pos 1) ∷ (5, pos 3) ∷ []) v

-- taxa 2 and 3 hang from node 6, taxon 4 and node 6 from node 7, taxon 5 and node 7 from node 8, which hangs from row 1
abbrev five : Clade
five = fork 8 (tip 5) (fork 7 (tip 4) (fork 6 (tip 2) (tip 3)))

-- the ranges of nodes 6, 7 and 8 are {1}, {1} and {3}; from the tips up their sets are {1, 2}, {1} and {1, 3}
pub fit_of_marks : map (range_of unordered (λ v. only_mark (code v)) (five ∷ [])) (6 ∷ 7 ∷ 8 ∷ []) ≡ 2 ∷ 2 ∷ 8 ∷ []
unfolding up ranges row1_range range_of value_at flat_map only_mark or_else join_marks middle_marks
fit_of_marks = refl

-- the chosen states of row 1, taxon 2 and nodes 6, 7 and 8: node 8 takes row 1's 3, node 7 its set's 1, and so do node 6 and taxon 2
pub chosen_of_marks : map (state_of unordered (λ v. only_mark (code v)) (five ∷ [])) (1 ∷ 2 ∷ 6 ∷ 7 ∷ 8 ∷ [])
    ≡ pos 3 ∷ pos 1 ∷ pos 1 ∷ pos 1 ∷ pos 3 ∷ []
unfolding up chosen row1_range state_of value_at flat_map only_mark or_else join_marks middle_marks nearest_state lowest_state mark count_trailing_zeros
chosen_of_marks = refl
