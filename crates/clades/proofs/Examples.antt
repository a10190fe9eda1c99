-- Unordered characters in which taxa have several states, computed on small clades below row 1. The comments say how each result is found
-- by hand. Any change costs one step, so the assignments of least length are those with the fewest changes. A node's range has the states
-- that it has in these. Row 1 takes the lowest state of its range, every other node the member of its set from the tips up that is nearest
-- to the state above: that state if it is a member, else the lowest member. A set is written as the number whose bit s stands for state s:
-- {0, 3} is 9.
use mathlib.Core.Path.{◌≡◌, refl}
use mathlib.Core.List.{List, [], ◌∷◌, map, flat_map}
use Prim.Native.Nat.{ℕ}
use lib.IntN.{ℤ, pos}
use lib.Count.{count_trailing_zeros}
use Rattle.difference_form.specs.Rows.{apart}
use Rattle.clades.specs.Clades.{Clade, tip, fork}
use Rattle.clades.specs.ByNode.{ByNode, value_at}
use Rattle.clades.specs.Character.{up, chosen, ranges, row1_range, row1_state, state_of, range_of}
use Rattle.clades.specs.Passes.{least_cost, outsides}
use Rattle.clades.specs.Marks.{mark, change, lowest_state, nearest_state, or_else, join_marks, gap_marks, middle_marks, unordered}
use Rattle.clades.proofs.Clades.Cost.{cost}

-- the own sets of row 1 and the taxa, from a list of them by number
sets : ByNode ℕ → ℕ → ℕ
unfolding value_at
sets listed v = value_at 0 listed v

-- the ranges and the chosen states of nodes, from the own sets and the clades below row 1
fitted : (ℕ → ℕ) → List Clade → List ℕ → List ℕ × List ℤ
unfolding sets up chosen ranges row1_range state_of range_of value_at flat_map or_else join_marks middle_marks nearest_state lowest_state
    mark count_trailing_zeros
fitted own clades nodes = (map (range_of unordered own clades) nodes, map (state_of unordered own clades) nodes)

-- row 1 alone has 1 and 2. Both are its range, and it takes 1
row1_alone : fitted (sets ((1, 6) ∷ [])) [] (1 ∷ []) ≡ (6 ∷ [], pos 1 ∷ [])
unfolding fitted
row1_alone = refl

-- row 1 has 0 and 2, taxon 2 has 1 and 2. There is no change if both have 2: both ranges are {2}, and both take 2, which is the lowest
-- state of neither
two_taxa : fitted (sets ((1, 5) ∷ (2, 6) ∷ [])) (tip 2 ∷ []) (1 ∷ 2 ∷ []) ≡ (4 ∷ 4 ∷ [], pos 2 ∷ pos 2 ∷ [])
unfolding fitted
two_taxa = refl

-- row 1 has 0 and 2, taxon 2 has 1 and 3. There is one change, whichever states they have: the ranges are their own sets. Row 1 takes 0,
-- and taxon 2, which has no 0, takes 1
two_taxa_apart : fitted (sets ((1, 5) ∷ (2, 10) ∷ [])) (tip 2 ∷ []) (1 ∷ 2 ∷ []) ≡ (5 ∷ 10 ∷ [], pos 0 ∷ pos 1 ∷ [])
unfolding fitted
two_taxa_apart = refl

-- taxa 2 and 3 hang from HTU 4, which hangs from row 1
abbrev three : Clade
three = fork 4 (tip 2) (tip 3)

-- row 1 has 3, taxon 2 has 0 and 2, taxon 3 has 1 and 2. There is one change if all but row 1 have 2, and else there are two or more. HTU 4
-- takes 2, and so do the taxa, since the state above them is 2; below a 3 they would take 0 and 1
state_above : fitted (sets ((1, 8) ∷ (2, 5) ∷ (3, 6) ∷ [])) (three ∷ []) (1 ∷ 4 ∷ 2 ∷ 3 ∷ [])
    ≡ (8 ∷ 4 ∷ 4 ∷ 4 ∷ [], pos 3 ∷ pos 2 ∷ pos 2 ∷ pos 2 ∷ [])
unfolding fitted
state_above = refl

-- row 1 has 1 and 2, taxon 2 has 0 and 1, taxon 3 has 0 and 2. No state is in all three sets and each is in two, so there is one change, in
-- the branch of the third: HTU 4 may have 0, 1 or 2, the others any state of their own sets. Row 1 takes 1. The set of HTU 4 from the tips
-- up is {0}, so it takes 0, and so do the taxa
one_of_three : fitted (sets ((1, 6) ∷ (2, 3) ∷ (3, 5) ∷ [])) (three ∷ []) (1 ∷ 4 ∷ 2 ∷ 3 ∷ [])
    ≡ (6 ∷ 7 ∷ 3 ∷ 5 ∷ [], pos 1 ∷ pos 0 ∷ pos 0 ∷ pos 0 ∷ [])
unfolding fitted
one_of_three = refl

-- taxa 2 and 3 hang from HTU 5, taxon 4 and HTU 5 from HTU 6, which hangs from row 1
abbrev four : Clade
four = fork 6 (tip 4) (fork 5 (tip 2) (tip 3))

-- row 1 has 0 and 3, taxon 2 has 1 and 2, taxon 3 has 1 and 3, taxon 4 has 2 and 3
abbrev sets_four : ℕ → ℕ
sets_four = sets ((1, 9) ∷ (2, 6) ∷ (3, 10) ∷ (4, 12) ∷ [])

-- the sets from the tips up: taxon 4 has its own. Taxa 2 and 3 have 1 in common, so HTU 5 has {1}. This has no state in common with that of
-- taxon 4, so HTU 6 has {1, 2, 3}
up_of_four : map (up unordered sets_four) (tip 4 ∷ fork 5 (tip 2) (tip 3) ∷ four ∷ []) ≡ 12 ∷ 2 ∷ 14 ∷ []
unfolding fitted
up_of_four = refl

-- no state is in all four sets. One change will do if taxon 2 has 1 or 2 and all others have 3, or if taxa 2 and 3 and HTU 5 have 1 and all
-- others have 3. So the ranges of row 1, HTU 6 and taxon 4 are {3}, that of HTU 5 is {1, 3}, and those of taxa 2 and 3 are their own sets.
-- Row 1, HTU 6 and taxon 4 take 3; HTU 5 takes 1, the one member of its set from the tips up, and so do taxa 2 and 3
fit_of_four : fitted sets_four (four ∷ []) (1 ∷ 6 ∷ 4 ∷ 5 ∷ 2 ∷ 3 ∷ [])
    ≡ (8 ∷ 8 ∷ 8 ∷ 10 ∷ 6 ∷ 10 ∷ [], pos 3 ∷ pos 3 ∷ pos 3 ∷ pos 1 ∷ pos 1 ∷ pos 1 ∷ [])
unfolding fitted
fit_of_four = refl

-- the same four: row 1's range, and the state that row 1 takes
row1_of_four : ◌≡◌ {A = ℕ × ℤ} (row1_range unordered sets_four (four ∷ []), row1_state unordered sets_four (four ∷ [])) (8, pos 3)
unfolding fitted
row1_of_four = refl

-- the same four: the states chosen below row 1's 3, in the order of the clade
chosen_of_four : chosen unordered sets_four (pos 3) four ≡ (6, pos 3) ∷ (4, pos 3) ∷ (5, pos 1) ∷ (2, pos 1) ∷ (3, pos 1) ∷ []
unfolding fitted
chosen_of_four = refl

-- the same four: the chosen states have one change, from 3 at HTU 6 to 1 at HTU 5, and it costs one step
length_of_four : cost unordered.step (state_of unordered sets_four (four ∷ [])) (pos 3) four ≡ 1
unfolding fitted cost change apart
length_of_four = refl

-- the same four: the sets of all that is outside of each node's clade. Outside of HTU 6's clade is row 1: {0, 3}. Outside of taxon 4 are
-- HTU 5 with {1} and row 1, without a state in common: {0, 1, 3}. Outside of HTU 5's clade are taxon 4 and row 1, which have 3 in common:
-- {3}. Outside of taxon 2 are taxon 3 with {1, 3} and those two with {3}: {3}. Outside of taxon 3 are taxon 2 with {1, 2} and those two
-- with {3}: {1, 2, 3}
outsides_of_four : outsides unordered sets_four 9 four ≡ (6, 9) ∷ (4, 11) ∷ (5, 8) ∷ (2, 8) ∷ (3, 14) ∷ []
unfolding fitted outsides
outsides_of_four = refl

-- the same four: the ranges, from row 1's own set outside, in the order of the clade
ranges_of_four : ranges unordered sets_four 9 four ≡ (6, 8) ∷ (4, 8) ∷ (5, 10) ∷ (2, 6) ∷ (3, 10) ∷ []
unfolding fitted
ranges_of_four = refl

-- taxon 2 has 0 and 1, taxon 3 has 2, taxon 4 has 3: no two have a state in common. So there is no change within the clade of taxon 4, one
-- within that of HTU 5, and two within that of HTU 6
costs_of_four : map (least_cost unordered (sets ((2, 3) ∷ (3, 4) ∷ (4, 8) ∷ []))) (tip 4 ∷ fork 5 (tip 2) (tip 3) ∷ four ∷ [])
    ≡ 0 ∷ 1 ∷ 2 ∷ []
unfolding fitted least_cost gap_marks
costs_of_four = refl

-- taxa 2 and 3 hang from HTU 6, taxa 4 and 5 from HTU 7, and both HTUs from HTU 8, which hangs from row 1
abbrev five : Clade
five = fork 8 (fork 6 (tip 2) (tip 3)) (fork 7 (tip 4) (tip 5))

-- taxon 2 has 2, taxon 3 has 1 and 3, row 1 and taxa 4 and 5 have 0, 1 and 2
abbrev sets_five : ℕ → ℕ
sets_five = sets ((1, 7) ∷ (2, 4) ∷ (3, 10) ∷ (4, 7) ∷ (5, 7) ∷ [])

-- taxa 2 and 3 have no state in common. One change will do in the branch of taxon 3, if all others have 2, or in the branch of taxon 2, if
-- all others have 1. So the ranges of taxa 2 and 3 are their own sets, and all others are {1, 2}. Row 1 takes 1, and so do all others that
-- have it: all but taxon 2
fit_of_five : fitted sets_five (five ∷ []) (1 ∷ 8 ∷ 6 ∷ 2 ∷ 3 ∷ 7 ∷ 4 ∷ 5 ∷ [])
    ≡ (6 ∷ 6 ∷ 6 ∷ 4 ∷ 10 ∷ 6 ∷ 6 ∷ 6 ∷ [], pos 1 ∷ pos 1 ∷ pos 1 ∷ pos 2 ∷ pos 1 ∷ pos 1 ∷ pos 1 ∷ pos 1 ∷ [])
unfolding fitted
fit_of_five = refl

-- the same five: the sets of all that is outside of each node's clade. Outside of HTU 8's clade is row 1, outside of HTU 6's are row 1 and
-- HTU 7: {0, 1, 2}. Of these taxon 3 has 1, so outside of taxon 2 it is {1}; taxon 2 has 2, so outside of taxon 3 it is {2}. Outside of HTU
-- 7's clade are row 1 and HTU 6 with {1, 2, 3}: {1, 2}. Taxa 4 and 5 have both of these, so it is {1, 2} outside of either
outsides_of_five : outsides unordered sets_five 7 five
    ≡ (8, 7) ∷ (6, 7) ∷ (2, 2) ∷ (3, 4) ∷ (7, 6) ∷ (4, 6) ∷ (5, 6) ∷ []
unfolding fitted outsides
outsides_of_five = refl

-- the same five: one change within the clade of HTU 6, none within that of HTU 7, and none more within that of HTU 8
costs_of_five : map (least_cost unordered sets_five) (fork 6 (tip 2) (tip 3) ∷ fork 7 (tip 4) (tip 5) ∷ five ∷ []) ≡ 1 ∷ 0 ∷ 1 ∷ []
unfolding fitted least_cost gap_marks
costs_of_five = refl
