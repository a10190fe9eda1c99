-- The floor of a matrix, the claim that no total of any branching is below it, the consistency index of a floor and a total in thousandths
-- with what is left over, and what the calls for both answer.
-- It rests on the assignments, totals and fitted total of `fit_form` and the branchings of `tree_form`. Taken as given from document 02: a
-- character counts its weight times highest less lowest code among the taxa, row 1 among them; with a total of 0 there is no index. That
-- the floor never passes a total is proved, not taken.
pub mod Floor
pub mod Index
pub mod Calls
