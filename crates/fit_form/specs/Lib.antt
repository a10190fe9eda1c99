-- The fit of a whole matrix to a fixed branching: closed intervals as sets of states, chosen states, ranges, fitted lengths and marks;
-- assignments of states to the HTUs with their totals; the claim that ours is least; and what the calls on a lent branching answer.
-- It rests on the fit of one character in `clades`, on the branchings and branch records of `tree_form`, and on the measure of
-- `difference_form`. Taken as given from document 01: how two intervals join, that taxa keep their codes and an HTU may have any whole
-- number, that all characters count in one total, and that a branch is marked if its fitted length is above 0 (`Marks`).
pub mod Sets
pub mod Clades
pub mod Assignments
pub mod Fit
pub mod Marks
pub mod Calls
pub mod Handing
pub mod Rival
