-- A matrix file of either kind: what it says, which form is right, the one file that says a job, the questions put to a file's bytes with
-- the number and the line of each refusal, and what the lent lists hold after a read.
-- It rests on the bytes, lines and decimals of `text_form`, the limits, refusals and outcomes of `matrix_form` and, for the `C` lines, the
-- branchings and branch records of `tree_form`. Taken as given from document 01: how names are written, and the order of the questions;
-- from document 02: the word for the order, the `V` line, and files with a branching of their own.
pub mod Words
pub mod Lines
pub mod Kinds
pub mod Optional
pub mod Weights
pub mod Branches
pub mod Job
pub mod Header
pub mod Rows
pub mod Reading
pub mod Written
pub mod Formed
pub mod Calls
