-- What is lent with a call and what it may answer: a matrix of 126 rows of 128 codes with its weights, where the row of a node stands, the
-- seventeen refusals with their numbers, and the questions put to a lent matrix, of which the first "no" ends them.
-- It rests on lists alone. Taken as given from document 01: at most 64 taxa and 128 characters, whole-number codes from -999 to 999, taxa
-- as nodes 1 to n with row 1 the ancestor, HTUs as the nodes behind them up to 2n-2, and the order of the questions; from document 02:
-- weights from 1 to 9.
pub mod Shape
pub mod Refusals
pub mod Outcomes
pub mod Questions
pub mod NodeRows
pub mod Spans
