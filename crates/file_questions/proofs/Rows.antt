-- The rows of a file: the walk that puts their questions.
pub mod RowsWalk
