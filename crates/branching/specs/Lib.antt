-- The view from the tree struct to its list, what a placement on a struct hands back, the questions of a finished tree, and what the
-- private functions promise.
-- What a reader has to believe of trees stands in `tree_form`, and speaks of lists.
pub mod Views
pub mod Testing
pub mod Index
pub mod Calls
pub mod Unasked
pub mod Nearest
