-- The `C` lines of a file: the walk that puts their questions, and the tree that they say.
pub mod Walk
pub mod Said
pub mod Tree
