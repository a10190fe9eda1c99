-- Laws of the walks through a text, for the proofs of the functions.
pub mod LinesWalk
pub mod Rows
pub mod BranchLines
pub mod FileWalk
