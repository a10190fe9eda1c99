-- Laws for the proofs of the functions.
pub mod Columns
pub mod Answered
