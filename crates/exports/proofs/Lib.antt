-- Laws for the proofs of the exported calls.
pub mod OwnIndexed
pub mod Fitted
