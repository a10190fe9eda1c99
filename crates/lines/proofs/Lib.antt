-- Laws for the proofs of the functions that put lines.
pub mod Puts
pub mod Fields
