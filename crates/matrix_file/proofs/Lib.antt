-- Laws of the lists that are written, for the proofs of the functions.
pub mod Lists
