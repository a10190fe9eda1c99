-- Laws of the texts that are read, for the proofs of the functions here and above.
pub mod ReadAs
pub mod NameBytes
pub mod FirstLine
pub mod LinesBehind
pub mod FieldsSplit
pub mod Decimal
