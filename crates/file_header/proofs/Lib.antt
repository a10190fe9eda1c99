-- Laws of a header and of answers with a line, for the proofs of the functions here and above.
pub mod Words
pub mod Answering
pub mod OptionalWalk
pub mod HeaderWalk
pub mod WholeHeader
pub mod WeightFields
