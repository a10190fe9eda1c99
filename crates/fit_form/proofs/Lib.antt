-- What is proved about fitting: laws of sets, of clades and of whole matrices, the third rival; worked examples.
pub mod Bits
pub mod Cases
pub mod Marks
pub mod Sets
pub mod Clades
pub mod Matrix
pub mod Adding
pub mod Examples
pub mod CallExamples
pub mod Refusals
pub mod Sample
pub mod Handed
