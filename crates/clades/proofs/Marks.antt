-- Unordered characters: marks of states, the laws of their kind, the states in use, single codes, and examples.
pub mod Bits
pub mod Distance
pub mod IsKind
pub mod States
pub mod Single
pub mod Distinct
pub mod Examples
