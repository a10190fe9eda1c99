-- The fit of a whole matrix to a branching, for characters of any kinds and for ordered ones: rows in which each taxon has a state, totals, the third rival, weights.
pub mod AnyKind
pub mod Proper
pub mod Totals
pub mod Mixed
pub mod CharacterLength
pub mod Lengths
pub mod ThirdRival
pub mod AnyWeights
pub mod Letters
pub mod Alike
