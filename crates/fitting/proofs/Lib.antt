-- Laws of what the functions gather from the passes over a branching.
pub mod Columns
pub mod ByCharacter
pub mod LastNode
pub mod Rewriting
pub mod Gathering
pub mod Shapes
pub mod Handed
pub mod Answered
pub mod NodeRange
pub mod Passed
pub mod EveryInput
