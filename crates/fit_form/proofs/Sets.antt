-- Sets of states: how far a state lies from them, their join, and the middle of three.
pub mod Ends
pub mod Distance
pub mod Join
pub mod Order
pub mod Three
pub mod Single
pub mod IsKind
pub mod Near
