-- The fit of a matrix by node number, as the passes find it.
pub mod ByNode
pub mod Single
pub mod OnlyCodes
pub mod LeastCost
