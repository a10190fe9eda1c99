-- The lent lists: what is written into them.
pub mod RowFormed
pub mod BranchLine
pub mod WrittenPieces
pub mod ReadWalk
pub mod NameWritten
pub mod WeightsWritten
