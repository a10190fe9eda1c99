-- The claim holds for every accepted matrix, however it was accepted.
pub mod Rows
pub mod Placements
pub mod Demand
pub mod Floor
pub mod Branches
pub mod Own
pub mod Lent
pub mod Reading
pub mod Steps
pub mod InWords
pub mod Examples
