-- Laws of texts: parting and joining undo one another, and so do writing a number and reading it; the pieces in std's words on slices.
pub mod Parts
pub mod FirstPart
pub mod PartWalk
pub mod Slices
pub mod Digits
pub mod Codes
pub mod Plain
mod Examples
