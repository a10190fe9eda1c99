-- Laws of tree structs and of the private functions.
pub mod Entries
pub mod InMatrix
pub mod Searching
pub mod Unasked
pub mod Handing
pub mod Standing
pub mod PlacedLaws
