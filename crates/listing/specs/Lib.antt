-- What the private functions are handed and promise; what a reader has to believe stands in `listing_form`.
pub mod Handed
pub mod Found
pub mod Rooms
pub mod Sizes
