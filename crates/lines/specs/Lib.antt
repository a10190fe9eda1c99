-- What the private functions are handed and promise; what a reader has to believe stands in `listing_form`.
pub mod Fields
pub mod Put
pub mod Puts
