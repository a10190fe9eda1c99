-- Laws of six ends that are put in order.
pub mod Carrying
pub mod Codes
