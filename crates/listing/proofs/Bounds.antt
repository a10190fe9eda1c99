-- How large the numbers, nodes and codes are that are printed, and with that how many bytes a listing has.
pub mod Fields
pub mod Fit
pub mod LineNumbers
pub mod LineRooms
pub mod Room
pub mod Output
