-- What the calls over references to structs answer.
pub mod Kept
pub mod Written
