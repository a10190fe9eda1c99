-- The laws of the definitions in specs/Rows.
-- Crates above use these laws and never the definitions' text.
pub mod Order
pub mod Points
pub mod Distance
pub mod Codes
pub mod Weights
pub mod Rows
pub mod Parts
pub mod Sums
pub mod Splits
pub mod Measure
