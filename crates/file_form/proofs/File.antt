-- A whole file: what passes the questions, and the file of a job.
pub mod Outcomes
pub mod InTurn
pub mod OptionalLine
pub mod WeightFields
pub mod HeaderRead
pub mod FileLength
pub mod FileOfRead
pub mod ReadOfFile
pub mod Accepted
pub mod AcceptedRows
pub mod Numbered
pub mod Longer
pub mod FirstForm
pub mod Order
