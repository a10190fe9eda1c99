-- What the private functions promise; what a reader has to believe stands in `consistency_form`.
pub mod Steps
