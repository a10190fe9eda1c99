-- What the private functions promise; what a reader has to believe stands in `file_form`.
pub mod Steps
