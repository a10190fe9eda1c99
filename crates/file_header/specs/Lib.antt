-- What the functions promise of a header; what a reader has to believe stands in `file_form`.
pub mod Steps
