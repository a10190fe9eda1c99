-- What the functions promise of one line; what a reader has to believe stands in `file_form`.
pub mod Steps
