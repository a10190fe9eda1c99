-- What the functions promise of a text; what a reader has to believe stands in `file_form`.
pub mod Steps
