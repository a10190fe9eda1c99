-- The rows of a file: names and codes within the limits, and what passes their questions.
pub mod Within
pub mod Names
pub mod PassedRows
pub mod WrittenRows
