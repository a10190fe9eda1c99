-- How large the rows and the lengths of a build are that are printed.
pub mod Rows
pub mod Build
