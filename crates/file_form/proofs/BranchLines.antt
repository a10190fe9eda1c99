-- The `C` lines of a file: their form, what passes their questions, and how they are written.
pub mod Form
pub mod Passed
pub mod Written
pub mod Nodes
