-- The nodes of a lent matrix as a struct, and the differences between them. What a difference is stands in `difference_form`.
pub mod Steps
