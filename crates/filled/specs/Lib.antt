-- An array of which the first entries are filled: none of them, and one more.
pub mod Filling
