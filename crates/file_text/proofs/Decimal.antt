-- Whole numbers in decimal, as they are read.
pub mod NumberWalk
pub mod CodeWalk
