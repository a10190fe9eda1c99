-- The lent lists: their sizes, and what they hold once a job has been written into them.
pub mod ReadLists
pub mod Sizes
