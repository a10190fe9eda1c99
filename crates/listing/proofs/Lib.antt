-- Laws for the proofs of the functions that put the listing.
pub mod PutFront
pub mod BlockTexts
pub mod Unpadded
pub mod ReadNames
pub mod HandedTexts
pub mod FittedTrees
pub mod Built
pub mod FoundResults
pub mod PutJobs
pub mod ReadListed
pub mod Called
pub mod Bounds
