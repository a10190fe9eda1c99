-- The laws of differences, medians and interval differences; computed examples.
pub mod Laws
pub mod Pairs
pub mod Largest
pub mod AtCalls
pub mod Examples
