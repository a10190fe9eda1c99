-- Laws of the definitions of this crate; computed examples.
pub mod Between
pub mod Both
pub mod Every
pub mod Keep
pub mod Maps
pub mod Rests
pub mod Sums
pub mod Numbers
pub mod Least
pub mod Picked
pub mod Arrays
pub mod Over
pub mod Stripes
pub mod Filled
pub mod Filling
pub mod Pairs
pub mod Examples
