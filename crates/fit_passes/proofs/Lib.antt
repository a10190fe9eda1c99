-- Laws of the passes over a branching.
pub mod Matrix
pub mod Pass
