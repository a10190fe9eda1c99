-- Laws of a build under way, for the proofs of the functions.
pub mod AnyMatrix
pub mod Choosing
pub mod Renewing
pub mod Changing
pub mod UnderWay
pub mod Lengths
pub mod StillLent
pub mod Finished
pub mod Alike
pub mod Handed
