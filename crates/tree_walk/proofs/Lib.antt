-- Laws of the walk over a branching, and of the descendants of its nodes.
pub mod Descending
pub mod Walks
pub mod Along
