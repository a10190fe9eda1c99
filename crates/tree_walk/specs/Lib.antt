-- What a walk over a branching is, and what the private functions promise.
pub mod Walks
pub mod Steps
