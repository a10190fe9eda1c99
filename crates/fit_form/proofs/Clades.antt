-- Clades: their nodes, parts and costs, values found from the top down, and the clade of a branching.
pub mod Sums
pub mod Branching
pub mod Walks
pub mod Built
pub mod Taxa
pub mod Hanging
