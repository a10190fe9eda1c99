-- Clades: their nodes, parts and costs, values found from the top down, and assignments made of two.
pub mod Sides
pub mod Nodes
pub mod Parts
pub mod Lookup
pub mod Downward
pub mod Cost
pub mod Agree
pub mod Around
pub mod Spread
