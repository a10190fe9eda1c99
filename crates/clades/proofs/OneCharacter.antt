-- One character of any kind on a clade below row 1: its least cost, chosen states, the range of every node, vanishing branches, weights.
pub mod Basic
pub mod Passes
pub mod Chosen
pub mod Outside
pub mod Range
pub mod CharacterFit
pub mod Reach
pub mod LookedUp
pub mod Row1
pub mod Vanishing
pub mod Weighed
