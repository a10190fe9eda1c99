-- The passes over a branching along its walk.
pub mod Standing
pub mod Up
pub mod Row1
pub mod Down
pub mod Found
