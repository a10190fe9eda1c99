-- The table is computed by the checker.
pub mod Computed
