-- The laws of the build, and its definitions computed on examples.
pub mod Examples
pub mod Closest
pub mod First
pub mod Whole
pub mod BuildLength
pub mod Matrix
pub mod Difference
pub mod EachRow
pub mod Rising
