-- What the call for the Prim Network answers, by the struct that it hands back, and what the private functions promise. What the network is
-- stands in `prim_form`.
pub mod Calls
pub mod Growing
