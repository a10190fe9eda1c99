-- What the call for the Wagner tree answers, by the struct that it hands back, and what the private functions promise. What the tree is
-- stands in `wagner_form`.
pub mod Calls
pub mod Order
pub mod Closeness
pub mod Steps
