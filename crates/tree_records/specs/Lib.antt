-- What the lengths mean that go into branch records. What branch records are stands in `tree_form`.
pub mod Lengths
