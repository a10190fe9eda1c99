-- What is proved about the calls over references: that each call answers what the one by value does.
pub mod KeptLaws
pub mod Recording
pub mod Finished
pub mod Taken
