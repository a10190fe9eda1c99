-- What is proved about the fit of one character of any kind, and of several characters together; and computed examples.
pub mod Clades
pub mod Sets
pub mod OneCharacter
pub mod Several
pub mod Marks
pub mod Examples
