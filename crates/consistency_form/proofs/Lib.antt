-- Laws of the floor and of the index; that no floor passes a total; computed examples.
pub mod Ends
pub mod NeverPasses
pub mod Division
pub mod Examples
