-- Laws of rows and of questions; computed examples.
pub mod Each
pub mod Passing
pub mod Limits
pub mod Answering
pub mod Row
pub mod NodeRows
pub mod Sample
pub mod Examples
