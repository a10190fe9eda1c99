-- Laws of what the exported calls answer.
pub mod OrderNumbers
pub mod Examples
pub mod Zero
pub mod IndexSaid
pub mod Listed
pub mod InWords
