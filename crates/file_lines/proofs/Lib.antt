-- Laws of the questions put to one line, for the proofs of the functions here and above.
pub mod NameForm
pub mod CodesWalk
pub mod RowWalk
pub mod BranchLine
