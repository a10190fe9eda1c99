-- Laws about the form of a matrix file. `File.Accepted` has the law that joins the file of a job and the questions.
pub mod Rows
pub mod BranchLines
pub mod File
pub mod Examples
pub mod Lists
pub mod ReadExamples
mod OptionalExamples
