-- Laws of lines and of the listing: what is printed, how large it is; computed examples.
pub mod LineFields
pub mod Computed
pub mod Examples
pub mod CallExamples
pub mod OneTaxon
pub mod LineSizes
pub mod InTurn
pub mod Joined
pub mod SameLines
pub mod Parts
pub mod Printed
pub mod InPrint
pub mod PrintInWords
pub mod OfFiles
pub mod Totals
pub mod Bounds
