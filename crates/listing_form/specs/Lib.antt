-- What is printed: each kind of line, the blocks of lines of a job, `output`, which is every byte for a file's bytes, what the call for it
-- answers, and the claim that the numbers in print are such that no rival does better.
-- It rests on a read of `file_form`, on what `prim_form`, `wagner_form`, `fit_form` and `consistency_form` compute, and on the claim of
-- `rivals`. Taken as given from document 01: the letters, fields and order of the lines, HTUs as `#1`, `#2`, .., and the one line of a
-- refusal; from document 02: the `c` line, and that an `F` file has no network and no build. That 1,048,576 bytes are lent was decided
-- here.
pub mod Lines
pub mod Kinds
pub mod Meant
pub mod Blocks
pub mod Listing
pub mod Calls
pub mod InPrint
