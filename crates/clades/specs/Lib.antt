-- The fit of one character to a clade that hangs from row 1, for every kind of character: sets from the tips up, states from row 1 down,
-- and ranges. A kind says what a change costs and how sets of states are joined; unordered characters are the one that stands here.
-- It rests on lists, and for the cost of an unordered change on the difference of two codes in `difference_form`. Taken as given from
-- document 01 (Swofford and Maddison 1987): a taxon keeps its own set, an HTU joins those of its two descendants, each node takes the
-- member nearest to the state above. That this is least, and that a range has just the states of least assignments, is proved from laws of
-- a kind.
pub mod Clades
pub mod ByNode
pub mod Kinds
pub mod Character
pub mod Passes
pub mod Marks
