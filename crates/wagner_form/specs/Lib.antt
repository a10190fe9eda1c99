-- The Wagner tree: which taxon is placed next in either order of placing, the whole build from row 1 alone, the length of the tree under
-- the median codes, and the matrix with the rows of the HTUs behind the taxa.
-- It rests on the placement of `tree_form`, which it repeats, and on the differences of `difference_form`. Taken as given from document
-- 01: the first taxon is linked to row 1, and by advancement the lower row goes first among equals; from document 02: the closest first
-- goes by pairs of a taxon and an interval, the lower row first and then the lower end.
pub mod Next
pub mod Build
pub mod Matrix
pub mod Rising
