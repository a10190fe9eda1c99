-- Trees as lists of immediate ancestors by node number: which of them are growing trees and branchings, their length, a placement of a
-- taxon, the branch records in which a tree is lent and handed back, the questions put to trees, and the hangings that a placement is
-- compared with.
-- It rests on the rows and questions of `matrix_form` and on the medians and interval difference of `difference_form`. Taken as given from
-- document 01: the ancestor is above one node, an HTU above two, no other taxon above any; HTUs are numbered from n+1 as they are made; a
-- new one takes the medians and stays even where it equals another node; among equal intervals the least lower end is taken.
pub mod Ancestors
pub mod Nodes
pub mod Growing
pub mod Facts
pub mod Hanging
pub mod Within
pub mod Branches
pub mod Asking
pub mod LentNumbers
pub mod RowLengths
pub mod Placing
pub mod Rival
