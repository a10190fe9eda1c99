-- The Prim Network, and what it is compared with: any list of links over which every taxon can be reached from row 1.
-- It rests on lists alone: taxa are the numbers 1 to n, and their difference is handed in, whatever it is. Taken as given from document
-- 01: row 1 is placed first, the lowest row goes next among equals, the earliest placed taxon is joined among equals, and a rival may have
-- rings, repeats and a taxon linked to itself. That no rival is shorter is proved of every difference that is the same both ways.
pub mod Network
pub mod Rival
