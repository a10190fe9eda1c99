-- How far rows lie apart: the absolute difference of two codes, the middle one of three, the difference of two rows by the weights of the
-- characters, the interval difference, and the measure, which the forms above take as an argument; and what the calls on nodes answer.
-- It rests on the rows and questions of `matrix_form`. Taken as given from document 01 (Farris 1970): a difference is the sum of the
-- absolute differences of the codes, a median is taken character by character, and an interval difference is half of a sum. That this half
-- is whole and equals the difference from the median is no part of a definition: laws of `proofs/` say so.
pub mod Rows
pub mod Calls
