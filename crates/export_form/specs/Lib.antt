-- What the exported calls hand back where the calls below have enums: the number of a refusal, of a kind of file and of an order of
-- placing, with 0 where there is none; and the question put to an order's number.
-- It rests on the outcomes, sizes and refusals of `matrix_form`, the header of `file_form`, the index of `consistency_form`, the sizes of
-- the lists of a fit in `fit_form`, and the order that a header means in `listing_form`. Taken as given from document 01: what is asked of
-- a number in a file is asked of the same number handed to a call, by the same refusal, at the file's place in the order.
pub mod Orders
pub mod Answers
pub mod Calls
