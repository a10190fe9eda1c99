-- One claim about a whole accepted matrix (document 01, "The three rivals"): which matrices are accepted, which trees count that are
-- handed in for them, and that no network, no hanging of a taxon and no choice of inner states does better than ours.
-- It computes nothing of its own and rests on all forms below: the three claims of `prim_form`, `tree_form` and `fit_form`, the build of
-- `wagner_form`, a read of `file_form`, and the questions of `matrix_form`. Taken as given from document 01: what may be a rival, and that
-- a matrix is accepted if a read accepts it or if, lent, it passes the questions; the measure is handed in.
pub mod Accepted
pub mod Demand
