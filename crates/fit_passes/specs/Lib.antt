-- What the plan and the passes promise; what a reader has to believe stands in `fit_form`.
pub mod Plans
pub mod Steps
