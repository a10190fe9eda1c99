-- What the private functions promise; what a reader has to believe stands in `fit_form`.
pub mod Costs
pub mod Lists
