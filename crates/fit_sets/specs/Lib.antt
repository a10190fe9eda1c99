-- What the functions promise beside the definitions of `fit_form`.
pub mod Steps
