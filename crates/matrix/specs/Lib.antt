-- What the methods of what is lent with a call answer. The questions themselves stand in `matrix_form`.
pub mod Lent
