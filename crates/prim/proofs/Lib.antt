-- Laws of what is kept while the Prim Network grows.
pub mod Lent
pub mod Waiting
pub mod Holding
pub mod Growth
