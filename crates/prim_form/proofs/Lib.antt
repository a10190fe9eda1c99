-- Laws of the Prim Network, and that no connected network is shorter.
pub mod Examples
pub mod Unplaced
pub mod Placing
pub mod Agreement
pub mod Further
pub mod Connected
pub mod Links
pub mod Shortest
pub mod InPlace
pub mod Rings
