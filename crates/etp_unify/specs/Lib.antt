pub mod Triangular
pub mod Values
pub mod Solving
pub mod Unifying
