pub mod Terms
pub mod Laws
pub mod Positions
pub mod Growth
