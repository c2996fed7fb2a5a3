pub mod Onto
pub mod Putting
pub mod Concluding
pub mod Turning
pub mod FiniteReach
pub mod Turned
