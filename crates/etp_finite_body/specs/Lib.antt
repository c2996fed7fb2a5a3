pub mod Growing
pub mod FiniteBodies
pub mod Reading
pub mod Work
pub mod Theorems
