pub mod Bodies
pub mod Reading
pub mod Work
pub mod Written
pub mod Theorems
