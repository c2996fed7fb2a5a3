pub mod FiniteMagmas
pub mod Cancelling
pub mod FiniteFacts
pub mod Theorems
pub mod Examples
