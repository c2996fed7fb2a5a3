pub mod Cutting
pub mod Naming
pub mod FilledLedgers
pub mod Summing
