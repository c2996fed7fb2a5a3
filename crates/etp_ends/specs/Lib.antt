pub mod Undisturbed
pub mod Completeness
