pub mod Lemmas
pub mod Growing
pub mod Names
