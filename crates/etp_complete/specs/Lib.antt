pub mod Completions
pub mod Answers
pub mod Derived
pub mod Rounds
