pub mod Closures
pub mod Tables
pub mod Answers
pub mod Facts
