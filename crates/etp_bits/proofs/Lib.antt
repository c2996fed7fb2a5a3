pub mod NumberTests
pub mod Counting
mod Lines
mod Rows
mod Joins
