pub mod Kept
pub mod PrintedLines
pub mod Again
