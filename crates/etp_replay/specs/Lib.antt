pub mod Steps
pub mod Lines
pub mod Replay
pub mod Validity
pub mod Theorems
