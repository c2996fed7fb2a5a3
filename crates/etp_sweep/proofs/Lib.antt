pub mod Sweeping
pub mod OneProfile
