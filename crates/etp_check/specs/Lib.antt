pub mod Checks
pub mod Claimed
pub mod Refusals
pub mod Theorems
pub mod WrittenBodies
