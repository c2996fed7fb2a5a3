pub mod Evidence
pub mod Searches
pub mod Edges
pub mod Theorems
