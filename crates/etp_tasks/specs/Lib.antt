pub mod Writing
pub mod Listings
pub mod Scripts
pub mod Searches
