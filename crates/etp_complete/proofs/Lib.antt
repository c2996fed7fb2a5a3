pub mod Lists
pub mod FirstSides
pub mod Directions
pub mod Goings
pub mod Deriving
pub mod Meaning
