pub mod Grammars
pub mod Reading
pub mod Tallies
pub mod Theorems
