pub mod Residues
pub mod Theorems
