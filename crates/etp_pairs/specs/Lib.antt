pub mod Numbering
pub mod Pairs
pub mod Judging
pub mod Refusals
pub mod Among
pub mod Theorems
