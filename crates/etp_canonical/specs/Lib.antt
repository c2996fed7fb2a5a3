pub mod Judgements
pub mod Looking
pub mod Theorems
