pub mod Written
pub mod Grammar
pub mod Refusals
pub mod Machine
pub mod Theorems
