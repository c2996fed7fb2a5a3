pub mod Names
pub mod Found
pub mod Order
pub mod Forms
pub mod Terms
pub mod Unique
