pub mod Bindings
pub mod Indexes
pub mod Matching
pub mod Replacing
