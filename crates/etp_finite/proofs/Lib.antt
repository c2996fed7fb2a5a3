pub mod Lists
pub mod Naming
pub mod Storing
pub mod Ends
pub mod Accepted
pub mod Withdrawn
pub mod Meaning
