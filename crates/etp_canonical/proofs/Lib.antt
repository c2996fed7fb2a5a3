pub mod Found
pub mod Offences
pub mod Deciding
