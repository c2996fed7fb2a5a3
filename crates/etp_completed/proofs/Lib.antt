pub mod Values
pub mod FirstFailing
pub mod Rounds
pub mod Ends
pub mod Accepting
